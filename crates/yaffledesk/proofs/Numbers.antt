-- What stands in a refusal's code.
use mathlib.Core.Path.{◌≡◌}
use Prim.Native.Nat.{◌%◌}
use native.Mathlib.Omega.{arith}
use Rattle.planner.specs.declared.Refusal.{Refusal}
use Rattle.planner.proofs.RefusalBounds.{Small}
use Rattle.yaffledesk.specs.Codes.{refusal_code}

-- the low 8 bits are document 01's number of the cause: what an operation refuses with is small
pub code_number : (r : Refusal) → Small r → refusal_code r % 256 ≡ r.number
code_number r h = omega (arith, h.number)
