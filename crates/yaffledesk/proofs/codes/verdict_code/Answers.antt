-- `yaffledesk::codes::verdict_code` meets its contract, by the cases of the answer.
use mathlib.Core.Path.{sym, ap, ◌∙◌, subst}
use Prim.Native.Nat.{◌<◌, ◌^◌}
use native.Mathlib.Omega.{arith}
use Rattle.yaffledesk.specs.Codes.{verdict_code}
use Rattle.yaffledesk.proofs.codes.verdict_code.Goals as goal
use Rattle.planner.specs.Results.{Decision}

pub overflow_mul-kinds : goal.overflow_mul-kinds
overflow_mul-kinds c = record { fits = omega (arith, subst (λ (x : Decision). verdict_code x < 2 ^ 64) c.in-Ok.is c.requires) }

pub overflow_add-activities : goal.overflow_add-activities
overflow_add-activities c = record { fits = omega (arith, subst (λ (x : Decision). verdict_code x < 2 ^ 64) c.in-Ok.is c.requires) }

pub pack-requires : goal.pack-requires
pack-requires c = omega (arith, subst (λ (x : Decision). verdict_code x < 2 ^ 64) c.in-Ok.is c.requires)

pub returns-in-Ok : goal.returns-in-Ok
returns-in-Ok c = c.pack.ensures ∙ sym (ap verdict_code c.in-Ok.is)

pub cause_code-requires : goal.cause_code-requires
cause_code-requires c = subst (λ (x : Decision). verdict_code x < 2 ^ 64) c.in-Err.is c.requires

pub returns-in-Err : goal.returns-in-Err
returns-in-Err c = c.cause_code.ensures ∙ sym (ap verdict_code c.in-Err.is)
