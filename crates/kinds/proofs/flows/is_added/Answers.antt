-- `kinds::flows::is_added` meets its contract: the test is the one of the mark.
use mathlib.Core.Path.{◌≡◌, ap, ◌∙◌}
use Prim.Native.Nat.{ℕ, suc, ◌-◌, ◌<◌}
use native.Mathlib.Omega.{arith}
use Rattle.words.specs.Bits.{bit}
use Rattle.order.specs.Rows.{after}
use Rattle.order.proofs.Stored.{number_of_lem}
use Rattle.kinds.proofs.NodeUnits.{mark_told}
use Rattle.kinds.proofs.flows.is_added.Goals as goal

one_less : {x : ℕ} → 0 < x → suc (x - 1) ≡ x
one_less h = omega arith

pub returns : goal.returns
returns c =
    let a = c.args in
    mark_told (after a.job.now) a.m (a.from - 1) a.from a.j (one_less (omega arith)) (omega arith) (omega arith)
    (c.has.ensures ∙ ap (λ (w : ℕ). bit w a.j) (number_of_lem c.row.result c.row.ensures))
