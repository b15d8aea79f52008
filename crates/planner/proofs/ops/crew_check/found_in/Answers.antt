-- `planner::ops::crew_check::found_in` meets its contract: the waits are those of the file.
use mathlib.Core.Path.{ap, ◌∙◌}
use mathlib.Core.List.{List}
use Prim.Native.Nat.{ℕ}
use native.Mathlib.Omega.{arith}
use lib.ListN.{length}
use Rattle.order.specs.Rows.{after}
use Rattle.schedule.specs.Checks.{check_of}
use Rattle.schedule.specs.model.Arrays.{crew_net, with_waits, work_of}
use Rattle.schedule.proofs.Weights.{check_weights}
use Rattle.planner.proofs.TimesLaws.{weights_in}
use Rattle.planner.proofs.ops.crew_check.found_in.Goals as goal

pub returns : goal.returns
returns c =
    let a = c.args in
    let listed = c.requires.1 in
    let work = work_of a.opened.now.plan.now.demand a.opened.now.plan.now.available a.starts.now a.worked.now in
    c.crew_check.ensures
    ∙ ap (λ (waits : List ℕ). check_of
    (crew_net a.opened.now.rows (with_waits a.worked.now waits) a.starts.now) work) c.store_waits.ensures
    ∙ check_weights (length a.starts.now) (after a.opened.now.rows) _ _
    (λ i j l h. weights_in a.s.now a.worked.now i j (omega (arith, listed.few)) (omega (arith, listed.few))) work
