-- `yaffledesk::yaffledesk_crew_check` meets its contract: it is the code of the planner's answer, which is small.
use mathlib.Core.Path.{◌≡◌, sym, ap, ◌∙◌, subst}
use Prim.Native.Nat.{◌<◌, ◌^◌}
use native.Mathlib.Omega.{arith}
use Rattle.planner.specs.Results.{CrewChecked}
use Rattle.planner.specs.CrewCheck.{crew_check_answer}
use Rattle.yaffledesk.specs.Codes.{crew_check_code}
use Rattle.yaffledesk.proofs.CodeBounds.{crew_small}
use Rattle.yaffledesk.proofs.yaffledesk_crew_check.Goals as goal

pub crew_check_code-requires : goal.crew_check_code-requires
crew_check_code-requires c =
    let a = c.args in
    let e : c.crew_check.result ≡ crew_check_answer a.plan.now a.starts.now a.durations.now = c.crew_check.ensures in
    subst (λ (x : CrewChecked). crew_check_code x < 2 ^ 64) (sym e)
    (crew_small a.plan.now a.starts.now a.durations.now (λ i. omega (arith, c.shared_slice_known-2-1.given i)))

pub returns : goal.returns
returns c = c.crew_check_code.ensures ∙ ap crew_check_code c.crew_check.ensures
