-- `yaffledesk::yaffledesk_verdict` meets its contract: it is the code of the planner's answer, which is small.
use mathlib.Core.Path.{sym, ap, ◌∙◌, subst}
use Prim.Native.Nat.{◌<◌, ◌^◌}
use native.Mathlib.Omega.{arith}
use Rattle.yaffledesk.specs.Codes.{verdict_code}
use Rattle.yaffledesk.proofs.CodeBounds.{verdict_small}
use Rattle.yaffledesk.proofs.yaffledesk_verdict.Goals as goal
use Rattle.planner.specs.Results.{Decision}

pub verdict_code-requires : goal.verdict_code-requires
verdict_code-requires c =
    let s = c.args.plan.now in
    subst (λ (x : Decision). verdict_code x < 2 ^ 64) (sym c.verdict.ensures) (verdict_small s (λ i. omega (arith, c.shared_slice_known-1.given i)))

pub returns : goal.returns
returns c = c.verdict_code.ensures ∙ ap verdict_code c.verdict.ensures
