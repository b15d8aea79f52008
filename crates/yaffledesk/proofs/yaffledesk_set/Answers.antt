-- `yaffledesk::yaffledesk_set` meets its contract: it is the set in the planner's answer, which is one word.
use mathlib.Core.Path.{ap, ◌∙◌}
use Prim.Native.Nat.{◌%◌, ◌^◌}
use native.Mathlib.Nat.{mod-eq_of_lt}
use native.Mathlib.Omega.{arith}
use Rattle.yaffledesk.specs.Codes.{shown_word}
use Rattle.yaffledesk.proofs.CodeBounds.{shown_small}
use Rattle.yaffledesk.proofs.yaffledesk_set.Goals as goal
use Rattle.planner.specs.Results.{Decision}

pub returns : goal.returns
returns c =
    let s = c.args.plan.now in
    c.shown_word.ensures
    ∙ ap (λ (x : Decision). shown_word x % 2 ^ 64) c.verdict.ensures
    ∙ mod-eq_of_lt (shown_small s (λ i. omega (arith, c.shared_slice_known-1.given i)))
