-- `schedule::waiting` meets its contract. The invariant: going on from here comes to what going
-- on from the start comes to.
use mathlib.Core.Path.{ap, ap₂, ◌∙◌}
use Prim.Native.Nat.{ℕ}
use lib.Bits.{bit_or}
use Rattle.words.specs.Bits.{minus}
use Rattle.words.specs.model.Loops.{each}
use Rattle.order.specs.Stored.{elements, number_of}
use Rattle.order.proofs.Stored.{number_of_lem, number_none, number_all}
use Rattle.order.proofs.Turns.{members_again, members_end}
use Rattle.schedule.proofs.Levels.{waiting_members}
use Rattle.schedule.proofs.early.waiting.Invariants.{step}
use Rattle.schedule.proofs.early.waiting.Goals as goal

pub loop-i-preserved : goal.loop-i-preserved
loop-i-preserved c =
    let l = c.loop-i in
    members_again _ _ c.in-Some.ensures.steps (step c.args.rows.now) _ l.invariant
    (number_of_lem _ c.union-held.ensures ∙ ap (bit_or (number_of l.held)) (number_of_lem _ c.row.ensures))

pub returns : goal.returns
returns c =
    let a = c.args in
    members_end _ c.in-None.ensures.steps.0 (step a.rows.now) _ c.loop-i.invariant
    ∙ ap₂ (each elements (step a.rows.now)) number_none (ap number_of c.into_iter-i-iterator.ensures.into_iter_gives ∙ number_of_lem _ c.minus-i-items.ensures ∙ ap (λ (w : ℕ). minus w (number_of a.done)) number_all)
    ∙ waiting_members a.rows.now (number_of a.done)
