-- `schedule::ready` meets its contract. From what its calls give.
use mathlib.Core.Path.{◌∙◌, ap, ap₂}
use Prim.Native.Nat.{ℕ}
use Rattle.words.specs.Bits.{minus}
use Rattle.order.specs.Stored.{number_of}
use Rattle.order.proofs.Stored.{number_of_lem, number_all}
use Rattle.schedule.specs.model.Levels.{ready_of}
use Rattle.schedule.proofs.early.ready.Goals as goal

pub returns : goal.returns
unfolding ready_of
returns c =
    let done = c.args.done in
    number_of_lem _ c.minus-2.ensures
    ∙ ap (λ (x : ℕ). minus x (number_of done)) (number_of_lem _ c.minus.ensures ∙ ap₂ minus number_all c.waiting.ensures)
