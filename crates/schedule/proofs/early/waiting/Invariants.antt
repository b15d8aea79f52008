-- `schedule::waiting` meets its contract. The invariant: going on from here comes to what going
-- on from the start comes to.
use mathlib.Core.List.{List}
use mathlib.Core.Path.{◌≡◌}
use Prim.Native.Nat.{ℕ}
use lib.Bits.{bit_or}
use Rattle.words.specs.model.Loops.{each}
use Rattle.order.specs.Stored.{elements, number_of, row}
use Rattle.schedule.proofs.early.waiting.Given as goal

abbrev pub step : List ℕ → ℕ → ℕ → ℕ
step rows w i = bit_or w (row rows i)

abbrev pub invariant-loop-i : goal.invariant-loop-i
invariant-loop-i l =
    each elements (step l.rows) (number_of l.held) (number_of l.i-iterator.left) ≡ each elements (step l.rows) (number_of l.initial.held) (number_of l.initial.i-iterator.left)
