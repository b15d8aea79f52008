-- `plan::wait::raise_waits` meets its contract: the waits are what the records so far make of them.
use mathlib.Core.Path.{◌≡◌}
use mathlib.Core.List.{List}
use Prim.Native.Nat.{ℕ}
use Rattle.words.specs.model.Loops.{upto}
use Rattle.plan.specs.model.Lists.{RecordsOf}
use Rattle.plan.specs.model.Waits.{put_wait}
use Rattle.plan.proofs.wait.raise_waits.Given as goal

abbrev pub invariant-loop-r : goal.invariant-loop-r
invariant-loop-r l = (t : List ℕ) → RecordsOf t l.arcs → l.waits ≡ upto (put_wait t) l.r-index l.initial.waits
