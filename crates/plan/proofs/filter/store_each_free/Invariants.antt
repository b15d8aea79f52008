-- `plan::filter::store_each_free` meets its contract: the rows are what the records so far make of them.
use mathlib.Core.Path.{◌≡◌}
use mathlib.Core.List.{List}
use Prim.Native.Nat.{ℕ}
use Rattle.words.specs.model.Loops.{upto}
use Rattle.plan.specs.model.Lists.{RecordsOf}
use Rattle.plan.specs.model.ArcRows.{put_free}
use Rattle.plan.proofs.filter.store_each_free.Given as goal

abbrev pub invariant-loop-r : goal.invariant-loop-r
invariant-loop-r l = (t : List ℕ) → RecordsOf t l.arcs → l.rows ≡ upto (put_free t) l.r-index l.initial.rows
