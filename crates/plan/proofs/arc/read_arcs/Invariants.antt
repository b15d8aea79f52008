-- `plan::arc::read_arcs` meets its contract: no record before the place of the loop is refused, and their arcs are
-- stored, so that they tell which arc is repeated.
use mathlib.Core.Path.{◌≡◌}
use mathlib.Core.Bool.{true}
use mathlib.Core.List.{List}
use Prim.Native.Nat.{ℕ, ◌<◌}
use Rattle.words.specs.model.Loops.{upto}
use Rattle.plan.specs.Causes.{is_readable}
use Rattle.plan.specs.model.Lists.{RecordsOf, type_number}
use Rattle.plan.specs.model.Phases.{put_arc, arc_in}
use Rattle.plan.proofs.arc.read_arcs.Given as goal

abbrev pub invariant-loop-i : goal.invariant-loop-i
invariant-loop-i l =
    (t : List ℕ) → RecordsOf t l.arcs
    → (l.rows ≡ upto (put_arc (type_number l.of) t) l.i l.initial.rows)
    × ((k : ℕ) → k < l.i → is_readable (arc_in (type_number l.of) l.place l.m t k) ≡ true)
