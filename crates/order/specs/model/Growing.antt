-- Further arcs added to rows: each that they do not hold yet (what that comes to is `extended_by_lem` of
-- proofs/Orders.antt; code finds what an element gains by all its arcs at once,
-- proofs/Gaining.antt). For any n.
use Rattle.std.specs.Prelude.{ℕ, zero, suc, cond, List}
use Rattle.words.specs.model.Loops.{each}
use Rattle.order.specs.Stored.{row}
use Rattle.order.specs.Rows.{after, grow}

-- the arc from x to y
abbrev pub grown : ℕ → ℕ → List ℕ → ℕ → List ℕ
grown n x rows y = cond (after rows x y) rows (grow n rows x y)

-- the arcs from x to each member of w, lowest first
unfoldable pub grow_from : ℕ → List ℕ → ℕ → ℕ → List ℕ
grow_from n rows x w = each n (grown n x) rows w

-- the arcs that the first k rows of a table draw, from the last of these rows down
unfoldable pub grow_by : ℕ → List ℕ → ℕ → List ℕ → List ℕ
grow_by n arcs zero rows = rows
grow_by n arcs (suc k) rows = grow_by n arcs k (grow_from n rows k (row arcs k))
