-- An order of n elements as a table of n sets: the members of row i are
-- the elements that i is before. For any n.
use Rattle.std.specs.Prelude.{◌≡◌, ℕ, zero, suc, Bool, true, false, cond, ◌||◌, ◌↔◌, List, [], ◌∷◌, length, replicate, ◌==◌, bit_or}
use Rattle.words.specs.Bits.{bit, with_bit}
use Rattle.words.specs.Members.{first}
use Rattle.order.specs.Before.{Before}
use Rattle.order.specs.Arcs.{Arc, arc}
use Rattle.order.specs.Stored.{cells, row, row_table, RowsFit}

-- whether row i has the member j: whether i is before j
abbrev pub after : List ℕ → ℕ → ℕ → Bool
after rows i j = bit (row rows i) j

-- THE STATED MEANING, on which all else rests: n rows of n digits say
-- which element is before which by the arcs A
pub record Represents (n : ℕ) (rows : List ℕ) (A : ℕ → ℕ → Type 0) : Type 0 where
  pub long : length rows ≡ cells n
  pub fit : RowsFit n rows
  pub means : (i j : ℕ) → (after rows i j ≡ true) ↔ Before A i j

-- ---- adding an arc from x to y

-- what an element gains that is x, or before x: y, and all that y is before
abbrev pub gain : List ℕ → ℕ → ℕ
gain rows y = with_bit (row rows y) y

-- row i, which is w, where the arc starts at x
abbrev pub gained : ℕ → ℕ → ℕ → ℕ → ℕ
gained x g i w = cond (i == x || bit w x) (bit_or w g) w

-- the rows so extended
unfoldable pub grow : ℕ → List ℕ → ℕ → ℕ → List ℕ
grow n rows x y = row_table n (λ i. gained x (gain rows y) i (row rows i))

-- ---- the rows of arcs

-- of a list: the arcs are added to the rows without arcs
unfoldable pub rows_of : ℕ → List Arc → List ℕ
rows_of n [] = replicate (cells n) 0
rows_of n (a ∷ arcs) = grow n (rows_of n arcs) a.from a.to

-- the arcs from i to the members of w below k, put before other arcs
unfoldable pub arcs_from : ℕ → ℕ → ℕ → List Arc → List Arc
arcs_from i w zero arcs = arcs
arcs_from i w (suc k) arcs =
    elim (bit w k) [ true ↦ arc i k ∷ arcs_from i w k arcs | false ↦ arcs_from i w k arcs ]

-- the arcs that the first k of n rows draw: from i to each member of row i
unfoldable pub arcs_in : ℕ → List ℕ → ℕ → List Arc
arcs_in n rows zero = []
arcs_in n rows (suc k) = arcs_from k (row rows k) n (arcs_in n rows k)

-- ---- circles

-- the lowest element that is before itself; n where none is
unfoldable pub circle_in : ℕ → List ℕ → ℕ
circle_in n rows = first n (λ i. after rows i i)
