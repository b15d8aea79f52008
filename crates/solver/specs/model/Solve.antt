-- The solver, as functions on lists: a start, a round (a search, and the walk back where it found
-- something), and rounds until a search finds nothing. m is the number of elements in use: those from m on
-- have no units, and are passed over.
use Rattle.std.specs.Prelude.{ℕ, ◌%◌, Bool, cond, List, replicate, ◌==◌, nat_le, nat_lt}
use Rattle.words.specs.Bits.{bit, with_bit}
use Rattle.words.specs.Members.{count}
use Rattle.words.specs.model.Loops.{each, upto, run}
use Rattle.order.specs.Stored.{elements, cells, row as set_at, put_row}
use Rattle.order.specs.model.Places.{positive}
use Rattle.solver.specs.model.Search.{Look, Reached, reached, begun, reach}
use Rattle.solver.specs.model.Network.{Network, leaders, walk, augmented, handing}

unfoldable pub blanks : ℕ → List ℕ
blanks v = replicate elements v

-- a table of empty sets
unfoldable pub blank_rows : List ℕ
blank_rows = replicate (cells elements) 0

-- ---- the start: the elements with the fewest after them hand over first

-- the elements by how many come after them, a word for each number; one with none after it has nobody to
-- hand over to, and is left out
abbrev pub rank_of : ℕ → ℕ
rank_of row = count elements (bit row) % elements

abbrev pub ranked_at : ℕ → ℕ → List ℕ → List ℕ
ranked_at row i b = cond (row == 0) b (put_row b (rank_of row) (with_bit (set_at b (rank_of row)) i))

abbrev pub ranking : List ℕ → ℕ → List ℕ → List ℕ
ranking rows i b = ranked_at (set_at rows i) i b

unfoldable pub ranked : ℕ → List ℕ → List ℕ
ranked m rows = upto (ranking rows) m blank_rows

-- an element hands over to all that it is before; then each word of the ranking
-- that has elements, lowest number first
abbrev pub hand_over : List ℕ → Network → ℕ → Network
hand_over rows s i = each elements (handing i) s (set_at rows i)

abbrev pub hand_rank : List ℕ → List ℕ → Network → ℕ → Network
hand_rank rows b s c = each elements (hand_over rows) s (set_at b c)

unfoldable pub started : List ℕ → List ℕ → Network → Network
started rows b s = each elements (hand_rank rows b) s (leaders elements b)

-- ---- rounds

-- what a round leaves, with the search that it made
pub record Round : Type 0 where
  pub now : Network
  pub search : Look

abbrev pub round : Network → Look → Round
round s q = record { now = s; search = q }

-- a search goes on from the elements with some after them
abbrev pub sought : ℕ → List ℕ → Network → Reached
sought m rows s =
    reach elements rows s.givers (positive m s.right)
    (reached (begun (leaders m rows) (positive m s.left)) (blanks elements) (blanks 0))

unfoldable pub rounded : ℕ → List ℕ → Network → Round
rounded m rows s =
    let q = sought m rows s in
    round (cond (nat_lt q.search.at elements)
    (augmented elements q.lefts q.rights (walk s q.search.at)) s)
    q.search

-- a search that found nothing ends it
abbrev pub settled : Round → Bool
settled x = nat_le elements x.search.at

abbrev pub next : ℕ → List ℕ → Round → Round
next m rows x = rounded m rows x.now

abbrev pub settle : ℕ → ℕ → List ℕ → Round → Round
settle m n rows x = run settled (λ y. y) (λ y. y) (next m rows) n x

-- by a ranking b
unfoldable pub solved : ℕ → ℕ → List ℕ → List ℕ → Network → Round
solved m n rows b s = settle m n rows (rounded m rows (started rows b s))
