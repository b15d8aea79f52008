-- How many elements there are, and how sets of them are stored: THE ONLY PLACE THAT KNOWS THE WIDTH. A set
-- means a number (its members are the places of the number's digits 1), and a table of sets is a list of
-- words with a row for each set. Everything else speaks of the numbers, for any number of elements; the laws
-- of proofs/Stored.antt are all that is known of this.
use Rattle.std.specs.Prelude.{ℕ, ◌-◌, ◌^◌, ◌<◌, List, slice_index, slice_set}
use Rattle.words.specs.Bits.{word_bits}
use Rattle.words.specs.Tables.{table}
use Rattle.order.specs.declared.Set.{Set}

-- the number of elements, `order::ELEMENTS`
abbrev pub elements : ℕ
elements = 64

-- what the number of a set is below. (It stays shut: `omega` takes no number of more than 38 digits, and
-- reads this as one unknown.)
unfoldable pub bound : ℕ
bound = 2 ^ elements

-- ---- a set

-- the number that a set means
unfoldable pub number_of : Set → ℕ
number_of s = s.word

-- the set that a number means
unfoldable pub set_of : ℕ → Set
set_of w = record { word = w }

-- `Set::EMPTY`, as it is stored
abbrev pub no_set : Set
no_set = record { word = 0 }

-- `Set::ALL`, as it is stored, and the number that it means
abbrev pub all_set : Set
all_set = record { word = 2 ^ word_bits - 1 }

unfoldable pub everyone : ℕ
everyone = 2 ^ elements - 1

-- ---- a table of sets

-- how many words n sets take: `order::CELLS` for all elements
unfoldable pub cells : ℕ → ℕ
cells n = n

-- the number of the set in row i; no members past the last row
unfoldable pub row : List ℕ → ℕ → ℕ
row rows i = slice_index rows i

-- the table with the number w in row i
unfoldable pub put_row : List ℕ → ℕ → ℕ → List ℕ
put_row rows i w = slice_set rows i w

-- the table of the sets f 0, f 1, .., f (n - 1)
unfoldable pub row_table : ℕ → (ℕ → ℕ) → List ℕ
row_table n f = table n f

-- every row is a number of n digits
unfoldable pub RowsFit : ℕ → List ℕ → Type 0
RowsFit n rows = (i : ℕ) → row rows i < 2 ^ n
