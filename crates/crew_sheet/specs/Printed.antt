-- What is printed on a line, read back column by column. Columns count from 1, as on paper.
use Rattle.std.specs.Prelude.{◌≡◌, List, [], ◌∷◌, ◌++◌, ℕ, ◌+◌, ◌*◌, ◌-◌, ◌≤◌, ◌<◌, length, get_or, take, drop, replicate}
use Rattle.lines.specs.Text.{value_of}

-- line l of a page of 41 bytes a line; the heading is line 0
abbrev pub page_line : List ℕ → ℕ → List ℕ
page_line page l = take 41 (drop (41 * l) page)

-- the columns a to b of a line
abbrev pub columns : ℕ → ℕ → List ℕ → List ℕ
columns a b line = take (b + 1 - a) (drop (a - 1) line)

-- columns that show a number: blanks (32), and then its digits (48 to 57), right-aligned,
-- with no zero before others
pub record Shows (column : List ℕ) (x : ℕ) : Type 0 where
  pub blanks : ℕ
  pub digits : List ℕ
  pub aligned : column ≡ replicate blanks 32 ++ digits
  pub some : 1 ≤ length digits
  pub figures : (i : ℕ) → i < length digits → (48 ≤ get_or digits i 0) × (get_or digits i 0 ≤ 57)
  pub lead : 1 < length digits → 48 < get_or digits 0 0
  pub value : value_of digits ≡ x

-- "from (3 columns), to (3), units (8), the receiver's start (10), right-aligned,
-- one blank between, then blanks"
pub record ShowsRecord (line : List ℕ) (from to units start : ℕ) : Type 0 where
  pub from_shown : Shows (columns 1 3 line) from
  pub to_shown : Shows (columns 5 7 line) to
  pub units_shown : Shows (columns 9 16 line) units
  pub start_shown : Shows (columns 18 27 line) start
  pub between : (columns 4 4 line ≡ 32 ∷ []) × (columns 8 8 line ≡ 32 ∷ []) × (columns 17 17 line ≡ 32 ∷ [])
  pub then : columns 28 40 line ≡ replicate 13 32
  pub newline : drop 40 line ≡ 10 ∷ []

-- "Line 1 is the word KIND, a space, the kind in 1 column, a space, the page in 3 columns,
-- right-aligned, then blanks."
pub record ShowsHead (line : List ℕ) (kind page : ℕ) : Type 0 where
  pub word : columns 1 5 line ≡ 75 ∷ 73 ∷ 78 ∷ 68 ∷ 32 ∷ []
  pub kind_shown : Shows (columns 6 6 line) kind
  pub between : columns 7 7 line ≡ 32 ∷ []
  pub page_shown : Shows (columns 8 10 line) page
  pub then : columns 11 40 line ≡ replicate 30 32
  pub newline : drop 40 line ≡ 10 ∷ []
