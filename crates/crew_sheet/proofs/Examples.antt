-- Small sheets, by computation: the order of lines, and a line and a head as text.
use mathlib.Core.Path.{◌≡◌, refl}
use mathlib.Core.List.{List, [], ◌∷◌, ◌++◌}
use Prim.Native.Nat.{ℕ}
use lib.ListN.{replicate}
use Rattle.words.specs.Members.{first}
use Rattle.words.specs.Sums.{maximum}
use Rattle.words.specs.Tables.{table}
use Rattle.records.specs.Records.{bytes, flow_record, joined}
use Rattle.lines.specs.Text.{places, decimal}
use Rattle.crew_sheet.specs.Sheet.{node_start, start_of, starting_at, sheet_lines, column, cell, row_line, head_line, pages_of}

-- 0 to 1, 0 to 2, 1 to 3, 2 to 3, where the activities 1 and 2 start at 5 and 0, and the end at 7
abbrev four : List ℕ
four = flow_record 1 0 1 4 0 ++ flow_record 1 0 2 2 0 ++ flow_record 1 1 3 4 0 ++ flow_record 1 2 3 2 0

pub four_lines : sheet_lines four (5 ∷ 0 ∷ 7 ∷ []) 4 ≡ 1 ∷ 0 ∷ 2 ∷ 3 ∷ []
unfolding sheet_lines starting_at start_of node_start joined maximum flow_record bytes
four_lines = refl

-- "  0  12    65535        300"
pub a_row : row_line 0 12 65535 300 ≡ 32 ∷ 32 ∷ 48 ∷ 32 ∷ 32 ∷ 49 ∷ 50 ∷ 32 ∷ 32 ∷ 32 ∷ 32 ∷ 54 ∷ 53 ∷ 53 ∷ 51 ∷ 53 ∷ 32
    ∷ 32 ∷ 32 ∷ 32 ∷ 32 ∷ 32 ∷ 32 ∷ 32 ∷ 51 ∷ 48 ∷ 48 ∷ (replicate 13 32 ++ 10 ∷ [])
unfolding row_line cell column decimal places first table
a_row = refl

-- "KIND 1   1"
pub a_head : head_line 1 1 ≡ 75 ∷ 73 ∷ 78 ∷ 68 ∷ 32 ∷ 49 ∷ 32 ∷ 32 ∷ 32 ∷ 49 ∷ (replicate 30 32 ++ 10 ∷ [])
unfolding head_line cell column decimal places first table
a_head = refl

pub page_counts : (pages_of 0 ≡ 1) × (pages_of 59 ≡ 1) × (pages_of 60 ≡ 2)
unfolding pages_of
page_counts = (refl, refl, refl)
