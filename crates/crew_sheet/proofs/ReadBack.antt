-- What is printed is read back: a record and a head from their lines, and the lines from a page.
use mathlib.Core.Path.{◌≡◌, refl, sym, ap, subst, ◌∙◌}
use mathlib.Core.List.{List, [], ◌∷◌, ◌++◌, append_assoc}
use Prim.Native.Nat.{ℕ, ◌+◌, ◌*◌, ◌-◌, ◌^◌, ◌≤◌, ◌<◌}
use native.Mathlib.Omega.{arith}
use native.Mathlib.Nat.{pow-le-pow_right}
use lib.ListN.{get_or, take, drop, replicate}
use lib.Seq.{take_at, drop_at, drop-drop}
use Rattle.words.specs.Tables.{table}
use Rattle.words.proofs.Tables.{is_table}
use Rattle.records.proofs.Runs.{joined_at}
use Rattle.lines.specs.Text.{places, decimal}
use Rattle.lines.proofs.Decimals.{places_some, places_fewest, length_decimal, decimal_digit, decimal_lead, decimal_value}
use Rattle.crew_sheet.specs.Sheet.{line_bytes, page_records, column, cell, row_line, head_line, record_line, on_line, page_lines, sheet_page}
use Rattle.crew_sheet.specs.Printed.{page_line, Shows, ShowsRecord, ShowsHead}
use Rattle.crew_sheet.proofs.Columns.{length_column, column_fits}
use Rattle.crew_sheet.proofs.LinesWritten.{length_head}
use Rattle.crew_sheet.proofs.Filling.{length_record, line_at}

-- ---- a number in its columns

pub column_shows : (w x : ℕ) → 1 ≤ w → w ≤ 20 → x < 10 ^ w → Shows (column w x) x
column_shows w x some few h =
    let long = length_decimal x in
    let fits : x < 10 ^ 20 = omega (arith, pow-le-pow_right {n = 10} (omega arith) {i = w} {j = 20} few) in
    record {
      blanks = w - places x;
      digits = decimal x;
      aligned = column_fits w x (places_fewest x w some h few);
      some = omega (arith, places_some x);
      figures = λ i l. decimal_digit x i (omega arith);
      lead = λ m. decimal_lead x fits (omega arith);
      value = decimal_value x fits;
    }

-- columns of a known number of characters, so that a line computes
abbrev spell : ℕ → ℕ → List ℕ
spell w x = table w (λ i. get_or (column w x) i 0)

spelled : (w x : ℕ) → column w x ≡ spell w x
spelled w x = is_table w (λ i. get_or (column w x) i 0) (column w x) 0 (length_column w x) (λ i h. refl)

shows : (w x : ℕ) → 1 ≤ w → w ≤ 20 → x < 10 ^ w → Shows (spell w x) x
shows w x some few h = subst (λ l. Shows l x) (spelled w x) (column_shows w x some few h)

-- ---- a record and a head from their lines

-- four columns of 3, 3, 8 and 10 characters, as a line has them
abbrev row : List ℕ → List ℕ → List ℕ → List ℕ → List ℕ
row a b c d = (a ++ 32 ∷ []) ++ (b ++ 32 ∷ []) ++ (c ++ 32 ∷ []) ++ (d ++ replicate 13 32) ++ 10 ∷ []

pub row_shows : (from to units start : ℕ) → from < 10 ^ 3 → to < 10 ^ 3 → units < 10 ^ 8 → start < 10 ^ 10
    → ShowsRecord (row_line from to units start) from to units start
unfolding row_line cell table
row_shows from to units start f t u s =
    let e : row_line from to units start ≡ row (spell 3 from) (spell 3 to) (spell 8 units) (spell 10 start) =
    λ i. row (spelled 3 from i) (spelled 3 to i) (spelled 8 units i) (spelled 10 start i) in
    subst (λ l. ShowsRecord l from to units start) (sym e)
    record {
      from_shown = shows 3 from (omega arith) (omega arith) f;
      to_shown = shows 3 to (omega arith) (omega arith) t;
      units_shown = shows 8 units (omega arith) (omega arith) u;
      start_shown = shows 10 start (omega arith) (omega arith) s;
      between = (refl, refl, refl);
      then = refl;
      newline = refl;
    }

-- the word, and columns of 1 and 3 characters
abbrev top : List ℕ → List ℕ → List ℕ
top a b = (75 ∷ 73 ∷ 78 ∷ 68 ∷ 32 ∷ []) ++ (a ++ 32 ∷ []) ++ (b ++ replicate 30 32) ++ 10 ∷ []

pub head_shows : (kind page : ℕ) → kind < 10 → page < 1000 → ShowsHead (head_line kind page) kind page
unfolding head_line cell table
head_shows kind page k p =
    let e : head_line kind page ≡ top (spell 1 kind) (spell 3 page) = λ i. top (spelled 1 kind i) (spelled 3 page i) in
    subst (λ l. ShowsHead l kind page) (sym e)
    record {
      word = refl;
      kind_shown = shows 1 kind (omega arith) (omega arith) k;
      between = refl;
      page_shown = shows 3 page (omega arith) (omega arith) p;
      then = refl;
      newline = refl;
    }

-- ---- the lines of a page, whatever bytes follow it

module _ (flow starts : List ℕ) (n kind page : ℕ) where
  abbrev line : ℕ → List ℕ
  line = line_at flow starts n page

  pub page_head_before : (rest : List ℕ) → page_line (sheet_page flow starts n kind page ++ rest) 0 ≡ head_line kind page
  unfolding sheet_page
  page_head_before rest =
      let h : List ℕ = head_line kind page in
      let ls : List ℕ = page_lines flow starts n page in
      ap (take line_bytes) (append_assoc h ls rest) ∙ take_at h (ls ++ rest) line_bytes (length_head kind page)

  pub page_line_before : (rest : List ℕ) (l : ℕ) → l < 59 → page_line (sheet_page flow starts n kind page ++ rest) (l + 1) ≡ record_line flow starts n (on_line flow starts n page l)
  unfolding sheet_page page_lines
  page_line_before rest l h =
      let top : List ℕ = head_line kind page in
      let ls : List ℕ = page_lines flow starts n page in
      let at : 41 * (l + 1) ≡ 41 + 41 * l = omega arith in
      ap (λ k. take line_bytes (drop k ((top ++ ls) ++ rest))) at
      ∙ ap (take line_bytes) (sym (drop-drop (41 * l) 41 ((top ++ ls) ++ rest)))
      ∙ ap (λ (x : List ℕ). take line_bytes (drop (41 * l) (drop 41 x))) (append_assoc top ls rest)
      ∙ ap (λ (x : List ℕ). take line_bytes (drop (41 * l) x)) (drop_at top (ls ++ rest) 41 (length_head kind page))
      ∙ joined_at line_bytes line (λ k. length_record flow starts n (on_line flow starts n page k)) page_records rest l h
