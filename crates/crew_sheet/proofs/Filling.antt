-- The lines of a page: what the code reads of a record, and the loop that writes them; and how many pages there are.
use mathlib.Core.Path.{◌≡◌, refl, sym, ap, ◌∙◌}
use mathlib.Core.List.{List, ◌++◌}
use Prim.Native.Nat.{ℕ, ◌+◌, ◌*◌, ◌-◌, ◌≤◌, ◌<◌}
use native.Mathlib.Omega.{arith}
use native.Mathlib.Nat.{zero-add}
use lib.Dec.{ltb}
use lib.ListN.{length, get_or, drop, length-append}
use borrow.Author.Tests.{ltb-true, ltb-false, lt-ltb, le-ltb}
use Rattle.words.proofs.Tests.{by_test}
use Rattle.words.proofs.Tables.{get_d_table}
use Rattle.records.specs.Bytes.{field}
use Rattle.records.specs.Records.{joined, starting_with, from_of, to_of, units_of}
use Rattle.records.proofs.Runs.{length_joined}
use Rattle.lines.specs.Text.{Text, text, more}
use Rattle.lines.proofs.Texts.{more_length, more_more, grown_by}
use Rattle.crew_sheet.specs.Sheet.{line_bytes, page_records, page_bytes, start_of, sheet_lines, row_line, blank_line, head_line, record_line, on_line, page_lines, sheet_page, pages_of}
use Rattle.crew_sheet.specs.Underway.{onto}
use Rattle.crew_sheet.proofs.LinesWritten.{length_row, length_blank, length_head}
use Rattle.crew_sheet.proofs.PageRecords.{rows_of}

-- a field of four bytes, by its halves
pub field_halves : (r : List ℕ) (at : ℕ) {a b : ℕ} → a ≡ field r at 2 → b ≡ field r (at + 2) 2
    → a + 65536 * b ≡ field r at 4
unfolding field
field_halves r at p q =
    let e : at + 1 + 1 ≡ at + 2 = omega arith in
    rw (p, q, e) (omega arith)

module _ (flow starts : List ℕ) (n : ℕ) where
  pub record_some : (i : ℕ) → i < n → {a b u s : ℕ} → a ≡ from_of flow i → b ≡ to_of flow i → u ≡ units_of flow i → s ≡ start_of flow starts i
      → row_line a b u s ≡ record_line flow starts n i
  unfolding record_line
  record_some i h p q r t = rw (p, q, r, t, lt-ltb i n h)

  pub record_none : (i : ℕ) → n ≤ i → blank_line ≡ record_line flow starts n i
  unfolding record_line
  record_none i h = rw (le-ltb i n h)

  -- a line that is written is the record's
  pub record_put : (t : Text) {x : Text} (i : ℕ) → i < n → {a b u s : ℕ} → a ≡ from_of flow i → b ≡ to_of flow i → u ≡ units_of flow i → s ≡ start_of flow starts i
      → x ≡ more t (row_line a b u s) → x ≡ more t (record_line flow starts n i)
  record_put t i h p q r s e = e ∙ ap (more t) (record_some i h p q r s)

  pub blank_put : (t : Text) {x : Text} (i : ℕ) → n ≤ i → x ≡ more t blank_line → x ≡ more t (record_line flow starts n i)
  blank_put t i h e = e ∙ ap (more t) (record_none i h)

  pub length_record : (i : ℕ) → length (record_line flow starts n i) ≡ 41
  length_record i =
      by_test (ltb i n)
      (λ t. ap length (sym (record_some i (ltb-true i n t) refl refl refl refl)) ∙ length_row (from_of flow i) (to_of flow i) (units_of flow i) (start_of flow starts i))
      (λ t. ap length (sym (record_none i (ltb-false i n t))) ∙ length_blank)

  module _ (page : ℕ) where
    -- line l behind the head
    abbrev pub line_at : ℕ → List ℕ
    line_at l = record_line flow starts n (on_line flow starts n page l)

    pub line_short : (l : ℕ) → length (line_at l) ≤ 41
    line_short l = omega (arith, length_record (on_line flow starts n page l))

    row_at : (l : ℕ) → l < 59 → {rows : List ℕ} → rows ≡ rows_of (59 * (page - 1)) n (sheet_lines flow starts n)
        → get_or rows l 0 ≡ on_line flow starts n page l
    unfolding on_line
    row_at l h e = ap (λ r. get_or r l 0) e ∙ get_d_table 59 (λ i. get_or (sheet_lines flow starts n) (59 * (page - 1) + i) n) l 0 h

    pub row_put : (t : Text) {x : Text} (l : ℕ) → l < 59 → {rows : List ℕ} → rows ≡ rows_of (59 * (page - 1)) n (sheet_lines flow starts n)
        → x ≡ more t (record_line flow starts n (get_or rows l 0)) → x ≡ more t (line_at l)
    row_put t l h r e = e ∙ ap (λ i. more t (record_line flow starts n i)) (row_at l h r)

    pub page_end : (at e : ℕ) (old out : List ℕ) → text e out ≡ more (text at old) (joined line_at 59) → out ≡ onto at (page_lines flow starts n page) old
    unfolding page_lines
    page_end at e old out w = ap (λ (t : Text). t.out) w

-- what a head line that is written behind `n` bytes makes of them
pub head_said : (n r kind page : ℕ) (ys zs : List ℕ) → text r zs ≡ more (text n ys) (head_line kind page)
    → (r ≡ n + 41) × (zs ≡ onto n (head_line kind page) ys)
head_said n r kind page ys zs w =
    (grown_by n r (head_line kind page) ys zs w ∙ ap (λ k. n + k) (length_head kind page), ap (λ (t : Text). t.out) w)

-- ---- a whole page

pub length_lines : (flow starts : List ℕ) (n page : ℕ) → length (page_lines flow starts n page) ≡ 2419
unfolding page_lines
length_lines flow starts n page = length_joined line_bytes (line_at flow starts n page) (λ l. length_record flow starts n (on_line flow starts n page l)) page_records

-- every page has 2,460 bytes
pub length_page : (flow starts : List ℕ) (n kind page : ℕ) → length (sheet_page flow starts n kind page) ≡ page_bytes
unfolding sheet_page
length_page flow starts n kind page = length-append (head_line kind page) (page_lines flow starts n page) ∙ rw (length_head, length_lines)

-- the head is written, and the lines behind it
module _ (flow starts : List ℕ) (n kind page : ℕ) (ys : List ℕ) (fits : 2460 ≤ length ys) where
  pub head_room_lem : 41 ≤ length ys
  head_room_lem = omega arith

  pub head_kept : length (onto 0 (head_line kind page) ys) ≡ length ys
  head_kept = more_length (text 0 ys) (head_line kind page) (omega (arith, length_head kind page))

  pub lines_room : 2460 ≤ length (onto 0 (head_line kind page) ys)
  lines_room = omega (arith, head_kept)

  pub page_said : onto 41 (page_lines flow starts n page) (onto 0 (head_line kind page) ys) ≡ starting_with (sheet_page flow starts n kind page) ys
  unfolding sheet_page
  page_said =
      let h : List ℕ = head_line kind page in
      let l : List ℕ = page_lines flow starts n page in
      let e : text 41 (onto 0 h ys) ≡ more (text 0 ys) h = ap (λ k. text k (onto 0 h ys)) (sym (zero-add (length h) ∙ length_head kind page)) in
      ap (λ (t : Text). (more t l).out) e
      ∙ ap (λ (t : Text). t.out) (more_more (text 0 ys) h l (omega (arith, length_head kind page, length_lines flow starts n page)))
      ∙ ap (λ k. h ++ l ++ drop k ys) (zero-add (length (h ++ l)))

-- ---- how many pages: as few as n records fill, and at least one

module _ (n : ℕ) where
  pub some_page : 1 ≤ pages_of n
  unfolding pages_of
  some_page = omega arith

  pub enough_pages : n ≤ page_records * pages_of n
  unfolding pages_of
  enough_pages = omega arith

  pub no_more_pages : 1 < pages_of n → page_records * (pages_of n - 1) < n
  unfolding pages_of
  no_more_pages h = omega arith

  pub few_pages : (b : ℕ) → 1 ≤ b → n ≤ page_records * b → pages_of n ≤ b
  unfolding pages_of
  few_pages b p h = omega arith
