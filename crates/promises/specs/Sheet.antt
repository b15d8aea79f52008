-- CHANGE 1 of document 02, "A crew sheet for the van", about a planner P and its operation S, by a kind and a
-- page: `SheetSentence P S`. Ours keeps it: `sheet_keeps` of proofs/SheetHolds.antt. What is printed on a
-- line is read back column by column (crew_sheet's Printed), and compared with the records that Flow writes
-- and the starts that Starts writes, whatever made them. Quotations are from document 02, change 1.
use Rattle.std.specs.Prelude.{◌≡◌, [], ◌∷◌, ◌++◌, ◌+◌, ◌*◌, ◌-◌, ◌≤◌, ◌<◌}
use Rattle.std.specs.Prelude.{List, ℕ, length, drop, replicate, Ok, Err}
use Rattle.order.specs.Before.{Acyclic}
use Rattle.records.specs.Bytes.{AreBytes}
use Rattle.records.specs.Records.{from_of, to_of, units_of}
use Rattle.crew_sheet.specs.Sheet.{page_bytes, start_of}
use Rattle.crew_sheet.specs.Meaning.{LineOrder}
use Rattle.crew_sheet.specs.Printed.{page_line, ShowsHead, ShowsRecord}
use Rattle.plan.specs.Meaning.{Readable, FileArc, file_kinds}
use Rattle.plan.specs.Records.{activity_count}
use Rattle.planner.specs.Answers.{cause_number, verdict_numbers, output_numbers}
use Rattle.planner.specs.declared.Cause.{Cause}
use Rattle.promises.specs.Planner.{Writing, Planner}
use Rattle.promises.specs.EveryInput.{OneOf, opening, AnswersBy, KeepsLent}
use Rattle.promises.specs.PriceList.{Exceeds, Enough}
use Rattle.promises.specs.Same.{SamePlan, SameWaits, WritesAlike}

-- "The caller names kind and page"
abbrev pub SheetOperation : Type 0
SheetOperation = ℕ → ℕ → Writing

-- page 1 to the page count
abbrev pub IsPage : ℕ → ℕ → Type 0
IsPage pages page = (1 ≤ page) × (page ≤ pages)

-- ---- the sheet of kind k + 1, of a flow's n records in the bytes `flow`, where `starts` are the starts of
-- activities 1 to m and of the end

pub record Printed (S : SheetOperation) (s : List ℕ) (k n : ℕ) (flow starts : List ℕ) : Type 0 where
  -- "There is always a page 1", "Pages fill in order, 59 records each before the next begins."
  pub pages : ℕ
  pub some : 1 ≤ pages
  pub enough : n ≤ 59 * pages
  pub no_more : 1 < pages → 59 * (pages - 1) < n
  -- "and the page count is returned": on every page, and for a page that there is not, with "11, page not 1
  -- to the page count, returned with that count"
  pub counted : (page lent : ℕ) → page_bytes ≤ lent → IsPage pages page
      → (S (k + 1) page).answer s lent ≡ Ok pages
  pub eleven : (page lent : ℕ) → page_bytes ≤ lent → (IsPage pages page → ⊥)
      → output_numbers ((S (k + 1) page).answer s lent) ≡ 11 ∷ pages ∷ []
  -- the lines of all pages, one after another, count from 0: which record is on each
  pub on : ℕ → ℕ
  -- "each of its records is on exactly one line of one page"
  pub records : (j : ℕ) → j < n → on j < n
  pub each : (i : ℕ) → i < n → (j : ℕ) × (j < n) × (on j ≡ i)
  pub once : (i j : ℕ) → i < n → j < n → on i ≡ on j → i ≡ j
  -- "Lines ascend by receiver's start, then from, then to."
  pub ascend : (i j : ℕ) → i < j → j < n → LineOrder flow starts (on i) (on j)
  -- "Line 1 is the word KIND, .."
  pub head : (page : ℕ) (out : List ℕ) → page_bytes ≤ length out → IsPage pages page
      → ShowsHead (page_line ((S (k + 1) page).left s out) 0) (k + 1) page
  -- "Each further line is one flow record": line l behind the heading of a page
  -- is line 59 (page - 1) + l of all
  pub shows : (page l : ℕ) (out : List ℕ) → page_bytes ≤ length out → IsPage pages page
      → l < 59 → 59 * (page - 1) + l < n
      → let i = on (59 * (page - 1) + l) in
      ShowsRecord (page_line ((S (k + 1) page).left s out) (l + 1))
      (from_of flow i) (to_of flow i) (units_of flow i) (start_of flow starts i)
  -- "Unused lines are blank."
  pub blank : (page l : ℕ) (out : List ℕ) → page_bytes ≤ length out → IsPage pages page
      → l < 59 → n ≤ 59 * (page - 1) + l
      → page_line ((S (k + 1) page).left s out) (l + 1) ≡ replicate 40 32 ++ 10 ∷ []
  -- "pages of 60 lines, each 40 characters and a newline, 2,460 bytes", to the front of the lent
  -- bytes; the rest is unchanged
  pub rest : (page : ℕ) (out : List ℕ) → page_bytes ≤ length out
      → drop page_bytes ((S (k + 1) page).left s out) ≡ drop page_bytes out
  pub room : (page : ℕ) (out : List ℕ) → page_bytes ≤ length out
      → length ((S (k + 1) page).left s out) ≡ length out

-- ---- of a readable plan without a circle

pub record Sheets (P : Planner) (S : SheetOperation) (s : List ℕ) : Type 0 where
  -- "the order is 8, 9 (2,460 bytes), 7, 11"
  pub no_kind : (kind page n : ℕ) → ((1 ≤ kind) × (kind ≤ file_kinds s) → ⊥)
      → output_numbers ((S kind page).answer s n) ≡ 8 ∷ file_kinds s ∷ []
  pub short : (kind page n : ℕ) → 1 ≤ kind → kind ≤ file_kinds s → n < page_bytes
      → output_numbers ((S kind page).answer s n) ≡ 9 ∷ page_bytes ∷ []
  -- its 7 is Verdict's, with the same set: any kind's overload
  pub overloaded : (kind page n : ℕ) → 1 ≤ kind → kind ≤ file_kinds s → page_bytes ≤ n → (k : ℕ) → Exceeds P s k
      → output_numbers ((S kind page).answer s n) ≡ verdict_numbers (P.verdict s)
  -- otherwise the sheet is printed: "the flow is the one Flow gives", and the receiver's start is the one
  -- that Starts gives, the end's where the receiver is the end
  pub printed : Enough P s → (k : ℕ) → k < file_kinds s
      → (lent : List ℕ) (n : ℕ) → (P.flow (k + 1)).answer s (length lent) ≡ Ok n
      → (room : List ℕ) → activity_count s + 1 ≤ length room
      → Printed S s k n ((P.flow (k + 1)).left s lent) (P.starts.left s room)

-- ---- the sentence

pub record SheetSentence (P : Planner) (S : SheetOperation) : Type 0 where
  -- demand 1 of document 00, of this operation: a result or a numbered refusal, and a refusal
  -- leaves every lent byte as before
  pub one : (kind page : ℕ) → AnswersBy (opening ++ 8 ∷ 9 ∷ 7 ∷ 11 ∷ []) (S kind page)
  pub kept : (kind page : ℕ) → KeepsLent (S kind page)
  -- the numbers of the opening it gives exactly where Flow gives them, with the same values
  pub opens : (s : List ℕ) (kind page n lent : ℕ) (c : Cause) → OneOf opening (cause_number c)
      → (((P.flow kind).answer s lent ≡ Err c) → ((S kind page).answer s n ≡ Err c))
      × (((S kind page).answer s n ≡ Err c) → ((P.flow kind).answer s lent ≡ Err c))
  pub sheets : (s : List ℕ) → AreBytes s → Readable s → Acyclic (FileArc s) → Sheets P S s
  -- "plans with the same activities, crew, set of job arcs and set of extra arcs get equal flows" (01, Flow):
  -- and with the same waits, since a sheet shows starts, equal sheets
  pub same : (s t : List ℕ) → Readable s → Readable t → SamePlan s t → SameWaits s t
      → (kind page : ℕ) → WritesAlike (S kind page) s t
