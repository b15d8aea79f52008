-- Sheet: 11 after 8, 9 and 7, and what it answers and writes.
use mathlib.Core.Path.{◌≡◌, sym, ap, ap₂, ◌∙◌}
use mathlib.Core.Bool.{Bool, true, false, not}
use mathlib.Core.List.{List, ◌++◌}
use Prim.Native.Nat.{ℕ, zero, suc, ◌+◌, ◌*◌, ◌-◌, ◌≤◌}
use native.Mathlib.Omega.{arith}
use lib.ListN.{length, drop, replicate, length-replicate, length-append}
use borrow.Author.Tests.{not-false}
use Rattle.std.specs.Prelude.{Ok, Err}
use Rattle.words.proofs.Tables.{over_all}
use Rattle.order.specs.Stored.{elements}
use Rattle.order.specs.Before.{Acyclic}
use Rattle.order.specs.Orders.{Direct}
use Rattle.records.specs.Bytes.{AreBytes}
use Rattle.records.specs.Records.{starting_with}
use Rattle.crew_sheet.specs.Sheet.{page_bytes, pages_of, sheet_page, most_lines}
use Rattle.crew_sheet.proofs.Fronts.{page_front}
use Rattle.plan.specs.Meaning.{Readable}
use Rattle.schedule.specs.model.Arrays.{AllAtMost}
use Rattle.kinds.specs.model.Writing.{lent}
use Rattle.planner.specs.Faults.{Fault, is_fine, or_cause}
use Rattle.planner.specs.Results.{Output}
use Rattle.planner.specs.Open.{plan_in, rows_of, Opens}
use Rattle.planner.specs.Output.{output_of, lent_after}
use Rattle.planner.specs.Need.{is_overloaded}
use Rattle.planner.specs.File.{flow_length}
use Rattle.planner.specs.Flow.{is_kind, most_records, kind_fault, flow_fault, flow_count, record_bytes}
use Rattle.planner.specs.Starts.{needed, start_numbers}
use Rattle.planner.specs.Sheet.{is_page, page_fault, sheet_pages, sheet_fault, sheet_answer, sheet_out}
use Rattle.planner.specs.model.Opening.{Held, opened_of}
use Rattle.planner.specs.model.Records.{FlowAsked, flow_put}
use Rattle.planner.specs.model.Sheets.{starts_in}
use Rattle.planner.specs.declared.Cause.TheVariants.{NoPage}
use Rattle.planner.proofs.FaultLaws.{fine_is, cause_fine}
use Rattle.planner.proofs.OpenLaws.{count_few, count_within, opens_readable, opens_plan, opens_small}
use Rattle.planner.proofs.StartsLaws.{length_numbers}
use Rattle.planner.proofs.FlowUnits.{length_few, records_length}
use Rattle.planner.proofs.FlowLaws.{kind_within, kind_fine, fine_flow, records_few, flow_asked, written}

-- ---- 11 in its turn, of a sheet of n records

pub pages_few : (n k : ℕ) → n ≤ k → 1 ≤ k → pages_of n ≤ k
unfolding pages_of
pages_few n k h l = omega arith

module _ (n page : ℕ) where
  -- `pages` is the page count, `t` whether the page is there
  pub page_none : {pages : ℕ} {t : Bool} → pages ≡ pages_of n → t ≡ is_page page pages → t ≡ false
      → page_fault n page ≡ Err (NoPage pages)
  page_none p q e = rw (← p, ← q, e)

  pub page_fine : {pages : ℕ} {t : Bool} → pages ≡ pages_of n → t ≡ is_page page pages → t ≡ true
      → page_fault n page ≡ Ok tt
  page_fine p q e = rw (← p, ← q, e)

  pub page_there : is_fine (page_fault n page) ≡ true → (1 ≤ page) × (page ≤ pages_of n)
  page_there e = kind_within page (pages_of n)
      (not-false (is_page page (pages_of n))
      (cause_fine (Ok tt) (not (is_page page (pages_of n))) (NoPage (pages_of n)) e).1)

-- where 8, 9 and 7 are no cause, there are few pages
pub pages_small : (s : List ℕ) → AreBytes s → (kind n : ℕ) → is_fine (kind_fault s kind n page_bytes) ≡ true → sheet_pages s kind ≤ most_records
pages_small s bytes kind n e = pages_few (flow_count (plan_in s) (kind - 1)) most_records (records_few s bytes kind n page_bytes e) (omega arith)

pub sheet_few : (s : List ℕ) → AreBytes s → (kind page n : ℕ) → is_fine (sheet_fault s kind page n) ≡ true → sheet_pages s kind ≤ most_records
unfolding sheet_fault
sheet_few s bytes kind page n e =
    pages_small s bytes kind n (cause_fine (kind_fault s kind n page_bytes) (not (is_page page (sheet_pages s kind))) (NoPage (sheet_pages s kind)) e).0

-- ---- the starts, with zeros behind them

zeros_left : (k n : ℕ) → drop {A = ℕ} n (replicate k 0) ≡ replicate (k - n) 0
zeros_left k zero = ap (λ (x : ℕ). replicate x 0) (let e : k ≡ k - 0 = omega arith in e)
zeros_left zero (suc n) = ap (λ (x : ℕ). replicate x 0) (let e : 0 ≡ 0 - suc n = omega arith in e)
zeros_left (suc k) (suc n) = zeros_left k n ∙ ap (λ (x : ℕ). replicate x 0) (let e : k - n ≡ suc k - suc n = omega arith in e)

pub starts_room : (s : List ℕ) → starts_in s (rows_of s) (plan_in s) ≡ start_numbers s ++ replicate (elements + 1 - needed s) 0
unfolding start_numbers
starts_room s =
    over_all (needed s) (start_numbers s) (replicate (elements + 1) 0) (length_numbers s)
    ∙ ap (λ (n : ℕ). start_numbers s ++ drop n (replicate (elements + 1) 0)) (length_numbers s)
    ∙ ap (λ (l : List ℕ). start_numbers s ++ l) (zeros_left (elements + 1) (needed s))

-- ---- what the code holds: `o` is the plan that was opened

module _ (s : List ℕ) (kind page : ℕ) (out : List ℕ) where
  module _ (bytes : AreBytes s) {o : Held} (held : o ≡ opened_of s)
      (e : is_fine (kind_fault s kind (length out) page_bytes) ≡ true) where
    goes : Opens s × (is_kind kind (plan_in s).kinds ≡ true) × (page_bytes ≤ length out) × (is_overloaded (plan_in s) ≡ false)
    goes = kind_fine s kind (length out) page_bytes e

    pub counts : 1 ≤ kind
    counts = (kind_within kind (plan_in s).kinds goes.1).0

    pub starts_asked : (o.plan.count ≤ elements) × Readable s × Acyclic (Direct o.rows) × AllAtMost 65535 o.plan.duration
    starts_asked = rw held (count_few s, opens_readable s goes.0, opens_plan s goes.0, opens_small s bytes goes.0)

    -- the room for the records of any flow
    abbrev room : List ℕ
    room = replicate (24 * most_records) 0

    roomy : flow_length (plan_in s).count ≤ length room
    roomy = rw (length-replicate {A = ℕ} (24 * most_records) 0) (length_few (plan_in s).count (count_within s))

    flows : is_fine (flow_fault s kind (length room)) ≡ true
    flows = ap is_fine (fine_flow s kind (length room) goes.0 goes.1 roomy goes.3)

    pub records_asked : FlowAsked o.order o.plan (kind - 1) room
    records_asked = flow_asked s kind room bytes held flows

    -- `n` records are in `records`, the starts in `starts`
    module _ {n : ℕ} {records starts : List ℕ} (put : lent n records ≡ flow_put o.order o.job o.plan (kind - 1) room) (begin : starts ≡ starts_in s o.rows o.plan) where
      has : (n ≡ flow_count (plan_in s) (kind - 1)) × (records ≡ starting_with (record_bytes (plan_in s) (kind - 1)) room)
      has = written s kind room bytes held flows put

      pub print_asked : (page_bytes ≤ length out) × (n ≤ most_lines) × (24 * n ≤ length records)
      print_asked = (
        goes.2,
        omega (arith, has.0, records_few s bytes kind (length out) page_bytes e),
        omega (arith, has.0, ap length has.1, length-append (record_bytes (plan_in s) (kind - 1)) (drop (length (record_bytes (plan_in s) (kind - 1))) room), records_length (plan_in s) (kind - 1)),
      )

      -- the page is that of Flow's records and Starts' numbers: what stands behind them does not matter
      same : sheet_page records starts n kind page ≡ sheet_page (record_bytes (plan_in s) (kind - 1)) (start_numbers s) (flow_count (plan_in s) (kind - 1)) kind page
      same =
          rw (has.0, has.1, begin, held, starts_room s)
          (page_front (record_bytes (plan_in s) (kind - 1)) (drop (length (record_bytes (plan_in s) (kind - 1))) room) (start_numbers s) (elements + 1 - needed s) (flow_count (plan_in s) (kind - 1)) kind page
          (omega (arith, records_length (plan_in s) (kind - 1))))

      fault : page_fault n page ≡ sheet_fault s kind page (length out)
      unfolding sheet_fault
      fault =
          ap (λ (x : ℕ). page_fault x page) has.0
          ∙ ap (λ (f : Fault). or_cause f (not (is_page page (sheet_pages s kind))) (NoPage (sheet_pages s kind))) (sym (fine_is (kind_fault s kind (length out) page_bytes) e))

      pub printed : {r : Output} {after : List ℕ} → r ≡ output_of (page_fault n page) (pages_of n) → after ≡ lent_after (page_fault n page) (sheet_page records starts n kind page) out
          → (r ≡ sheet_answer s kind page (length out)) × (after ≡ sheet_out s kind page out)
      unfolding sheet_out
      printed q w = (
        q ∙ ap₂ output_of fault (ap pages_of has.0),
        w ∙ ap₂ (λ (f : Fault) (l : List ℕ). lent_after f l out) fault same,
      )
