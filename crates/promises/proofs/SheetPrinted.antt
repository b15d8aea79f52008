-- What Sheet prints of a kind, where the plan opens and nothing is overloaded: the records that Flow writes, with
-- the starts that Starts writes.
use mathlib.Core.Path.{◌≡◌, refl, sym, ap, subst, ◌∙◌}
use mathlib.Core.Bool.{false}
use mathlib.Core.List.{List, [], ◌∷◌, ◌++◌}
use Prim.Native.Nat.{ℕ, ◌+◌, ◌*◌, ◌-◌, ◌≤◌, ◌<◌}
use native.Mathlib.Omega.{arith}
use lib.ListN.{length, get_or, drop, replicate}
use Rattle.records.specs.Bytes.{AreBytes}
use Rattle.records.specs.Records.{from_of, to_of, units_of}
use Rattle.crew_sheet.specs.Sheet.{page_bytes, start_of, sheet_lines, record_line, blank_line, on_line, pages_of, sheet_page}
use Rattle.crew_sheet.specs.Meaning.{Ordered}
use Rattle.crew_sheet.specs.Printed.{page_line, ShowsHead, ShowsRecord}
use Rattle.crew_sheet.proofs.Filling.{record_some, some_page, enough_pages, no_more_pages, few_pages}
use Rattle.crew_sheet.proofs.ByStart.{node_small}
use Rattle.crew_sheet.proofs.Fronts.{starts_before, page_behind}
use Rattle.crew_sheet.proofs.MeaningHolds.{lines_ordered, blank_behind}
use Rattle.crew_sheet.proofs.ReadBack.{row_shows, head_shows, page_head_before, page_line_before}
use Rattle.plan.specs.Meaning.{file_kinds}
use Rattle.planner.specs.Open.{plan_in, Opens}
use Rattle.planner.specs.Need.{is_overloaded}
use Rattle.planner.specs.Starts.{start_numbers}
use Rattle.planner.specs.Flow.{most_records, flow_count, record_bytes}
use Rattle.planner.specs.Sheet.{sheet_out}
use Rattle.planner.proofs.OpenLaws.{count_within}
use Rattle.planner.proofs.StartsLaws.{length_numbers, numbers_fit}
use Rattle.planner.proofs.FlowLaws.{not_over}
use Rattle.planner.proofs.FlowUnits.{length_few, records_length, records_ascend, record_ends, count_room}
use Rattle.promises.specs.Ours.{our_sheet}
use Rattle.promises.specs.Sheet.{IsPage, Printed}
use Rattle.promises.proofs.OverloadShown.{few}
use Rattle.promises.proofs.SheetAnswers.{counted, eleven, left, rest_kept, room_kept}

module _ (s : List ℕ) (small : AreBytes s) (o : Opens s) (k : ℕ) (h : k < file_kinds s) (free : is_overloaded (plan_in s) ≡ false) where
  -- the count of the records, and their bytes
  abbrev count : ℕ
  count = flow_count (plan_in s) k

  abbrev bytes : List ℕ
  bytes = record_bytes (plan_in s) k

  -- so few that the page fits three columns
  few_records : count ≤ most_records
  few_records =
      omega (
        arith,
        count_room s small o k (few s small o h).1 (not_over s free k (few s small o h).0),
        length_few (plan_in s).count (count_within s),
      )

  -- the records and the starts stand at the front of longer memory
  module _ (behind more : List ℕ) where
    abbrev flow : List ℕ
    flow = bytes ++ behind

    abbrev starts : List ℕ
    starts = start_numbers s ++ more

    abbrev on : ℕ → ℕ
    on j = get_or (sheet_lines flow starts count) j count

    ordered : Ordered flow starts count (sheet_lines flow starts count)
    ordered = lines_ordered flow starts count (records_ascend (plan_in s) k behind)

    ends : (i : ℕ) → i < count → (from_of flow i < (plan_in s).count + 2) × (to_of flow i < (plan_in s).count + 2) × (units_of flow i ≤ 65535)
    ends = record_ends s small o k (few s small o h).1 behind

    -- every receiver is an activity or the end
    near : (i : ℕ) → i < count → to_of flow i ≤ length (start_numbers s)
    near i l = omega (arith, (ends i l).1, length_numbers s)

    start_small : (i : ℕ) → i < count → start_of flow starts i < 10000000000
    unfolding start_of
    start_small i l =
        let node = to_of flow i in
        omega (arith, starts_before (start_numbers s) more node (near i l), node_small (start_numbers s) 4294967296 (omega arith) (numbers_fit s small o) node)

    page_is : (page : ℕ) (out : List ℕ) → page_bytes ≤ length out → IsPage (pages_of count) page
        → sheet_out s (k + 1) page out ≡ sheet_page flow starts count (k + 1) page ++ drop page_bytes out
    page_is page out l p =
        left s o k h free page out l p
        ∙ ap (λ (x : List ℕ). x ++ drop page_bytes out)
        (sym (page_behind bytes behind (start_numbers s) more count (k + 1) page (omega (arith, records_length (plan_in s) k)) near))

    head : (page : ℕ) (out : List ℕ) → page_bytes ≤ length out → IsPage (pages_of count) page → ShowsHead (page_line (sheet_out s (k + 1) page out) 0) (k + 1) page
    head page out l p =
        subst (λ (x : List ℕ). ShowsHead x (k + 1) page)
        (sym (ap (λ (x : List ℕ). page_line x 0) (page_is page out l p) ∙ page_head_before flow starts count (k + 1) page (drop page_bytes out)))
        (head_shows (k + 1) page (omega (arith, (few s small o h).1)) (omega (arith, p.1, few_pages count 999 (omega arith) (omega (arith, few_records)))))

    line : (page l : ℕ) (out : List ℕ) → page_bytes ≤ length out → IsPage (pages_of count) page → l < 59
        → page_line (sheet_out s (k + 1) page out) (l + 1) ≡ record_line flow starts count (on_line flow starts count page l)
    line page l out r p b =
        ap (λ (x : List ℕ). page_line x (l + 1)) (page_is page out r p) ∙ page_line_before flow starts count (k + 1) page (drop page_bytes out) l b

    row_shown : (i : ℕ) → i < count → ShowsRecord (record_line flow starts count i) (from_of flow i) (to_of flow i) (units_of flow i) (start_of flow starts i)
    row_shown i l =
        let e = ends i l in
        let m = count_within s in
        subst (λ (x : List ℕ). ShowsRecord x (from_of flow i) (to_of flow i) (units_of flow i) (start_of flow starts i))
        (record_some flow starts count i l refl refl refl refl)
        (row_shows (from_of flow i) (to_of flow i) (units_of flow i) (start_of flow starts i) (omega (arith, e.0, m)) (omega (arith, e.1, m)) (omega (arith, e.2)) (start_small i l))

    shown : (page l : ℕ) (out : List ℕ) → page_bytes ≤ length out → IsPage (pages_of count) page → l < 59 → 59 * (page - 1) + l < count
        → let i = on (59 * (page - 1) + l) in
        ShowsRecord (page_line (sheet_out s (k + 1) page out) (l + 1)) (from_of flow i) (to_of flow i) (units_of flow i) (start_of flow starts i)
    unfolding on_line
    shown page l out r p b c =
        let i = on (59 * (page - 1) + l) in
        subst (λ (x : List ℕ). ShowsRecord x (from_of flow i) (to_of flow i) (units_of flow i) (start_of flow starts i)) (sym (line page l out r p b))
        (row_shown i (ordered.records (59 * (page - 1) + l) c))

    blank : (page l : ℕ) (out : List ℕ) → page_bytes ≤ length out → IsPage (pages_of count) page → l < 59 → count ≤ 59 * (page - 1) + l
        → page_line (sheet_out s (k + 1) page out) (l + 1) ≡ replicate 40 32 ++ 10 ∷ []
    unfolding blank_line
    blank page l out r p b c = line page l out r p b ∙ blank_behind flow starts count page l c

    pub printed_front : Printed our_sheet s k count flow starts
    printed_front =
        record {
          pages = pages_of count;
          some = some_page count;
          enough = enough_pages count;
          no_more = no_more_pages count;
          counted = counted s o k h free;
          eleven = eleven s o k h free;
          on = on;
          records = ordered.records;
          each = ordered.each;
          once = ordered.once;
          ascend = ordered.ascends;
          head = head;
          shows = shown;
          blank = blank;
          rest = rest_kept s o k h free;
          room = room_kept s o k h free;
        }
