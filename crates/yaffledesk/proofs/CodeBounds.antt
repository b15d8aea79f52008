-- Every answer's code is a number of 64 bits, and so is the set that Verdict shows: of every plan's
-- bytes, and whatever is lent.
--
--   verdict_small, needs_small, starts_small, overload_small, flow_small, sheet_small, trim_small, report_small, crew_small    the operations
use mathlib.Core.Path.{◌≡◌, refl, sym, subst}
use mathlib.Core.Bool.{true, cond}
use mathlib.Core.List.{List}
use Prim.Native.Nat.{ℕ, ◌+◌, ◌-◌, ◌^◌, ◌≤◌, ◌<◌}
use native.Mathlib.Omega.{arith}
use lib.Dec.{ltb}
use lib.ListN.{length, get_or}
use lib.Pow.{pow_pos}
use Rattle.std.specs.Prelude.{Ok, Err}
use Rattle.words.proofs.Counts.{count_le}
use Rattle.words.proofs.Tests.{cond_has, cond_least}
use Rattle.records.specs.Bytes.{AreBytes}
use Rattle.order.specs.Stored.{elements}
use Rattle.order.specs.Sets.{member}
use Rattle.plan.specs.Records.{record_count, activities}
use Rattle.schedule.specs.Network.{Network}
use Rattle.schedule.specs.Checks.{Work, broken_to, broken_from, lowest_kind, first_period, check_of}
use Rattle.schedule.specs.declared.Checked.{Checked}
use Rattle.schedule.specs.declared.Checked.TheVariants.{Fits, Broken, Overload}
use Rattle.schedule.proofs.Arcs.{broken_first, broken_to_first}
use Rattle.schedule.proofs.Periods.{lowest_first, period_bound}
use Rattle.planner.specs.Numbers.{refusal_of}
use Rattle.planner.specs.Open.{plan_in}
use Rattle.planner.specs.Faults.{Fault, is_fine}
use Rattle.planner.specs.Results.{Output}
use Rattle.planner.specs.Output.{output_of}
use Rattle.planner.specs.Need.{is_overloaded}
use Rattle.planner.specs.Verdict.{verdict_fault, verdict_of, verdict_answer}
use Rattle.planner.specs.Needs.{needs_fault, needs_answer}
use Rattle.planner.specs.Starts.{needed, starts_fault, starts_answer}
use Rattle.planner.specs.Flow.{flow_fault, flow_count, flow_answer}
use Rattle.planner.specs.Sheet.{sheet_pages, sheet_fault, sheet_answer}
use Rattle.planner.specs.Trim.{trimmed_file, trim_fault, trim_answer}
use Rattle.planner.specs.Overload.{overload_fault, over_count, overload_answer}
use Rattle.planner.specs.CrewCheck.{crew_check_fault, crew_work, crew_arcs, crew_found, checked_of, crew_check_answer}
use Rattle.planner.specs.declared.Cause.{Cause}
use Rattle.planner.specs.declared.Cause.TheVariants.{Short}
use Rattle.planner.specs.declared.Refusal.{Refusal}
use Rattle.planner.specs.declared.Values.{Values}
use Rattle.planner.specs.declared.Values.TheVariants.{Nothing, One, Need}
use Rattle.planner.proofs.FaultLaws.{every_fine, every_turn}
use Rattle.planner.proofs.OpenLaws.{count_few}
use Rattle.planner.proofs.QuotedNeeds.{kinds_few}
use Rattle.planner.proofs.FlowLaws.{flow_few}
use Rattle.planner.proofs.SheetLaws.{sheet_few}
use Rattle.planner.proofs.TrimLaws.{trim_few}
use Rattle.planner.proofs.CrewCheckLaws.{crew_fine}
use Rattle.planner.proofs.RefusalBounds.{SmallValues, Small, SmallFault, verdict_refuses, needs_refuses, starts_refuses, overload_refuses, flow_refuses, sheet_refuses, trim_refuses, crew_refuses}
use Rattle.report_lines.specs.Report.{text_room, report_of}
use Rattle.report_lines.proofs.ReportLength.{report_short}
use Rattle.yaffledesk.specs.Codes.{values_code, refusal_code, verdict_code, output_code, found_code, crew_check_code}
use Rattle.yaffledesk.specs.Codes.{values_word, shown_word}
use Rattle.yaffledesk.specs.Report.{report_fault, report_answer}

-- ---- a refusal, by what it tells: a set has at most all members

values_small : (v : Values) → SmallValues v → values_code v < 2 ^ 48
values_small Nothing h = omega arith
values_small (One n) h = omega (arith, h)
values_small (Need k need set) h = omega (arith, h.0, h.1, count_le elements (member set))

refusal_small : (r : Refusal) → Small r → refusal_code r < 2 ^ 64
refusal_small r h = omega (arith, h.number, values_small r.values h.values)

-- ---- Verdict

verdict_by_lem : (f : Fault) (m n : ℕ) → SmallFault f → m ≤ elements → n ≤ 8 → verdict_code (verdict_of f m n) < 2 ^ 64
verdict_by_lem (Ok _) m n small a b = omega arith
verdict_by_lem (Err c) m n small a b = refusal_small (refusal_of c) (small c refl)

pub verdict_small : (s : List ℕ) → AreBytes s → verdict_code (verdict_answer s) < 2 ^ 64
verdict_small s small = verdict_by_lem (verdict_fault s) (plan_in s).count (plan_in s).kinds (verdict_refuses s small) (count_few s) (kinds_few s)

-- and the set that it shows has a digit for each activity that a file may have

word_small : (v : Values) → SmallValues v → values_word v < 2 ^ activities
word_small Nothing h = pow_pos activities
word_small (One n) h = pow_pos activities
word_small (Need k need set) h = h.2

shown_by : (f : Fault) (m n : ℕ) → SmallFault f → shown_word (verdict_of f m n) < 2 ^ activities
shown_by (Ok _) m n small = pow_pos activities
shown_by (Err c) m n small = word_small (refusal_of c).values (small c refl).values

pub shown_small : (s : List ℕ) → AreBytes s → shown_word (verdict_answer s) < 2 ^ activities
shown_small s small = shown_by (verdict_fault s) (plan_in s).count (plan_in s).kinds (verdict_refuses s small)

-- ---- Needs, Starts, Overload, Flow, Sheet, Trim

output_small : (f : Fault) (n : ℕ) → SmallFault f → (is_fine f ≡ true → n ≤ 1048576) → output_code (output_of f n) < 2 ^ 64
unfolding output_code
output_small (Ok _) n small few = let h = few refl in omega arith
output_small (Err c) n small few = refusal_small (refusal_of c) (small c refl)

pub needs_small : (s : List ℕ) (n : ℕ) → output_code (needs_answer s n) < 2 ^ 64
needs_small s n = output_small (needs_fault s n) (plan_in s).kinds (needs_refuses s n) (λ o. omega (arith, kinds_few s))

pub starts_small : (s : List ℕ) (n : ℕ) → output_code (starts_answer s n) < 2 ^ 64
starts_small s n = output_small (starts_fault s n) (needed s) (starts_refuses s n) (λ o. omega (arith, count_few s))

pub overload_small : (s : List ℕ) (n : ℕ) → output_code (overload_answer s n) < 2 ^ 64
unfolding over_count
overload_small s n =
    output_small (overload_fault s n) (over_count (plan_in s)) (overload_refuses s n) (λ o. cond_least (is_overloaded (plan_in s)) 1 1048576 (λ e. omega arith))

pub flow_small : (s : List ℕ) → AreBytes s → (kind n : ℕ) → output_code (flow_answer s kind n) < 2 ^ 64
flow_small s small kind n =
    output_small (flow_fault s kind n) (flow_count (plan_in s) (kind - 1)) (flow_refuses s small kind n) (λ e. omega (arith, flow_few s small kind n e))

pub sheet_small : (s : List ℕ) → AreBytes s → (kind page n : ℕ) → output_code (sheet_answer s kind page n) < 2 ^ 64
sheet_small s small kind page n =
    output_small (sheet_fault s kind page n) (sheet_pages s kind) (sheet_refuses s small kind page n) (λ e. omega (arith, sheet_few s small kind page n e))

pub trim_small : (s : List ℕ) → AreBytes s → (n : ℕ) → output_code (trim_answer s n) < 2 ^ 64
trim_small s small n = output_small (trim_fault s n) (record_count (trimmed_file s)) (trim_refuses s small n) (λ e. omega (arith, trim_few s n e))

-- ---- the report, by its own cause and the room for its text

report_refuses : (n : ℕ) → SmallFault (report_fault n)
report_refuses n =
    let P : Cause → Type 0 = λ (c : Cause). Small (refusal_of c) in
    every_turn P (Ok tt) (ltb n text_room) (Short text_room) (every_fine P)
    (λ _ _. record { number = omega arith; values = omega arith })

pub report_small : (s : List ℕ) → AreBytes s → (n : ℕ) → output_code (report_answer s n) < 2 ^ 64
report_small s small n = output_small (report_fault n) (length (report_of s)) (report_refuses n) (λ e. omega (arith, report_short s small))

-- ---- Crew check

check_small : (g : Network) (c : Work) → g.elements ≤ elements → c.kinds ≤ 8 → ((i : ℕ) → i < c.count → c.start i < 2 ^ 32) → found_code (check_of g c) < 2 ^ 64
unfolding check_of
check_small g c few kinds starts =
    let from = broken_from g c.start in
    let to = broken_to g c.start from in
    let t = first_period c in
    cond_has (λ x. found_code x < 2 ^ 64) (ltb from g.elements) (Broken (from + 1) (to + 1)) (cond (ltb 0 t) (Overload t (lowest_kind c t + 1)) Fits)
    (λ _. omega (arith, few, (broken_first g c.start).within, (broken_to_first g c.start from).within))
    (λ _. cond_has (λ x. found_code x < 2 ^ 64) (ltb 0 t) (Overload t (lowest_kind c t + 1)) Fits
    (λ _. omega (arith, kinds, (lowest_first c t).within, period_bound c (2 ^ 32) starts))
    (λ _. omega arith))

crew_by : (f : Fault) (x : Checked) → SmallFault f → (is_fine f ≡ true → found_code x < 2 ^ 64) → crew_check_code (checked_of f x) < 2 ^ 64
crew_by (Ok _) x small found = found refl
crew_by (Err c) x small found = refusal_small (refusal_of c) (small c refl)

pub crew_small : (s starts worked : List ℕ) → ((i : ℕ) → get_or starts i 0 < 2 ^ 32) → crew_check_code (crew_check_answer s starts worked) < 2 ^ 64
unfolding crew_found
crew_small s starts worked fit =
    crew_by (crew_check_fault s starts worked) (crew_found s starts worked) (crew_refuses s starts worked)
    (λ e.
    let w = crew_fine s starts worked e in
    check_small (crew_arcs s starts worked) (crew_work s starts worked) (omega (arith, w.1, count_few s)) (omega arith) (λ i l. fit i))

-- an answer that is equal to a small one is small
pub same_small : {o : Output} (p : Output) → o ≡ p → output_code p < 2 ^ 64 → output_code o < 2 ^ 64
same_small p e h = subst (λ (x : Output). output_code x < 2 ^ 64) (sym e) h
