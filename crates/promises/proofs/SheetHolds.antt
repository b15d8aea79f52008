-- CHANGE 1 OF DOCUMENT 02 HOLDS OF OURS: `sheet_keeps`.
use mathlib.Core.Path.{◌≡◌, refl, sym, subst, ◌∙◌}
use mathlib.Core.Bool.{false}
use mathlib.Core.List.{List, [], ◌∷◌, ◌++◌}
use mathlib.Core.Logic.{◌≢◌}
use Prim.Native.Nat.{ℕ, ◌+◌, ◌-◌, ◌≤◌, ◌<◌}
use native.Mathlib.Omega.{arith}
use lib.ListN.{length, drop}
use Rattle.std.specs.Prelude.{Ok, Err}
use Rattle.records.specs.Bytes.{AreBytes}
use Rattle.records.specs.Records.{starting_with}
use Rattle.crew_sheet.specs.Sheet.{page_bytes, sheet_page}
use Rattle.plan.specs.Meaning.{Readable, file_kinds}
use Rattle.plan.specs.Records.{activity_count}
use Rattle.planner.specs.Open.{plan_in, Opens}
use Rattle.planner.specs.Need.{over_cause}
use Rattle.planner.specs.Numbers.{numbers_of}
use Rattle.planner.specs.Output.{output_of}
use Rattle.planner.specs.Answers.{cause_number, output_numbers}
use Rattle.planner.specs.Starts.{needed, start_numbers, starts_out}
use Rattle.planner.specs.Flow.{kind_fault, flow_fault, flow_count, record_bytes, flow_answer, flow_out}
use Rattle.planner.specs.Sheet.{sheet_pages, sheet_fault, sheet_out}
use Rattle.planner.specs.declared.Cause.{Cause}
use Rattle.planner.specs.declared.Cause.TheVariants.{NoKind, Short}
use Rattle.planner.proofs.OpenLaws.{opens_readable}
use Rattle.planner.proofs.OutputLaws.{output_refused, output_is_refused}
use Rattle.planner.proofs.QuotedNeeds.{count_in, kinds_in}
use Rattle.planner.proofs.SheetFaults.{not_kind, kind_none, kind_short, kind_over, sheet_kind, flow_before, flow_from, sheet_before, sheet_from}
use Rattle.planner.proofs.FileOrders.{opens_when}
use Rattle.promises.specs.Ours.{ours, our_sheet}
use Rattle.promises.specs.EveryInput.{opening}
use Rattle.promises.specs.PriceList.{Enough}
use Rattle.promises.specs.Sheet.{Printed, Sheets, SheetSentence}
use Rattle.promises.proofs.OverloadShown.{over_when, enough_not}
use Rattle.promises.proofs.AnswersWhen.{out_numbers, flow_left}
use Rattle.promises.proofs.EveryInputHolds.{is_one, one_last, one_not, Only, only_cause, only_more, kind_only, output_by, kept}
use Rattle.promises.proofs.RefusalsHold.{given, two, there, seven}
use Rattle.promises.proofs.EqualFlowsHold.{equal_sheets}
use Rattle.promises.proofs.SheetPrinted.{printed_front}

-- ---- demand 1

sheet_only : (s : List ℕ) (kind page n : ℕ) → Only (opening ++ 8 ∷ 9 ∷ 7 ∷ 11 ∷ []) (sheet_fault s kind page n)
unfolding sheet_fault
sheet_only s kind page n =
    let L = opening ++ 8 ∷ 9 ∷ 7 ∷ [] in
    only_cause (L ++ 11 ∷ []) (kind_fault s kind n page_bytes) _ _ (only_more L (11 ∷ []) (kind_fault s kind n page_bytes) (kind_only s kind n page_bytes)) (one_last L 11)

-- ---- a plan that opens

module _ (s : List ℕ) (small : AreBytes s) (o : Opens s) where
  readable : Readable s
  readable = opens_readable s o

  -- a refusal before 11
  refused : (kind page n : ℕ) (c : Cause) → kind_fault s kind n page_bytes ≡ Err c → output_numbers (output_of (sheet_fault s kind page n) (sheet_pages s kind)) ≡ numbers_of c
  refused kind page n c e = given (sheet_fault s kind page n) (sheet_pages s kind) c (sheet_kind s kind page n c e)

  printed : Enough ours s → (k : ℕ) → k < file_kinds s → (lent : List ℕ) (n : ℕ) → flow_answer s (k + 1) (length lent) ≡ Ok n
      → (room : List ℕ) → activity_count s + 1 ≤ length room → Printed our_sheet s k n (flow_out s (k + 1) lent) (starts_out s room)
  printed en k h lent n e room l =
      let w = flow_left s k lent n e in
      let numbers = out_numbers s room o (omega (arith, l, count_in s readable)) in
      let flow : List ℕ = starting_with (record_bytes (plan_in s) k) lent in
      let starts : List ℕ = start_numbers s ++ drop (needed s) room in
      subst (λ (x : List ℕ). Printed our_sheet s k n (flow_out s (k + 1) lent) x) (sym numbers)
      (subst (λ (x : List ℕ). Printed our_sheet s k n x starts) (sym w.2)
      (subst (λ (x : ℕ). Printed our_sheet s k x flow starts) (sym w.1)
      (printed_front s small o k h (enough_not s small o en) (drop (length (record_bytes (plan_in s) k)) lent) (drop (needed s) room))))

  pub sheets_open : Sheets ours our_sheet s
  sheets_open =
      record {
        no_kind = λ kind page n never.
            refused kind page n (NoKind (plan_in s).kinds)
            (kind_none s kind n page_bytes o (not_kind kind (plan_in s).kinds (λ w. never (w.0, omega (arith, w.1, kinds_in s readable)))))
            ∙ two 8 (kinds_in s readable);
        short = λ kind page n p q h. refused kind page n (Short page_bytes) (kind_short s kind n page_bytes o (there s small o kind p q) h);
        overloaded = λ kind page n p q h k x.
            let t = over_when s small o k x in
            refused kind page n (over_cause (plan_in s)) (kind_over s kind n page_bytes o (there s small o kind p q) h t) ∙ sym (seven s small o t);
        printed = printed;
      }

pub sheet_keeps : SheetSentence ours our_sheet
unfolding sheet_out
sheet_keeps =
    record {
      one = λ kind page s n. output_by (opening ++ 8 ∷ 9 ∷ 7 ∷ 11 ∷ []) (sheet_fault s kind page n) (sheet_pages s kind) (sheet_only s kind page n);
      kept = λ kind page s out.
          kept (sheet_fault s kind page (length out)) (sheet_pages s kind)
          (sheet_page (record_bytes (plan_in s) (kind - 1)) (start_numbers s) (flow_count (plan_in s) (kind - 1)) kind page) out;
      opens = λ s kind page n lent c one.
          let other : (n : ℕ) → is_one opening n ≡ false → cause_number c ≢ n = λ n. one_not opening (cause_number c) n one in (
            (λ e. output_refused (sheet_fault s kind page n) c (sheet_pages s kind)
                (sheet_before s c kind page n (flow_from s c (other 7 refl) (other 8 refl) (other 9 refl) kind lent (output_is_refused (flow_fault s kind lent) (flow_count (plan_in s) (kind - 1)) c e)))),
            (λ e. output_refused (flow_fault s kind lent) c (flow_count (plan_in s) (kind - 1))
                (flow_before s c kind lent (sheet_from s c (other 7 refl) (other 8 refl) (other 9 refl) (other 11 refl) kind page n (output_is_refused (sheet_fault s kind page n) (sheet_pages s kind) c e)))),
          );
      sheets = λ s small r free. sheets_open s small ((opens_when s).1 (r, free));
      same = λ s t r q e w. equal_sheets s t r q e w;
    }
