-- What Sheet answers and leaves, by its page, where the plan opens, the kind is there and nothing is overloaded.
use mathlib.Core.Path.{◌≡◌, refl, sym, ap, subst, ◌∙◌}
use mathlib.Core.Bool.{false, true≢false}
use mathlib.Core.List.{List, [], ◌∷◌, ◌++◌}
use Prim.Native.Nat.{ℕ, ◌+◌, ◌-◌, ◌≤◌, ◌<◌}
use native.Mathlib.Omega.{arith}
use lib.ListN.{length, drop, length-append, length-drop}
use lib.Seq.{drop_at}
use Rattle.std.specs.Prelude.{Ok, Err}
use Rattle.words.proofs.Tests.{by_test}
use Rattle.crew_sheet.specs.Sheet.{page_bytes, pages_of, sheet_page}
use Rattle.crew_sheet.proofs.Filling.{length_page}
use Rattle.plan.specs.Meaning.{file_kinds}
use Rattle.planner.specs.Faults.{Fault}
use Rattle.planner.specs.Open.{plan_in, Opens}
use Rattle.planner.specs.Need.{is_overloaded}
use Rattle.planner.specs.Starts.{start_numbers}
use Rattle.planner.specs.Flow.{kind_fault, flow_count, record_bytes}
use Rattle.planner.specs.Output.{output_of}
use Rattle.planner.specs.Answers.{output_numbers}
use Rattle.planner.specs.Sheet.{is_page, sheet_pages, sheet_fault, sheet_answer, sheet_out}
use Rattle.planner.specs.declared.Cause.TheVariants.{NoPage}
use Rattle.planner.proofs.OutputLaws.{output_fine, lent_fine, lent_refused}
use Rattle.planner.proofs.OpenLaws.{opens_readable}
use Rattle.planner.proofs.QuotedNeeds.{kinds_in}
use Rattle.planner.proofs.FlowLaws.{kind_within, fine_kind}
use Rattle.planner.proofs.SheetFaults.{is_kind_lem, not_kind, no_page, fine_page}
use Rattle.promises.specs.Sheet.{IsPage}

module _ (s : List ℕ) (o : Opens s) (k : ℕ) (h : k < file_kinds s) (free : is_overloaded (plan_in s) ≡ false) where
  -- the count of the records, and their bytes
  abbrev pub count : ℕ
  count = flow_count (plan_in s) k

  abbrev pub bytes : List ℕ
  bytes = record_bytes (plan_in s) k

  -- kinds count from 1
  same : k + 1 - 1 ≡ k
  same = omega arith

  pages_are : sheet_pages s (k + 1) ≡ pages_of count
  pages_are = ap (λ (x : ℕ). pages_of (flow_count (plan_in s) x)) same

  -- ---- the answer

  fine : (n : ℕ) → page_bytes ≤ n → kind_fault s (k + 1) n page_bytes ≡ Ok tt
  fine n l =
      fine_kind s (k + 1) n page_bytes o (is_kind_lem (k + 1) (plan_in s).kinds (omega arith) (omega (arith, h, kinds_in s (opens_readable s o)))) l free

  a_page : (page n : ℕ) → page_bytes ≤ n → IsPage (pages_of count) page → sheet_fault s (k + 1) page n ≡ Ok tt
  a_page page n l p =
      fine_page s (k + 1) page n (fine n l) (is_kind_lem page (sheet_pages s (k + 1)) p.0 (omega (arith, p.1, pages_are)))

  not_page : (page n : ℕ) → page_bytes ≤ n → (IsPage (pages_of count) page → ⊥) → sheet_fault s (k + 1) page n ≡ Err (NoPage (sheet_pages s (k + 1)))
  not_page page n l p =
      no_page s (k + 1) page n (fine n l) (not_kind page (sheet_pages s (k + 1)) (λ w. p (w.0, omega (arith, w.1, pages_are))))

  pub counted : (page n : ℕ) → page_bytes ≤ n → IsPage (pages_of count) page → sheet_answer s (k + 1) page n ≡ Ok (pages_of count)
  counted page n l p = output_fine (sheet_fault s (k + 1) page n) (sheet_pages s (k + 1)) (a_page page n l p) ∙ ap Ok pages_are

  pub eleven : (page n : ℕ) → page_bytes ≤ n → (IsPage (pages_of count) page → ⊥) → output_numbers (sheet_answer s (k + 1) page n) ≡ 11 ∷ pages_of count ∷ []
  eleven page n l p =
      ap (λ (f : Fault). output_numbers (output_of f (sheet_pages s (k + 1)))) (not_page page n l p) ∙ ap (λ (x : ℕ). 11 ∷ x ∷ []) pages_are

  -- ---- what is left in the lent bytes

  pub left : (page : ℕ) (out : List ℕ) → page_bytes ≤ length out → IsPage (pages_of count) page
      → sheet_out s (k + 1) page out ≡ sheet_page bytes (start_numbers s) count (k + 1) page ++ drop page_bytes out
  unfolding sheet_out
  left page out l p =
      let W : ℕ → List ℕ = λ x. sheet_page (record_bytes (plan_in s) x) (start_numbers s) (flow_count (plan_in s) x) (k + 1) page in
      lent_fine (sheet_fault s (k + 1) page (length out)) (W (k + 1 - 1)) out (a_page page (length out) l p)
      ∙ ap (λ (m : ℕ). W (k + 1 - 1) ++ drop m out) (length_page (record_bytes (plan_in s) (k + 1 - 1)) (start_numbers s) (flow_count (plan_in s) (k + 1 - 1)) (k + 1) page)
      ∙ ap (λ (x : ℕ). W x ++ drop page_bytes out) same

  left_not : (page : ℕ) (out : List ℕ) → page_bytes ≤ length out → (IsPage (pages_of count) page → ⊥) → sheet_out s (k + 1) page out ≡ out
  unfolding sheet_out
  left_not page out l p =
      lent_refused (sheet_fault s (k + 1) page (length out)) (NoPage (sheet_pages s (k + 1)))
      (sheet_page (record_bytes (plan_in s) (k + 1 - 1)) (start_numbers s) (flow_count (plan_in s) (k + 1 - 1)) (k + 1) page) out (not_page page (length out) l p)

  -- what holds of the bytes in both cases
  either : (P : List ℕ → Type 0) (page : ℕ) (out : List ℕ) → page_bytes ≤ length out
      → P (sheet_page bytes (start_numbers s) count (k + 1) page ++ drop page_bytes out) → P out → P (sheet_out s (k + 1) page out)
  either P page out l filled kept =
      by_test (is_page page (pages_of count))
      (λ t. subst P (sym (left page out l (kind_within page (pages_of count) t))) filled)
      (λ t. subst P (sym (left_not page out l (λ p. true≢false (sym (is_kind_lem page (pages_of count) p.0 p.1) ∙ t)))) kept)

  pub rest_kept : (page : ℕ) (out : List ℕ) → page_bytes ≤ length out → drop page_bytes (sheet_out s (k + 1) page out) ≡ drop page_bytes out
  rest_kept page out l =
      let W = sheet_page bytes (start_numbers s) count (k + 1) page in
      either (λ x. drop page_bytes x ≡ drop page_bytes out) page out l
      (drop_at W (drop page_bytes out) page_bytes (length_page bytes (start_numbers s) count (k + 1) page)) refl

  pub room_kept : (page : ℕ) (out : List ℕ) → page_bytes ≤ length out → length (sheet_out s (k + 1) page out) ≡ length out
  room_kept page out l =
      let W = sheet_page bytes (start_numbers s) count (k + 1) page in
      either (λ x. length x ≡ length out) page out l
      (length-append W (drop page_bytes out) ∙ omega (arith, l, length_page bytes (start_numbers s) count (k + 1) page, length-drop page_bytes out)) refl
