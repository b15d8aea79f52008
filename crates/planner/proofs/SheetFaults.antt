-- Which refusal when, of the operations on one kind: 8, 9 and 7 of Flow and Sheet, and Sheet's 11 behind them.
use mathlib.Core.Path.{◌≡◌, ap}
use mathlib.Core.Bool.{true, false, not}
use mathlib.Core.List.{List}
use mathlib.Core.Logic.{◌≢◌}
use Prim.Native.Nat.{ℕ, ◌≤◌, ◌<◌}
use lib.Dec.{ltb, leb}
use borrow.Author.Tests.{lt-ltb, le-leb}
use Rattle.std.specs.Prelude.{Ok, Err}
use Rattle.words.proofs.Tests.{fails, and_both}
use Rattle.crew_sheet.specs.Sheet.{page_bytes}
use Rattle.planner.specs.Faults.{is_fine}
use Rattle.planner.specs.Open.{plan_in, fault_of, Opens}
use Rattle.planner.specs.Need.{is_overloaded, over_cause}
use Rattle.planner.specs.Flow.{is_kind, kind_fault, flow_fault}
use Rattle.planner.specs.File.{flow_length}
use Rattle.planner.specs.Sheet.{is_page, sheet_pages, sheet_fault}
use Rattle.planner.specs.Answers.{cause_number}
use Rattle.planner.specs.declared.Cause.{Cause}
use Rattle.planner.specs.declared.Cause.TheVariants.{NoKind, Short, NoPage}
use Rattle.planner.proofs.FaultLaws.{cause_before, cause_next, cause_none, from_before, short_next, short_none}
use Rattle.planner.proofs.FlowLaws.{kind_within, known, roomy}

-- ---- the kind, or the page

module _ (kind n : ℕ) where
  pub is_kind_lem : 1 ≤ kind → kind ≤ n → is_kind kind n ≡ true
  is_kind_lem p q = and_both (ltb 0 kind) (leb kind n) (lt-ltb 0 kind p) (le-leb kind n q)

  pub not_kind : ((1 ≤ kind) × (kind ≤ n) → ⊥) → is_kind kind n ≡ false
  not_kind never = fails (is_kind kind n) (λ e. never (kind_within kind n e))

-- ---- 8, 9 and 7: n bytes are lent, and so many are needed

module _ (s : List ℕ) (kind n needed : ℕ) where
  pub kind_none : Opens s → is_kind kind (plan_in s).kinds ≡ false
      → kind_fault s kind n needed ≡ Err (NoKind (plan_in s).kinds)
  kind_none o e =
      let c : Cause = NoKind (plan_in s).kinds in
      let f = cause_next (fault_of s) (not (is_kind kind (plan_in s).kinds)) c o (ap not e) in
      cause_before (roomy s kind n needed) (is_overloaded (plan_in s)) (over_cause (plan_in s)) c (cause_before (known s kind n needed) (ltb n needed) (Short needed) c f)

  module _ (o : Opens s) (e : is_kind kind (plan_in s).kinds ≡ true) where
    known_fine : known s kind n needed ≡ Ok tt
    known_fine = cause_none (fault_of s) (not (is_kind kind (plan_in s).kinds)) (NoKind (plan_in s).kinds) o (ap not e)

    pub kind_short : n < needed → kind_fault s kind n needed ≡ Err (Short needed)
    kind_short h = cause_before (roomy s kind n needed) (is_overloaded (plan_in s)) (over_cause (plan_in s)) (Short needed) (short_next (known s kind n needed) n needed (ap is_fine known_fine) h)

    pub kind_over : needed ≤ n → is_overloaded (plan_in s) ≡ true
        → kind_fault s kind n needed ≡ Err (over_cause (plan_in s))
    kind_over h t = cause_next (roomy s kind n needed) (is_overloaded (plan_in s)) (over_cause (plan_in s)) (ap is_fine (short_none (known s kind n needed) n needed (ap is_fine known_fine) h)) t

-- ---- 11

module _ (s : List ℕ) (kind page n : ℕ) where
  pub sheet_kind : (c : Cause) → kind_fault s kind n page_bytes ≡ Err c → sheet_fault s kind page n ≡ Err c
  unfolding sheet_fault
  sheet_kind c e = cause_before (kind_fault s kind n page_bytes) (not (is_page page (sheet_pages s kind))) (NoPage (sheet_pages s kind)) c e

  pub no_page : kind_fault s kind n page_bytes ≡ Ok tt → is_page page (sheet_pages s kind) ≡ false
      → sheet_fault s kind page n ≡ Err (NoPage (sheet_pages s kind))
  unfolding sheet_fault
  no_page f e = cause_next (kind_fault s kind n page_bytes) (not (is_page page (sheet_pages s kind))) (NoPage (sheet_pages s kind)) (ap is_fine f) (ap not e)

  pub fine_page : kind_fault s kind n page_bytes ≡ Ok tt → is_page page (sheet_pages s kind) ≡ true
      → sheet_fault s kind page n ≡ Ok tt
  unfolding sheet_fault
  fine_page f e = cause_none (kind_fault s kind n page_bytes) (not (is_page page (sheet_pages s kind))) (NoPage (sheet_pages s kind)) (ap is_fine f) (ap not e)

-- ---- a cause of the opening is the file's, whatever the operation, the kind and the page

module _ (s : List ℕ) (c : Cause) where
  kind_before : (kind n needed : ℕ) → fault_of s ≡ Err c → kind_fault s kind n needed ≡ Err c
  kind_before kind n needed e =
      cause_before (roomy s kind n needed) (is_overloaded (plan_in s)) (over_cause (plan_in s)) c
      (cause_before (known s kind n needed) (ltb n needed) (Short needed) c
      (cause_before (fault_of s) (not (is_kind kind (plan_in s).kinds)) (NoKind (plan_in s).kinds) c e))

  pub flow_before : (kind n : ℕ) → fault_of s ≡ Err c → flow_fault s kind n ≡ Err c
  unfolding flow_fault
  flow_before kind n = kind_before kind n (flow_length (plan_in s).count)

  pub sheet_before : (kind page n : ℕ) → fault_of s ≡ Err c → sheet_fault s kind page n ≡ Err c
  sheet_before kind page n e = sheet_kind s kind page n c (kind_before kind n page_bytes e)

  module _ (seven : cause_number c ≢ 7) (eight : cause_number c ≢ 8) (nine : cause_number c ≢ 9) where
    kind_from : (kind n needed : ℕ) → kind_fault s kind n needed ≡ Err c → fault_of s ≡ Err c
    unfolding over_cause
    kind_from kind n needed e =
        from_before (fault_of s) (not (is_kind kind (plan_in s).kinds)) (NoKind (plan_in s).kinds) c eight
        (from_before (known s kind n needed) (ltb n needed) (Short needed) c nine
        (from_before (roomy s kind n needed) (is_overloaded (plan_in s)) (over_cause (plan_in s)) c seven e))

    pub flow_from : (kind n : ℕ) → flow_fault s kind n ≡ Err c → fault_of s ≡ Err c
    unfolding flow_fault
    flow_from kind n = kind_from kind n (flow_length (plan_in s).count)

    pub sheet_from : cause_number c ≢ 11 → (kind page n : ℕ) → sheet_fault s kind page n ≡ Err c → fault_of s ≡ Err c
    unfolding sheet_fault
    sheet_from eleven kind page n e =
        kind_from kind n page_bytes
        (from_before (kind_fault s kind n page_bytes) (not (is_page page (sheet_pages s kind))) (NoPage (sheet_pages s kind)) c eleven e)
