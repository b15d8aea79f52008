-- How an operation ends that tests its fault: F is its fault by the definitions, f the one that the code has, and b
-- what the code's test said of it. (Where a `?` ends it, OutputLaws has the laws.)
use mathlib.Core.Path.{◌≡◌, refl, sym, ap, ◌∙◌}
use mathlib.Core.Bool.{Bool, true, false, not, true≢false}
use mathlib.Core.List.{List, ◌++◌}
use Prim.Native.Nat.{ℕ}
use lib.ListN.{length, drop}
use Rattle.std.specs.Prelude.{Ok, Err}
use Rattle.words.specs.Tables.{over}
use Rattle.words.proofs.Tables.{over_all}
use Rattle.crew_sheet.specs.Sheet.{page_bytes}
use Rattle.planner.specs.Faults.{Fault, is_fine}
use Rattle.planner.specs.Results.{Output}
use Rattle.planner.specs.Output.{output_of, lent_after}
use Rattle.planner.specs.Flow.{kind_fault}
use Rattle.planner.specs.Sheet.{is_page, sheet_pages, sheet_fault}
use Rattle.planner.specs.declared.Cause.TheVariants.{NoPage}
use Rattle.planner.proofs.FaultLaws.{cause_kept}
use Rattle.planner.proofs.OutputLaws.{lent_kept, lent_written}

-- beside a fault the number does not matter
pub output_same : {f g : Fault} {x y : ℕ} → f ≡ g → (is_fine f ≡ true → x ≡ y) → output_of f x ≡ output_of g y
output_same {f} {g} {x} {y} p h = go f h ∙ ap (λ (e : Fault). output_of e y) p
  where
    go : (e : Fault) → (is_fine e ≡ true → x ≡ y) → output_of e x ≡ output_of e y
    go (Ok _) h = ap (λ (n : ℕ). Ok n) (h refl)
    go (Err c) h = refl

pub record Ends (F f : Fault) (b : Bool) : Type 0 where
  pub fault : f ≡ F
  pub test : b ≡ is_fine f

module _ {F f : Fault} {b : Bool} (e : Ends F f b) where
  pub stops : b ≡ false → is_fine F ≡ false
  stops h = sym (ap is_fine e.fault) ∙ sym e.test ∙ h

  pub goes_on : b ≡ true → is_fine F ≡ true
  goes_on h = sym (ap is_fine e.fault) ∙ sym e.test ∙ h

  -- one that writes: n is what it counts, `written` what it writes, r its answer, and what was lent is `out` before and
  -- `after` then
  module _ (n : ℕ) (written out : List ℕ) {r : Output} where
    -- refused: nothing is changed
    pub refused : b ≡ false → r ≡ output_of f 0 → (r ≡ output_of F n) × (out ≡ lent_after F written out)
    refused h q = (
      q ∙ output_same e.fault (λ t. absurd (true≢false (sym t ∙ ap is_fine e.fault ∙ stops h))),
      lent_kept F written out (stops h),
    )

    -- done: the front is written, the rest is kept
    pub done : b ≡ true → {v : ℕ} {after : List ℕ} → r ≡ output_of f v → v ≡ n
        → after ≡ written ++ drop (length written) out → (r ≡ output_of F n) × (after ≡ lent_after F written out)
    done h q c w = (q ∙ output_same e.fault (λ _. c), w ∙ lent_written F written out (goes_on h))

    -- done, number by number
    pub done_over : b ≡ true → {v : ℕ} {after : List ℕ} → r ≡ output_of f v → v ≡ n → length written ≡ n
        → after ≡ over n written out → (r ≡ output_of F n) × (after ≡ lent_after F written out)
    done_over h q c l w = done h q c (w ∙ over_all n written out l)

-- a sheet: 8, 9 or 7 it was, and 11 has no turn
module _ (s : List ℕ) (kind page : ℕ) (out : List ℕ) where
  pub stopped : {f : Fault} {b : Bool} → (e : Ends (kind_fault s kind (length out) page_bytes) f b) → b ≡ false
      → Ends (sheet_fault s kind page (length out)) f b
  unfolding sheet_fault
  stopped e h = record {
    fault = e.fault ∙ cause_kept (kind_fault s kind (length out) page_bytes) (not (is_page page (sheet_pages s kind)))
        (NoPage (sheet_pages s kind)) (stops e h);
    test = e.test;
  }
