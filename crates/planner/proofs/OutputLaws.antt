-- How the operations that write end: the laws of `output_of` and `lent_after`, once for all of them.
use mathlib.Core.Path.{◌≡◌, refl, sym, ap, ◌∙◌}
use mathlib.Core.Bool.{true, false}
use mathlib.Core.List.{List, ◌++◌}
use Prim.Native.Nat.{ℕ, ◌<◌}
use native.Mathlib.Omega.{arith}
use lib.ListN.{length, get_or, drop, get_or-append}
use Rattle.std.specs.Prelude.{Result, Ok, Err, IsErr}
use Rattle.std.specs.Result.{IsErrAnd}
use Rattle.std.proofs.lemmas.Result.{err_from_is_err_and}
use Rattle.words.specs.Tables.{over}
use Rattle.words.proofs.Tables.{over_all}
use Rattle.words.proofs.Tests.{cond_true, cond_false}
use Rattle.planner.specs.Faults.{Fault, is_fine}
use Rattle.planner.specs.Results.{Output}
use Rattle.planner.specs.Output.{output_of, lent_after}
use Rattle.planner.specs.declared.Cause.{Cause}

-- ---- the answer, by the fault

pub output_refused : (f : Fault) (c : Cause) (n : ℕ) → f ≡ Err c → output_of f n ≡ Err c
output_refused f c n e = ap (λ (x : Fault). output_of x n) e

pub output_fine : (f : Fault) (n : ℕ) → f ≡ Ok tt → output_of f n ≡ Ok n
output_fine f n e = ap (λ (x : Fault). output_of x n) e

-- and the fault, by the answer
pub output_is_fine : (f : Fault) (n v : ℕ) → output_of f v ≡ Ok n → (f ≡ Ok tt) × (v ≡ n)
output_is_fine (Ok _) n v e = (refl, cc)
output_is_fine (Err c) n v e = absurd (let z : ◌≡◌ {A = ℕ} 0 1 = cc in omega arith)

pub output_is_refused : (f : Fault) (v : ℕ) (c : Cause) → output_of f v ≡ Err c → f ≡ Err c
output_is_refused (Ok _) v c e = absurd (let z : ◌≡◌ {A = ℕ} 0 1 = cc in omega arith)
output_is_refused (Err d) v c e = let q : d ≡ c = cc in ap Err q

-- what a `?` passes on is the cause that the call had
pub passed : {A : Type 0} {c : Cause} {r : Result A Cause} → IsErr r × IsErrAnd r (λ x. x ≡ c) → r ≡ Err c
passed {c = c} {r} h = let p = err_from_is_err_and r h.1 in p.1 ∙ ap Err p.2

-- ---- what is lent

pub lent_kept : (f : Fault) (written out : List ℕ) → is_fine f ≡ false → out ≡ lent_after f written out
unfolding lent_after
lent_kept f written out e = sym (cond_false (written ++ drop (length written) out) out e)

pub lent_written : (f : Fault) (written out : List ℕ) → is_fine f ≡ true → written ++ drop (length written) out ≡ lent_after f written out
unfolding lent_after
lent_written f written out e = sym (cond_true (written ++ drop (length written) out) out e)

-- after a refusal all is as it was
pub lent_refused : (f : Fault) (c : Cause) (written out : List ℕ) → f ≡ Err c → lent_after f written out ≡ out
lent_refused f c written out e = sym (lent_kept f written out (ap is_fine e))

-- else what is written stands at the front, and the rest is as it was
pub lent_fine : (f : Fault) (written out : List ℕ) → f ≡ Ok tt
    → lent_after f written out ≡ written ++ drop (length written) out
lent_fine f written out e = sym (lent_written f written out (ap is_fine e))

pub lent_front : (f : Fault) (written out : List ℕ) → f ≡ Ok tt → (i : ℕ) → i < length written
    → get_or (lent_after f written out) i 0 ≡ get_or written i 0
lent_front f written out e i h =
    ap (λ (xs : List ℕ). get_or xs i 0) (lent_fine f written out e) ∙ get_or-append written (drop (length written) out) 0 i h

-- ---- HOW AN OPERATION THAT WRITES ENDS, once for all of them: F is its fault by the definitions, n what it counts, `written` what it writes,
-- and what was lent is `out` before and `after` then

module _ {F : Fault} (n : ℕ) (written out : List ℕ) where
  -- refused: nothing is changed
  pub refused : {c : Cause} {r : Output} → F ≡ Err c → r ≡ Err c
      → (r ≡ output_of F n) × (out ≡ lent_after F written out)
  refused {c} f q = (q ∙ sym (output_refused F c n f), sym (lent_refused F c written out f))

  -- done: the front is written, the rest is kept
  pub done : F ≡ Ok tt → {v : ℕ} {after : List ℕ} → v ≡ n → after ≡ written ++ drop (length written) out
      → (Ok v ≡ output_of F n) × (after ≡ lent_after F written out)
  done f c w = (ap (λ (x : ℕ). Ok x) c ∙ sym (output_fine F n f), w ∙ sym (lent_fine F written out f))

  -- done, number by number
  pub done_over : F ≡ Ok tt → {v : ℕ} {after : List ℕ} → v ≡ n → length written ≡ n → after ≡ over n written out
      → (Ok v ≡ output_of F n) × (after ≡ lent_after F written out)
  done_over f c l w = done f c (w ∙ over_all n written out l)
