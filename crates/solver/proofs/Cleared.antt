-- What `clear` and `copy` leave of a list: where the elements from m on hand over nothing, the m first rows of the table
-- are all that is to be cleared.
use Rattle.std.proofs.Common.{◌≡◌, cond, ltb, le-ltb, lt-ltb, ℕ, ◌+◌, ◌-◌, ◌*◌, ◌<◌, ◌≤◌, List, ◌++◌, length, get_or, set, take, drop, replicate, sym, ap, ◌∙◌, ⊎_elim, arith, get_or-set_other, get_or-set_same, ext_get_or, length-append, length-drop}
use Rattle.std.proofs.lemmas.List.{length-replicate, get_or_append_left, get_or-append_right, get_or-drop, get_or-take, length-take-le}
use Rattle.std.proofs.Math.Nat.{mul-le-mul_left}
use native.Mathlib.Decide.{dec_lt}
use Rattle.words.proofs.Tables.{is_table, get_d_zeros, stored}
use Rattle.words.proofs.Tests.{same_or_not, cond_true, cond_false}
use Rattle.order.specs.Stored.{elements}
use Rattle.solver.specs.model.Solve.{blanks}
use Rattle.solver.specs.model.Quote.{Clean, unused, copied}
use Rattle.solver.proofs.StartState.{unused_long}

-- a store that keeps a 0
pub set_zero : (l : List ℕ) (c v p : ℕ) → c < length l → get_or l p 0 ≡ 0 → (p ≡ c → v ≡ 0) → get_or (set l c v) p 0 ≡ 0
set_zero l c v p h z e =
    ⊎_elim (λ q. ap (λ (x : ℕ). get_or (set l c v) x 0) q ∙ get_or-set_same l c v 0 h ∙ e q)
    (λ n. get_or-set_other l c p v 0 n ∙ z) (same_or_not p c)

-- the m first rows are zeros
pub cleared : (m : ℕ) (f front : List ℕ) → m ≤ elements → Clean m f → front ≡ replicate (m * elements) 0
    → front ++ drop (m * elements) f ≡ unused
unfolding unused
cleared m f front h c e =
    let n : length front ≡ m * elements = ap (λ (l : List ℕ). length l) e ∙ length-replicate {A = ℕ} (m * elements) 0 in
    ext_get_or 0 (front ++ drop (m * elements) f) (replicate (elements * elements) 0)
    (length-append front (drop (m * elements) f)
    ∙ omega (arith, n, c.wide, length-drop (m * elements) f, unused_long, mul-le-mul_left elements h))
    (λ p l. at n p (dec_lt p (m * elements)) ∙ sym (get_d_zeros (elements * elements) p))
  where
    at : length front ≡ m * elements → (p : ℕ) → Dec (p < m * elements)
        → get_or (front ++ drop (m * elements) f) p 0 ≡ 0
    at n p (yes l) = get_or_append_left front (drop (m * elements) f) 0 p (omega arith)
        ∙ ap (λ (x : List ℕ). get_or x p 0) e ∙ get_d_zeros (m * elements) p
    at n p (no l) =
        get_or-append_right front (drop (m * elements) f) (m * elements) p 0 n (omega arith)
        ∙ get_or-drop (m * elements) f (p - m * elements) 0
        ∙ c.rest (m * elements + (p - m * elements)) (omega arith)

-- the m first entries, and zeros
pub copies : (m : ℕ) (a : List ℕ) {front : List ℕ} → m ≤ elements → length a ≡ elements → front ≡ take m a
    → front ++ drop m (replicate elements 0) ≡ copied m a
unfolding copied blanks
copies m a {front} h n e =
    let wide : length front ≡ m = ap (λ (l : List ℕ). length l) e ∙ length-take-le m a (omega arith) in
    is_table elements (λ k. cond (ltb k m) (get_or a k 0) 0) (front ++ drop m (replicate elements 0)) 0
    (length-append front (drop m (replicate elements 0))
    ∙ omega (arith, wide, length-drop m (replicate {A = ℕ} elements 0), length-replicate {A = ℕ} elements 0))
    (λ k l. at wide k (dec_lt k m))
    ∙ sym (stored (λ k. get_or a k 0) elements m h)
  where
    at : length front ≡ m → (k : ℕ) → Dec (k < m)
        → get_or (front ++ drop m (replicate elements 0)) k 0 ≡ cond (ltb k m) (get_or a k 0) 0
    at w k (yes l) =
        get_or_append_left front (drop m (replicate elements 0)) 0 k (omega arith)
        ∙ ap (λ (x : List ℕ). get_or x k 0) e
        ∙ get_or-take m a k 0 l
        ∙ sym (cond_true (get_or a k 0) 0 (lt-ltb k m l))
    at w k (no l) =
        get_or-append_right front (drop m (replicate elements 0)) m k 0 w (omega arith)
        ∙ get_or-drop m (replicate elements 0) (k - m) 0
        ∙ get_d_zeros elements (m + (k - m))
        ∙ sym (cond_false (get_or a k 0) 0 (le-ltb k m (omega arith)))
