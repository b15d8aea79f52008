-- The first of the numbers below n that have a property, and whether there is one.
use mathlib.Core.Path.{◌≡◌, refl, sym, ap, ap₂, ◌∙◌}
use mathlib.Core.Bool.{Bool, true, false, false≢true, ◌||◌}
use mathlib.Core.Logic.{◌↔◌, ⊎_elim}
use Prim.Native.Nat.{ℕ, zero, suc, ◌≤◌, ◌<◌}
use native.Mathlib.Nat.{not-suc-le-zero}
use native.Mathlib.Decide.{dec_lt}
use native.Mathlib.Omega.{arith}
use Rattle.words.specs.Members.{first, IsFirst, some}
use Rattle.words.proofs.Tests.{clash, fails, or_cases, or_left, or_right, same_or_not}

pub the_first : (n : ℕ) (p : ℕ → Bool) → IsFirst n p (first n p)
unfolding first
the_first zero p = record { within = omega arith; before = λ k l. absurd (omega arith); found = λ l. absurd (omega arith) }
the_first (suc n) p = go (first n q) (the_first n q) (p 0) refl
  where
    q : ℕ → Bool
    q = λ k. p (suc k)

    before : (r : ℕ) → IsFirst n q r → p 0 ≡ false → (k : ℕ) → k < suc r → p k ≡ false
    before r F e zero l = e
    before r F e (suc k) l = F.before k (omega arith)

    go : (r : ℕ) → IsFirst n q r → (b : Bool) → p 0 ≡ b → IsFirst (suc n) p (elim b [ true ↦ 0 | false ↦ suc r ])
    go r F true e = record { within = omega arith; before = λ k l. absurd (omega arith); found = λ l. e }
    go r F false e = record { within = omega (arith, F.within); before = before r F e; found = λ l. F.found (omega arith) }

-- there is only one
pub first_only : (n : ℕ) (p : ℕ → Bool) (r : ℕ) → IsFirst n p r → first n p ≡ r
first_only n p r R = go (first n p) (the_first n p) (dec_lt r (first n p)) (dec_lt (first n p) r)
  where
    go : (q : ℕ) → IsFirst n p q → Dec (r < q) → Dec (q < r) → q ≡ r
    go q Q (yes l) w = clash (R.found (omega (arith, Q.within))) (Q.before r l)
    go q Q (no m) (yes l) = clash (Q.found (omega (arith, R.within))) (R.before q l)
    go q Q (no m) (no k) = omega arith

pub first_le : (n : ℕ) (p : ℕ → Bool) → first n p ≤ n
first_le n p = (the_first n p).within

-- no number below the first has the property
pub before_first : (n : ℕ) (p : ℕ → Bool) (i : ℕ) → i < first n p → p i ≡ false
before_first n p i h = (the_first n p).before i h

-- the first has the property, unless it is n
pub at_first : (n : ℕ) (p : ℕ → Bool) → first n p < n → p (first n p) ≡ true
at_first n p h = (the_first n p).found h

-- the first is r where r has the property, or is n, and no number below r has it
pub first_is : (n : ℕ) (p : ℕ → Bool) (r : ℕ) → r ≤ n → ((i : ℕ) → i < r → p i ≡ false) → (r < n → p r ≡ true) → first n p ≡ r
first_is n p r l none here = first_only n p r (record { within = l; before = none; found = here })

-- one that has the property is no earlier than the first
pub first_below : (n : ℕ) (p : ℕ → Bool) (k : ℕ) → p k ≡ true → first n p ≤ k
first_below n p k e = go (dec_lt k (first n p))
  where
    go : Dec (k < first n p) → first n p ≤ k
    go (yes l) = clash e (before_first n p k l)
    go (no m) = omega arith

-- the first is n where no number below n has the property, and only there
pub first_none : (n : ℕ) (p : ℕ → Bool) → (first n p ≡ n) ↔ ((i : ℕ) → i < n → p i ≡ false)
first_none n p = (
  (λ e i h. before_first n p i (omega arith)),
  (λ none. first_is n p n (omega arith) none (λ h. absurd (omega arith))),
)

-- the first goes by the property alone
pub first_cong : (n : ℕ) (p q : ℕ → Bool) → ((i : ℕ) → i < n → p i ≡ q i) → first n p ≡ first n q
first_cong n p q e =
    first_is n p (first n q) (first_le n q) (λ i h. e i (omega (arith, first_le n q)) ∙ before_first n q i h) (λ h. e (first n q) h ∙ at_first n q h)

-- a loop that looks for the first: the index at which it stops, and the end that it comes to
pub first_stop : (n : ℕ) (p : ℕ → Bool) (i : ℕ) → ((k : ℕ) → k < i → p k ≡ false) → i < n → p i ≡ true → i ≡ first n p
first_stop n p i h l e = sym (first_is n p i (omega arith) h (λ m. e))

pub first_end : (n : ℕ) (p : ℕ → Bool) (i : ℕ) → ((k : ℕ) → k < i → p k ≡ false) → i ≡ n → n ≡ first n p
first_end n p i h e = sym ((first_none n p).1 (λ k l. h k (omega arith)))

-- ---- whether there is one

pub some_found : (n : ℕ) (p : ℕ → Bool) → some n p ≡ true → (k : ℕ) × (k < n) × (p k ≡ true)
unfolding some
some_found zero p h = absurd (false≢true h)
some_found (suc n) p h =
    or_cases (some n p) (p n) h
    (λ e. let r = some_found n p e in (r.0, omega (arith, r.1), r.2))
    (λ e. (n, omega arith, e))

pub some_here : (n : ℕ) (p : ℕ → Bool) (k : ℕ) → k < n → p k ≡ true → some n p ≡ true
unfolding some
some_here zero p k l h = absurd (not-suc-le-zero l)
some_here (suc n) p k l h =
    ⊎_elim
    (λ e. or_right (some n p) (p n) (sym (ap p e) ∙ h))
    (λ e. or_left (some n p) (p n) (some_here n p k (omega arith) h))
    (same_or_not k n)

pub some_none : (n : ℕ) (p : ℕ → Bool) → ((k : ℕ) → k < n → p k ≡ false) → some n p ≡ false
some_none n p h = fails (some n p) (λ e. let w = some_found n p e in clash w.2 (h w.0 w.1))

-- that there is one goes by the property alone
pub some_cong : (n : ℕ) (p q : ℕ → Bool) → ((k : ℕ) → k < n → p k ≡ q k) → some n p ≡ some n q
unfolding some
some_cong zero p q e = refl
some_cong (suc n) p q e = ap₂ ◌||◌ (some_cong n p q (λ k l. e k (omega arith))) (e n (omega arith))
