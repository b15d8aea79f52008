-- Tests, and the facts that they decide.
use mathlib.Core.Path.{◌≡◌, refl, sym, ap, ◌∙◌, subst}
use mathlib.Core.Bool.{Bool, true, false, not, cond, ◌&&◌, ◌||◌, true≢false, false≢true}
use mathlib.Core.Logic.{◌⊎◌, inl, inr, ⊎_elim, ◌↔◌, ◌≢◌, by_cases}
use Prim.Native.Nat.{ℕ, suc, ◌≤◌, ◌<◌}
use native.Mathlib.Nat.{eq-or-lt_of_le, le_of_suc-le-suc}
use native.Mathlib.Decide.{ℕ_discrete}
use native.Mathlib.Omega.{arith}
use lib.Dec.{eqb}
use borrow.Author.Tests.{eq-eqb, eqb-true}

-- a test is not both
pub clash {ℓ} : {P : Type ℓ} {t : Bool} → t ≡ true → t ≡ false → P
clash p q = absurd (true≢false (sym p ∙ q))

-- a test that cannot be false is true, and the other way round
pub holds : (t : Bool) → (t ≡ false → ⊥) → t ≡ true
holds true h = refl
holds false h = absurd (h refl)

pub fails : (t : Bool) → (t ≡ true → ⊥) → t ≡ false
fails true h = absurd (h refl)
fails false h = refl

-- by whether a test holds
pub by_test {ℓ} : {P : Type ℓ} (t : Bool) → (t ≡ true → P) → (t ≡ false → P) → P
by_test true y n = y refl
by_test false y n = n refl

-- two tests that are true together are equal
pub test_same : (a b : Bool) → (a ≡ true ↔ b ≡ true) → a ≡ b
test_same true b f = sym (f.0 refl)
test_same false true f = f.1 refl
test_same false false f = refl

-- ---- both of two tests, one of two tests, the opposite of a test

pub and_says : (a b : Bool) → (a && b ≡ true) ↔ ((a ≡ true) × (b ≡ true))
and_says true b = ((λ e. (refl, e)), (λ e. e.1))
and_says false b = ((λ e. absurd (false≢true e)), (λ e. e.0))

pub or_says : (a b : Bool) → (a || b ≡ true) ↔ ((a ≡ true) ⊎ (b ≡ true))
or_says true b = ((λ e. inl refl), (λ e. refl))
or_says false b = ((λ e. inr e), ⊎_elim (λ e. absurd (false≢true e)) (λ e. e))

pub and_left : (a b : Bool) → (a && b) ≡ true → a ≡ true
and_left a b h = ((and_says a b).0 h).0

pub and_right : (a b : Bool) → (a && b) ≡ true → b ≡ true
and_right a b h = ((and_says a b).0 h).1

pub and_both : (a b : Bool) → a ≡ true → b ≡ true → (a && b) ≡ true
and_both a b p q = (and_says a b).1 (p, q)

pub or_left : (a b : Bool) → a ≡ true → (a || b) ≡ true
or_left a b p = (or_says a b).1 (inl p)

pub or_right : (a b : Bool) → b ≡ true → (a || b) ≡ true
or_right a b p = (or_says a b).1 (inr p)

pub or_cases {ℓ} : {P : Type ℓ} (a b : Bool) → (a || b) ≡ true → (a ≡ true → P) → (b ≡ true → P) → P
or_cases a b h f g = ⊎_elim f g ((or_says a b).0 h)

pub not_of_false : (t : Bool) → t ≡ false → not t ≡ true
not_of_false t p = rw p

pub false_of_not : (t : Bool) → not t ≡ true → t ≡ false
false_of_not true p = sym p
false_of_not false p = refl

pub ⊎-iff : {A B C D : Type 0} → A ↔ C → B ↔ D → (A ⊎ B) ↔ (C ⊎ D)
⊎-iff f g = (⊎_elim (λ a. inl (f.0 a)) (λ b. inr (g.0 b)), ⊎_elim (λ c. inl (f.1 c)) (λ d. inr (g.1 d)))

-- ---- a choice by a test

pub cond_true : {A : Type 0} {t : Bool} (a b : A) → t ≡ true → cond t a b ≡ a
cond_true a b e = ap (λ (x : Bool). cond x a b) e

pub cond_false : {A : Type 0} {t : Bool} (a b : A) → t ≡ false → cond t a b ≡ b
cond_false a b e = ap (λ (x : Bool). cond x a b) e

-- what holds of the value chosen
pub cond_has : {A : Type 0} (P : A → Type 0) (t : Bool) (a b : A) → (t ≡ true → P a) → (t ≡ false → P b) → P (cond t a b)
cond_has P true a b x y = x refl
cond_has P false a b x y = y refl

-- a number where a test holds, and else 0
pub cond_cong : (t : Bool) (x y : ℕ) → (t ≡ true → x ≡ y) → cond t x 0 ≡ cond t y 0
cond_cong true x y h = h refl
cond_cong false x y h = refl

pub cond_least : (t : Bool) (x k : ℕ) → (t ≡ true → x ≤ k) → cond t x 0 ≤ k
cond_least t x k h = cond_has (λ v. v ≤ k) t x 0 h (λ e. omega arith)

pub cond_at : (t : Bool) (x : ℕ) → t ≡ true → x ≤ cond t x 0
cond_at t x e = rw e (omega arith)

pub cond_reached : (t : Bool) (x : ℕ) → (cond t x 0 ≡ 0) ⊎ ((t ≡ true) × (cond t x 0 ≡ x))
cond_reached true x = inr (refl, refl)
cond_reached false x = inl refl

-- ---- numbers

pub eqb_says : (i j : ℕ) → (eqb i j ≡ true) ↔ (i ≡ j)
eqb_says i j = (eqb-true i j, eq-eqb i j)

-- two numbers are the same, or not
pub same_or_not : (k n : ℕ) → (k ≡ n) ⊎ (k ≡ n → ⊥)
same_or_not k n = by_cases (ℕ_discrete k n) (λ e. inl e) (λ d. inr d)

-- what holds of each number below n, and of n, holds of each below suc n
pub below_suc : (P : ℕ → Type 0) (n : ℕ) → ((k : ℕ) → k < n → P k) → P n → (k : ℕ) → k < suc n → P k
below_suc P n all here k l = ⊎_elim (λ e. subst P (sym e) here) (λ lt. all k lt) (eq-or-lt_of_le (le_of_suc-le-suc l))

-- what holds at j, and at every other number, holds at each
pub at_or_other : (P : ℕ → Type 0) (j i : ℕ) → P j → (i ≢ j → P i) → P i
at_or_other P j i here other = ⊎_elim (λ e. subst P (sym e) here) other (same_or_not i j)
