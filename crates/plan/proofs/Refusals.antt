-- The first refusal among several answers, and one answer after another.
use mathlib.Core.Path.{◌≡◌, refl, sym, ap, ◌∙◌}
use mathlib.Core.Bool.{Bool, true, false, not, cond, false≢true}
use Prim.Native.Nat.{ℕ, zero, suc, ◌+◌, ◌<◌}
use native.Mathlib.Nat.{zero-add, suc-add}
use native.Mathlib.Omega.{arith}
use lib.Dec.{ltb, leb-suc-suc}
use borrow.Author.Tests.{lt-ltb, ltb-true, not-false}
use Rattle.words.specs.Members.{first}
use Rattle.words.proofs.Tests.{by_test, clash, holds, cond_true, cond_false}
use Rattle.words.proofs.Firsts.{before_first}
use Rattle.std.specs.Prelude.{Ok, Err}
use Rattle.plan.specs.Causes.{Answer, is_readable, first_refusal, followed_by}

-- ---- one answer after another

pub readable_is : (a : Answer) → is_readable a ≡ true → a ≡ Ok tt
readable_is (Ok _) e = refl
readable_is (Err c) e = absurd (false≢true e)

pub followed_left : (a b : Answer) → is_readable (followed_by a b) ≡ true → is_readable a ≡ true
followed_left (Ok _) b e = refl
followed_left (Err c) b e = e

pub followed_right : (a b : Answer) → is_readable (followed_by a b) ≡ true → is_readable b ≡ true
followed_right (Ok _) b e = e
followed_right (Err c) b e = absurd (false≢true e)

pub followed_assoc : (a b c : Answer) → followed_by (followed_by a b) c ≡ followed_by a (followed_by b c)
followed_assoc (Ok _) b c = refl
followed_assoc (Err x) b c = refl

pub followed_none : (a : Answer) → followed_by a (Ok tt) ≡ a
followed_none (Ok _) = refl
followed_none (Err x) = refl

-- it matters only where nothing was refused before
pub followed_cong : (a : Answer) {b c : Answer} → (is_readable a ≡ true → b ≡ c) → followed_by a b ≡ followed_by a c
followed_cong (Ok _) h = h refl
followed_cong (Err x) h = refl

-- ---- the first refusal, as a recursion

pub refusal_zero : (f : ℕ → Answer) → first_refusal 0 f ≡ Ok tt
unfolding first_refusal first
refusal_zero f = refl

pub refusal_suc : (n : ℕ) (f : ℕ → Answer) → first_refusal (suc n) f ≡ followed_by (f 0) (first_refusal n (λ i. f (suc i)))
unfolding first_refusal first
refusal_suc n f = go (f 0) refl
  where
    more : ℕ → Answer
    more i = f (suc i)

    q : ℕ
    q = first n (λ i. not (is_readable (f (suc i))))

    at : Bool → ℕ
    at b = elim b [ true ↦ 0 | false ↦ suc (first n (λ i. not (is_readable (f (suc i))))) ]

    chosen : ℕ → Answer
    chosen p = cond (ltb p (suc n)) (f p) (Ok tt)

    go : (a : Answer) → f 0 ≡ a
        → chosen (at (not (is_readable (f 0)))) ≡ followed_by a (cond (ltb q n) (f (suc q)) (Ok tt))
    go (Ok _) e = ap (λ (x : Answer). chosen (at (not (is_readable x)))) e
        ∙ ap (λ (b : Bool). cond b (f (suc q)) (Ok tt)) (leb-suc-suc (suc q) n)
    go (Err c) e = ap (λ (x : Answer). chosen (at (not (is_readable x)))) e
        ∙ ap (λ (b : Bool). cond b (f 0) (Ok tt)) (lt-ltb 0 (suc n) (omega arith)) ∙ e

-- it goes by the answers alone
pub refusal_cong : (n : ℕ) (f g : ℕ → Answer) → ((i : ℕ) → i < n → f i ≡ g i) → first_refusal n f ≡ first_refusal n g
refusal_cong zero f g e = refusal_zero f ∙ sym (refusal_zero g)
refusal_cong (suc n) f g e =
    let rest = refusal_cong n (λ i. f (suc i)) (λ i. g (suc i)) (λ i l. e (suc i) (omega arith)) in
    refusal_suc n f
    ∙ ap (λ (a : Answer). followed_by a (first_refusal n (λ i. f (suc i)))) (e 0 (omega arith))
    ∙ ap (followed_by (g 0)) rest
    ∙ sym (refusal_suc n g)

-- of two ranges, one after the other
pub refusal_split : (a b : ℕ) (f : ℕ → Answer) → first_refusal (a + b) f ≡ followed_by (first_refusal a f) (first_refusal b (λ i. f (a + i)))
refusal_split zero b f =
    ap (λ (n : ℕ). first_refusal n f) (zero-add b)
    ∙ refusal_cong b f (λ i. f (0 + i)) (λ i l. ap f (sym (zero-add i)))
    ∙ ap (λ (x : Answer). followed_by x (first_refusal b (λ i. f (0 + i)))) (sym (refusal_zero f))
refusal_split (suc a) b f =
    let ih = refusal_split a b (λ i. f (suc i)) in
    let shift = refusal_cong b (λ i. f (suc (a + i))) (λ i. f (suc a + i)) (λ i l. ap f (sym (suc-add a i))) in
    ap (λ (n : ℕ). first_refusal n f) (suc-add a b)
    ∙ refusal_suc (a + b) f
    ∙ ap (followed_by (f 0)) (ih ∙ ap (followed_by (first_refusal a (λ i. f (suc i)))) shift)
    ∙ sym (followed_assoc (f 0) (first_refusal a (λ i. f (suc i))) (first_refusal b (λ i. f (suc a + i))))
    ∙ ap (λ (x : Answer). followed_by x (first_refusal b (λ i. f (suc a + i)))) (sym (refusal_suc a f))

pub refusal_one : (f : ℕ → Answer) → first_refusal 1 f ≡ f 0
refusal_one f = refusal_suc 0 f ∙ ap (followed_by (f 0)) (refusal_zero (λ i. f (suc i))) ∙ followed_none (f 0)

-- ---- what it says

-- no refusal: every answer is no refusal
pub all_readable : (n : ℕ) (f : ℕ → Answer) → is_readable (first_refusal n f) ≡ true → (i : ℕ) → i < n → is_readable (f i) ≡ true
all_readable zero f e i l = absurd (omega arith)
all_readable (suc n) f e zero l = followed_left (f 0) (first_refusal n (λ i. f (suc i))) (rw (refusal_suc n f) at e)
all_readable (suc n) f e (suc i) l =
    all_readable n (λ x. f (suc x)) (followed_right (f 0) (first_refusal n (λ x. f (suc x))) (rw (refusal_suc n f) at e)) i (omega arith)

-- a refusal is the answer at some place, and before it there is none
pub first_refused : (n : ℕ) (f : ℕ → Answer) → is_readable (first_refusal n f) ≡ false
    → (p : ℕ) × (p < n) × (first_refusal n f ≡ f p) × ((i : ℕ) → i < p → is_readable (f i) ≡ true)
unfolding first_refusal
first_refused n f e =
    let bad : ℕ → Bool = λ i. not (is_readable (f i)) in
    let p : ℕ = first n bad in
    by_test (ltb p n)
    (λ t. (
      p,
      ltb-true p n t,
      cond_true (f p) (Ok tt) t,
      (λ i h. not-false (is_readable (f i)) (before_first n bad i h)),
    ))
    (λ t. absurd (false≢true (sym e ∙ ap is_readable (cond_false (f p) (Ok tt) t))))

-- so where no answer is a refusal, there is none
pub none_refused : (n : ℕ) (f : ℕ → Answer) → ((i : ℕ) → i < n → is_readable (f i) ≡ true) → first_refusal n f ≡ Ok tt
none_refused n f h =
    readable_is (first_refusal n f)
    (holds (is_readable (first_refusal n f)) (λ t. let r = first_refused n f t in clash (h r.0 r.1) (sym (ap is_readable r.2) ∙ t)))
