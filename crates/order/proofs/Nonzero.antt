-- The places at which a function is not 0, and those of a list: those of its two halves together.
use Rattle.std.proofs.Common.{◌≡◌, ℕ, zero, suc, ◌+◌, ◌-◌, ◌*◌, ◌%◌, ◌^◌, ◌<◌, ◌≤◌, Bool, true, false, cond, eqb, List, get_or, take, drop, sym, refl, ap, ◌∙◌, ⊎_elim, add-zero, add-suc, mul_comm, zero-add, zero-mul, add-one, arith, get_or-take, get_or-drop, pow_pos, pow-add, eq-eqb, ne_eqb}
use lib.Bits.{bit_or, or_zero_r, or_block}
use lib.Pow.{low}
use Rattle.words.specs.Bits.{digit, with_bit}
use Rattle.words.proofs.Bits.{digit_none, with_lt, with_there, with_other}
use Rattle.words.proofs.Tests.{cond_true, cond_false, cond_has, same_or_not}
use Rattle.order.specs.Stored.{bound, elements}
use Rattle.order.proofs.Stored.{in_bound, to_bound, bound_pos}
use Rattle.order.specs.model.Places.{noted, nonzero, positive}

-- ---- one place

module _ (w i n : ℕ) where
  pub noted_none : n ≡ 0 → noted w i n ≡ w
  noted_none z = cond_true w (with_bit w i) (eq-eqb n 0 z)

  pub noted_some : (n ≡ 0 → ⊥) → noted w i n ≡ with_bit w i
  noted_some z = cond_false w (with_bit w i) (ne_eqb n 0 z)

  noted_lt : i < elements → w < bound → noted w i n < bound
  noted_lt h l = ⊎_elim (λ z. omega (arith, noted_none z)) (λ z. omega (arith, noted_some z, to_bound (with_lt w i elements h (in_bound l)))) (same_or_not n 0)

  noted_there : (n ≡ 0 → ⊥) → digit (noted w i n) i ≡ 1
  noted_there z = ap (λ (x : ℕ). digit x i) (noted_some z) ∙ with_there w i

  noted_other : (x : ℕ) → (x ≡ i → ⊥) → digit (noted w i n) x ≡ digit w x
  noted_other x d =
      ⊎_elim
      (λ z. ap (λ (y : ℕ). digit y x) (noted_none z))
      (λ z. ap (λ (y : ℕ). digit y x) (noted_some z) ∙ with_other w i x d)
      (same_or_not n 0)

-- the places at which a function is not 0
module _ (f : ℕ → ℕ) where
  pub nonzero_start : 0 ≡ nonzero 0 f
  unfolding nonzero
  nonzero_start = refl

  pub nonzero_more : (i w v : ℕ) → w ≡ nonzero i f → v ≡ noted w i (f i) → v ≡ nonzero (i + 1) f
  unfolding nonzero
  nonzero_more i w v e q = q ∙ ap (λ (x : ℕ). noted x i (f i)) e ∙ ap (λ (x : ℕ). nonzero x f) (sym (add-one i))

  pub nonzero_lt : (k : ℕ) → k ≤ elements → nonzero k f < bound
  unfolding nonzero
  nonzero_lt zero h = bound_pos
  nonzero_lt (suc k) h = noted_lt (nonzero k f) k (f k) (omega arith) (nonzero_lt k (omega arith))

  pub nonzero_bit : (k i : ℕ) → i < k → (f i ≡ 0 → ⊥) → digit (nonzero k f) i ≡ 1
  unfolding nonzero
  nonzero_bit zero i l p = absurd (omega arith)
  nonzero_bit (suc k) i l p =
      ⊎_elim
      (λ e. rw e (noted_there (nonzero k f) k (f k) (λ z. p (ap f e ∙ z))))
      (λ n. noted_other (nonzero k f) k (f k) i n ∙ nonzero_bit k i (omega arith) p)
      (same_or_not i k)

  -- no member from k on
  pub nonzero_past : (k i : ℕ) → k ≤ i → digit (nonzero k f) i ≡ 0
  unfolding nonzero
  nonzero_past zero i l = digit_none i
  nonzero_past (suc k) i l = noted_other (nonzero k f) k (f k) i (λ e. omega arith) ∙ nonzero_past k i (omega arith)

  pub nonzero_none : (k i : ℕ) → f i ≡ 0 → digit (nonzero k f) i ≡ 0
  unfolding nonzero
  nonzero_none zero i z = digit_none i
  nonzero_none (suc k) i z =
      ⊎_elim
      (λ e. rw e (ap (λ (x : ℕ). digit x k) (noted_none (nonzero k f) k (f k) (sym (ap f e) ∙ z)) ∙ nonzero_past k k (omega arith)))
      (λ n. noted_other (nonzero k f) k (f k) i n ∙ nonzero_none k i z)
      (same_or_not i k)

-- the same by a bit that is 0 where the entry is
picked : (t : Bool) (w v : ℕ) → bit_or w (cond t 0 v) ≡ cond t w (bit_or w v)
picked true w v = or_zero_r w
picked false w v = refl

pub positive_more : (a : List ℕ) (i w d x : ℕ) → w ≡ positive i a → d ≡ cond (eqb x 0) 0 (2 ^ i) → x ≡ get_or a i 0 → bit_or w d ≡ positive (i + 1) a
positive_more a i w d x e q p = nonzero_more (λ j. get_or a j 0) i w (bit_or w d) e (ap (bit_or w) q ∙ picked (eqb x 0) w (2 ^ i) ∙ ap (λ (y : ℕ). noted w i y) p)

-- ---- halves

-- the places of a list are those of its front
pub positive_front : (n : ℕ) (a : List ℕ) (k : ℕ) → k ≤ n → positive k (take n a) ≡ positive k a
unfolding nonzero
positive_front n a zero h = refl
positive_front n a (suc k) h = rw (get_or-take n a k 0 (omega arith), positive_front n a k (omega arith)) refl

pub positive_fits : (n : ℕ) (a : List ℕ) → positive n a < 2 ^ n
unfolding nonzero
positive_fits zero a = pow_pos 0
positive_fits (suc n) a =
    let l : positive n a < 2 ^ suc n = omega (arith, positive_fits n a) in
    cond_has (λ w. w < 2 ^ suc n) (eqb (get_or a n 0) 0) (positive n a) (bit_or (positive n a) (2 ^ n)) (λ _. l) (λ _. with_lt (positive n a) n (suc n) (omega arith) l)

pub positive_cat : (n k : ℕ) (a : List ℕ) → positive (n + k) a ≡ positive k (drop n a) * 2 ^ n + positive n a
unfolding nonzero
positive_cat n zero a = ap (λ (x : ℕ). positive x a) (add-zero n) ∙ sym (ap (λ (x : ℕ). x + positive n a) (zero-mul (2 ^ n)) ∙ zero-add (positive n a))
positive_cat n (suc k) a =
    ap (λ (x : ℕ). positive x a) (add-suc n k)
    ∙ ap (λ (x : ℕ). noted x (n + k) (get_or a (n + k) 0)) (positive_cat n k a)
    ∙ ap (λ (x : ℕ). noted (p * 2 ^ n + l) (n + k) x) (sym (get_or-drop n a k 0))
    ∙ over (eqb (get_or (drop n a) k 0) 0)
  where
    p : ℕ
    p = positive k (drop n a)

    l : ℕ
    l = positive n a

    place : 2 ^ (n + k) ≡ 2 ^ k * 2 ^ n + 0
    place = pow-add 2 n k ∙ mul_comm (2 ^ n) (2 ^ k) ∙ sym (add-zero (2 ^ k * 2 ^ n))

    over : (t : Bool) → cond t (p * 2 ^ n + l) (bit_or (p * 2 ^ n + l) (2 ^ (n + k))) ≡ cond t p (bit_or p (2 ^ k)) * 2 ^ n + l
    over true = refl
    over false = ap (bit_or (p * 2 ^ n + l)) place ∙ or_block n p (2 ^ k) l 0 (positive_fits n a) (pow_pos n) ∙ ap (λ (x : ℕ). bit_or p (2 ^ k) * 2 ^ n + x) (or_zero_r l)

-- the first m of them
pub positive_first : (n m : ℕ) → m ≤ n → (a : List ℕ) → positive n a % 2 ^ m ≡ positive m a
positive_first n m h a =
    let e : n ≡ m + (n - m) = omega arith in
    ap (λ (x : ℕ). positive x a % 2 ^ m) e ∙ ap (λ (x : ℕ). x % 2 ^ m) (positive_cat m (n - m) a) ∙ low (positive (n - m) (drop m a)) m (positive_fits m a)
