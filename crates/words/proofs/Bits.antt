-- The digits of a number, of any size, and what each operation does to them. `digit` is a number, so that `omega` goes
-- by cases over it; `bit` is the test of it.
use mathlib.Core.Path.{◌≡◌, refl, sym, ap, ap₂, ◌∙◌}
use mathlib.Core.Bool.{Bool, true, false, not, ◌&&◌, ◌||◌}
use mathlib.Core.Logic.{◌⊎◌, inl, inr}
use Prim.Native.Nat.{ℕ, zero, suc, ◌+◌, ◌-◌, ◌*◌, ◌/◌, ◌%◌, ◌^◌, ◌≤◌, ◌<◌, min, max}
use native.Mathlib.Nat.{one-mul, div-add-mod', div-le_self, mod-lt, mod-eq_of_lt, zero-lt-suc, zero-max, zero-min, zero-sub, pow-suc, pow-succ', div-div-eq-div-mul, zero-div, div-one, lt_of_lt_of_le}
use native.Mathlib.Omega.{arith}
use lib.Dec.{lit<, eqb, eqb-suc-suc, eqb-zero-suc, eqb-suc-zero}
use lib.Bits.{bit_and, bit_or, and_step, or_step, or_lt, and_le_l, and_shr, or_shr}
use lib.Pow.{pow_pos, pow_mono, pow-lt, shr-shr, high}
use lib.Arith.{lt-one}
use borrow.Author.Tests.{eq-eqb, ne_eqb, eqb-true}
use Rattle.words.specs.Bits.{digit, bit, minus, with_bit}
use Rattle.words.proofs.Tests.{clash}

-- ---- a digit is that of the number itself, or one of its half

pub digit_lt : (w i : ℕ) → digit w i < 2
unfolding digit
digit_lt w i = mod-lt (w / 2 ^ i) (zero-lt-suc 1)

pub digit_first : (w : ℕ) → digit w 0 ≡ w % 2
unfolding digit
digit_first w = rw div-one

pub digit_next : (w i : ℕ) → digit w (suc i) ≡ digit (w / 2) i
unfolding digit
digit_next w i = rw (pow-succ', ← div-div-eq-div-mul)

pub digit_none : (i : ℕ) → digit 0 i ≡ 0
unfolding digit
digit_none i = rw zero-div

pub zero_or_one : (w i : ℕ) → (digit w i ≡ 0) ⊎ (digit w i ≡ 1)
zero_or_one w i = go (digit w i) (digit_lt w i)
  where
    go : (d : ℕ) → d < 2 → (d ≡ 0) ⊎ (d ≡ 1)
    go zero h = inl refl
    go (suc d) h = inr (omega arith)

pub even_or_odd : (w : ℕ) → (w % 2 ≡ 0) ⊎ (w % 2 ≡ 1)
even_or_odd w = rw (← digit_first) (zero_or_one w 0)

-- ---- the test of a digit

pub bit_one : (w i : ℕ) → digit w i ≡ 1 → bit w i ≡ true
unfolding bit
bit_one w i e = eq-eqb (digit w i) 1 e

pub bit_none : (w i : ℕ) → digit w i ≡ 0 → bit w i ≡ false
unfolding bit
bit_none w i e = ne_eqb (digit w i) 1 (λ q. omega arith)

pub digit_one : (w i : ℕ) → bit w i ≡ true → digit w i ≡ 1
unfolding bit
digit_one w i e = eqb-true (digit w i) 1 e

pub digit_zero : (w i : ℕ) → bit w i ≡ false → digit w i ≡ 0
digit_zero w i e = go (zero_or_one w i)
  where
    go : (digit w i ≡ 0) ⊎ (digit w i ≡ 1) → digit w i ≡ 0
    go (inl z) = z
    go (inr o) = clash (bit_one w i o) e

-- equal digits, equal tests
bit_by : (w v i j : ℕ) → digit w i ≡ digit v j → bit w i ≡ bit v j
unfolding bit
bit_by w v i j e = ap (λ (x : ℕ). eqb x 1) e

pub bit_suc : (w i : ℕ) → bit w (suc i) ≡ bit (w / 2) i
bit_suc w i = bit_by w (w / 2) (suc i) i (digit_next w i)

pub bit_zero : (i : ℕ) → bit 0 i ≡ false
bit_zero i = bit_none 0 i (digit_none i)

-- ---- a number below 2 ^ k has its members below k

pub half_lt : (k w : ℕ) → w < 2 ^ suc k → w / 2 < 2 ^ k
half_lt k w h = omega (arith, pow-suc 2 k)

pub digit_above : (k w i : ℕ) → w < 2 ^ k → k ≤ i → digit w i ≡ 0
digit_above zero w i h l = rw (lt-one h) (digit_none i)
digit_above (suc k) w zero h l = absurd (omega arith)
digit_above (suc k) w (suc i) h l = digit_next w i ∙ digit_above k (w / 2) i (half_lt k w h) (omega arith)

pub bit_above : (k w i : ℕ) → w < 2 ^ k → k ≤ i → bit w i ≡ false
bit_above k w i h l = bit_none w i (digit_above k w i h l)

-- ---- two numbers with the same members are equal

digit_same : (v w i : ℕ) → bit v i ≡ bit w i → digit v i ≡ digit w i
digit_same v w i e = go (bit w i) refl
  where
    go : (t : Bool) → bit w i ≡ t → digit v i ≡ digit w i
    go true f = digit_one v i (e ∙ f) ∙ sym (digit_one w i f)
    go false f = digit_zero v i (e ∙ f) ∙ sym (digit_zero w i f)

pub bit_ext : (k v w : ℕ) → v < 2 ^ k → w < 2 ^ k → ((i : ℕ) → i < k → bit v i ≡ bit w i) → v ≡ w
bit_ext zero v w hv hw same = lt-one hv ∙ sym (lt-one hw)
bit_ext (suc k) v w hv hw same =
    let half : v / 2 ≡ w / 2 =
    bit_ext k (v / 2) (w / 2) (half_lt k v hv) (half_lt k w hw)
    (λ i h. sym (bit_suc v i) ∙ same (suc i) (omega arith) ∙ bit_suc w i) in
    let low : v % 2 ≡ w % 2 = sym (digit_first v) ∙ digit_same v w 0 (same 0 (omega arith)) ∙ digit_first w in
    omega arith

-- the same with no bound on the two
below_pow : (n : ℕ) → n < 2 ^ n
below_pow zero = lit< tt
below_pow (suc n) = omega (arith, pow-suc 2 n, below_pow n)

pub bit_same : (v w : ℕ) → ((i : ℕ) → bit v i ≡ bit w i) → v ≡ w
bit_same v w same =
    bit_ext (v + w) v w
    (lt_of_lt_of_le (below_pow v) (pow_mono (omega arith)))
    (lt_of_lt_of_le (below_pow w) (pow_mono (omega arith)))
    (λ i h. same i)

-- ---- the digits of the operations

and_low : (x y : ℕ) → bit_and x y % 2 ≡ min (x % 2) (y % 2)
and_low x y = omega (arith, and_step x y)

or_low : (x y : ℕ) → bit_or x y % 2 ≡ max (x % 2) (y % 2)
or_low x y = omega (arith, or_step x y)

pub digit_and : (a b i : ℕ) → digit (bit_and a b) i ≡ min (digit a i) (digit b i)
unfolding digit
digit_and a b i = ap (λ (x : ℕ). x % 2) (and_shr a b i) ∙ and_low (a / 2 ^ i) (b / 2 ^ i)

pub digit_or : (a b i : ℕ) → digit (bit_or a b) i ≡ max (digit a i) (digit b i)
unfolding digit
digit_or a b i = ap (λ (x : ℕ). x % 2) (or_shr a b i) ∙ or_low (a / 2 ^ i) (b / 2 ^ i)

pub digit_minus : (a b i : ℕ) → digit (minus a b) i ≡ digit a i - digit b i
digit_minus a b zero =
    let l = and_le_l (a / 2) (b / 2) in
    omega (arith, digit_first (minus a b), digit_first a, digit_first b, and_step a b)
digit_minus a b (suc i) =
    let l = and_le_l (a / 2) (b / 2) in
    let s = and_step a b in
    let e : minus a b / 2 ≡ minus (a / 2) (b / 2) = omega arith in
    digit_next (minus a b) i ∙ ap (λ (x : ℕ). digit x i) e ∙ digit_minus (a / 2) (b / 2) i
    ∙ ap₂ ◌-◌ (sym (digit_next a i)) (sym (digit_next b i))

-- the complement in k digits
pub digit_not : (i k b : ℕ) → i < k → b < 2 ^ k → digit (2 ^ k - 1 - b) i + digit b i ≡ 1
digit_not i zero b h l = absurd (omega arith)
digit_not zero (suc k) b h l = omega (arith, digit_first (2 ^ suc k - 1 - b), digit_first b, pow-suc 2 k)
digit_not (suc i) (suc k) b h l =
    let m : (2 ^ suc k - 1 - b) / 2 ≡ 2 ^ k - 1 - b / 2 = omega (arith, pow-suc 2 k) in
    omega (arith, digit_next (2 ^ suc k - 1 - b) i, ap (λ (x : ℕ). digit x i) m, digit_next b i, digit_not i k (b / 2) (omega arith) (half_lt k b l))

-- ---- the members of the operations

or_test : (x y : ℕ) → x < 2 → y < 2 → eqb (max x y) 1 ≡ eqb x 1 || eqb y 1
or_test zero y hx hy = rw zero-max
or_test (suc zero) zero hx hy = refl
or_test (suc zero) (suc zero) hx hy = refl
or_test (suc zero) (suc (suc y)) hx hy = absurd (omega arith)
or_test (suc (suc x)) y hx hy = absurd (omega arith)

and_test : (x y : ℕ) → x < 2 → y < 2 → eqb (min x y) 1 ≡ eqb x 1 && eqb y 1
and_test zero y hx hy = rw zero-min
and_test (suc zero) zero hx hy = refl
and_test (suc zero) (suc zero) hx hy = refl
and_test (suc zero) (suc (suc y)) hx hy = absurd (omega arith)
and_test (suc (suc x)) y hx hy = absurd (omega arith)

minus_test : (x y : ℕ) → x < 2 → y < 2 → eqb (x - y) 1 ≡ eqb x 1 && not (eqb y 1)
minus_test zero y hx hy = ap (λ (x : ℕ). eqb x 1) (zero-sub y)
minus_test (suc zero) zero hx hy = refl
minus_test (suc zero) (suc zero) hx hy = refl
minus_test (suc zero) (suc (suc y)) hx hy = absurd (omega arith)
minus_test (suc (suc x)) y hx hy = absurd (omega arith)

-- a union has the members of both
pub bit_or_lem : (a b i : ℕ) → bit (bit_or a b) i ≡ bit a i || bit b i
unfolding bit
bit_or_lem a b i = ap (λ (x : ℕ). eqb x 1) (digit_or a b i) ∙ or_test (digit a i) (digit b i) (digit_lt a i) (digit_lt b i)

-- a meet has the members that both have
pub bit_and_lem : (a b i : ℕ) → bit (bit_and a b) i ≡ bit a i && bit b i
unfolding bit
bit_and_lem a b i = ap (λ (x : ℕ). eqb x 1) (digit_and a b i) ∙ and_test (digit a i) (digit b i) (digit_lt a i) (digit_lt b i)

pub bit_minus : (a b i : ℕ) → bit (minus a b) i ≡ bit a i && not (bit b i)
unfolding bit
bit_minus a b i = ap (λ (x : ℕ). eqb x 1) (digit_minus a b i) ∙ minus_test (digit a i) (digit b i) (digit_lt a i) (digit_lt b i)

-- ---- the number with one member

pub bit_single : (j i : ℕ) → bit (2 ^ j) i ≡ eqb i j
bit_single zero zero = bit_one 1 0 (digit_first 1)
bit_single zero (suc i) = bit_suc 1 i ∙ bit_zero i ∙ sym (eqb-suc-zero i)
bit_single (suc j) zero = bit_none (2 ^ suc j) 0 (omega (arith, digit_first (2 ^ suc j), pow-suc 2 j)) ∙ sym (eqb-zero-suc j)
bit_single (suc j) (suc i) =
    let e : 2 ^ suc j / 2 ≡ 2 ^ j = omega (arith, pow-suc 2 j) in
    bit_suc (2 ^ suc j) i ∙ ap (λ (x : ℕ). bit x i) e ∙ bit_single j i ∙ sym (eqb-suc-suc i j)

pub digit_self : (i : ℕ) → digit (2 ^ i) i ≡ 1
digit_self i = digit_one (2 ^ i) i (bit_single i i ∙ eq-eqb i i refl)

pub digit_other : (j i : ℕ) → (i ≡ j → ⊥) → digit (2 ^ j) i ≡ 0
digit_other j i n = digit_zero (2 ^ j) i (bit_single j i ∙ ne_eqb i j n)

-- a number with one member more
module _ (w i : ℕ) where
  pub with_lt : (k : ℕ) → i < k → w < 2 ^ k → with_bit w i < 2 ^ k
  with_lt k h l = or_lt k w (2 ^ i) l (pow-lt h)

  pub with_there : digit (with_bit w i) i ≡ 1
  with_there = omega (arith, digit_or w (2 ^ i) i, digit_self i, digit_lt w i)

  pub with_other : (x : ℕ) → (x ≡ i → ⊥) → digit (with_bit w i) x ≡ digit w x
  with_other x d = omega (arith, digit_or w (2 ^ i) x, digit_other i x d)

-- `1 << j` in a word of k bits is that number
pub shl_one : (k j : ℕ) → j < k → 1 * 2 ^ j % 2 ^ k ≡ 2 ^ j
shl_one k j h = rw one-mul (mod-eq_of_lt (pow-lt h))

-- ---- a number of two words: its digits from place k on are those of the high word

pub digit_cat_high : (k hi lo i : ℕ) → lo < 2 ^ k → digit (hi * 2 ^ k + lo) (k + i) ≡ digit hi i
unfolding digit
digit_cat_high k hi lo i h = ap (λ (x : ℕ). x % 2) (sym (shr-shr (hi * 2 ^ k + lo) k i) ∙ ap (λ (x : ℕ). x / 2 ^ i) (high hi k h))

pub bit_cat_high : (k hi lo i : ℕ) → lo < 2 ^ k → bit (hi * 2 ^ k + lo) (k + i) ≡ bit hi i
bit_cat_high k hi lo i h = bit_by (hi * 2 ^ k + lo) hi (k + i) i (digit_cat_high k hi lo i h)

-- a number whose digits from place n on are 0 is below 2 ^ n
pub digits_below : (k n w : ℕ) → w < 2 ^ k → ((i : ℕ) → n ≤ i → bit w i ≡ false) → w < 2 ^ n
digits_below k n w h none =
    let parts : w / 2 ^ n * 2 ^ n + w % 2 ^ n ≡ w = div-add-mod' w (2 ^ n) in
    let low : w % 2 ^ n < 2 ^ n = mod-lt w (pow_pos n) in
    let high : w / 2 ^ n ≡ 0 =
    bit_ext k (w / 2 ^ n) 0 (omega (arith, div-le_self w (2 ^ n))) (pow_pos k)
    (λ i l.
    sym (bit_cat_high n (w / 2 ^ n) (w % 2 ^ n) i low)
    ∙ ap (λ (x : ℕ). bit x (n + i)) parts
    ∙ none (n + i) (omega arith)
    ∙ sym (bit_zero i)) in
    let all : 0 * 2 ^ n + w % 2 ^ n ≡ w = ap (λ (x : ℕ). x * 2 ^ n + w % 2 ^ n) (sym high) ∙ parts in
    omega arith
