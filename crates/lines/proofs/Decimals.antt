-- The decimal digits of a number: how many there are, which they are, and that they are read back as the number.
use mathlib.Core.Path.{◌≡◌, sym, ap, subst, ◌∙◌}
use mathlib.Core.Bool.{Bool}
use mathlib.Core.Logic.{◌≢◌}
use Prim.Native.Nat.{ℕ, zero, suc, ◌+◌, ◌*◌, ◌-◌, ◌/◌, ◌%◌, ◌^◌, ◌≤◌, ◌<◌, max}
use native.Mathlib.Omega.{arith}
use native.Mathlib.Nat.{pow-suc, pow-succ', pow-le-pow_right, one-le-pow, suc-sub-suc}
use native.Mathlib.Nat.{div-one, div-div-eq-div-mul, div-lt_iff_lt-mul, le-div_iff_mul-le}
use lib.Dec.{ltb}
use lib.ListN.{length, get_or}
use borrow.Author.Tests.{ltb-true, ltb-false, lt-ltb, le-ltb}
use Rattle.words.specs.Members.{first}
use Rattle.words.specs.Tables.{table}
use Rattle.words.proofs.Firsts.{first_le, first_is, first_below, before_first, at_first}
use Rattle.words.proofs.Tables.{length_table, get_d_table}
use Rattle.words.proofs.Tests.{by_test}
use Rattle.lines.specs.Text.{places, decimal, value_by, value_of}

-- ---- how many

pub positive : (k : ℕ) → 0 < 10 ^ k
positive k = one-le-pow k 10 (omega arith)

-- whether k + 1 digits hold n
abbrev enough : ℕ → ℕ → Bool
enough n k = ltb n (10 ^ suc k)

pub places_some : (n : ℕ) → 1 ≤ places n
unfolding places
places_some n = omega arith

pub places_most : (n : ℕ) → places n ≤ 20
unfolding places
places_most n = omega (arith, first_le 19 (enough n))

pub places_hold : (n : ℕ) → n < 10 ^ 20 → n < 10 ^ places n
unfolding places
places_hold n h =
    by_test (ltb (first 19 (enough n)) 19)
    (λ t. ltb-true n (10 ^ places n) (at_first 19 (enough n) (ltb-true (first 19 (enough n)) 19 t)))
    (λ t.
    let e : first 19 (enough n) ≡ 19 = omega (arith, first_le 19 (enough n), ltb-false (first 19 (enough n)) 19 t) in
    rw e h)

pub places_fewest : (n k : ℕ) → 1 ≤ k → n < 10 ^ k → k ≤ 20 → places n ≤ k
unfolding places
places_fewest n zero one h most = absurd (omega arith)
places_fewest n (suc k) one h most = omega (arith, first_below 19 (enough n) k (lt-ltb n (10 ^ suc k) h))

-- fewer do not hold it
pub places_least : (n i : ℕ) → suc i < places n → 10 ^ suc i ≤ n
unfolding places
places_least n i h = ltb-false n (10 ^ suc i) (before_first 19 (enough n) i (omega arith))

pub places_is : (n k : ℕ) → suc k ≤ 20 → ((i : ℕ) → i < k → 10 ^ suc i ≤ n) → n < 10 ^ suc k → places n ≡ suc k
unfolding places
places_is n k most before h =
    ap suc (first_is 19 (enough n) k (omega arith) (λ i l. le-ltb n (10 ^ suc i) (before i l)) (λ l. lt-ltb n (10 ^ suc k) h))

-- one more than the logarithm, where 0 counts as 1
pub places_log : (x r : ℕ) → 10 ^ r ≤ max x 1 → max x 1 < 10 * 10 ^ r → r < 20 → r + 1 ≡ places x
places_log x r low high few =
    let passed : (i : ℕ) → i < r → 10 ^ suc i ≤ x =
    λ i l. omega (arith, positive i, pow-suc 10 i, pow-le-pow_right {n = 10} (omega arith) {i = suc i} {j = r} (omega arith)) in
    omega (arith, places_is x r (omega arith) passed (omega (arith, pow-suc 10 r)))

-- ---- which they are

-- a further digit is divided off
pub divided : (n k : ℕ) → n / 10 ^ k / 10 ≡ n / 10 ^ suc k
divided n k = div-div-eq-div-mul n (10 ^ k) 10 ∙ ap (λ m. n / m) (sym (pow-suc 10 k))

pub length_decimal : (n : ℕ) → length (decimal n) ≡ places n
unfolding decimal
length_decimal n = length_table (places n) (λ i. 48 + n / 10 ^ (places n - suc i) % 10)

pub decimal_at : (n i : ℕ) → i < places n → get_or (decimal n) i 0 ≡ 48 + n / 10 ^ (places n - suc i) % 10
unfolding decimal
decimal_at n i h = get_d_table (places n) (λ i. 48 + n / 10 ^ (places n - suc i) % 10) i 0 h

-- each is one of the digits 0 to 9
pub decimal_digit : (n i : ℕ) → i < places n → (48 ≤ get_or (decimal n) i 0) × (get_or (decimal n) i 0 ≤ 57)
decimal_digit n i h = (omega (arith, decimal_at n i h), omega (arith, decimal_at n i h))

-- and the first of several is not 0
pub decimal_lead : (n : ℕ) → n < 10 ^ 20 → 1 < places n → 48 < get_or (decimal n) 0 0
decimal_lead n h more =
    let p : ℕ = places n - 1 in
    let least : 10 ^ suc (places n - 2) ≤ n = places_least n (places n - 2) (omega arith) in
    let same : suc (places n - 2) ≡ p = omega arith in
    let holds : n < 10 ^ suc p = subst (λ k. n < 10 ^ k) (let e : places n ≡ suc p = omega arith in e) (places_hold n h) in
    let some : 1 ≤ n / 10 ^ p = (le-div_iff_mul-le {k = 10 ^ p} {x = 1} {y = n} (positive p)).1 (omega (arith, (rw same at least))) in
    let few : n / 10 ^ p < 10 = (div-lt_iff_lt-mul {k = 10 ^ p} {x = n} {y = 10} (positive p)).1 (omega (arith, holds, pow-suc 10 p)) in
    omega (arith, decimal_at n 0 (omega arith), some, few)

-- ---- reading back

-- the last k digits of n, behind those before them
value_by_lem : (n k : ℕ) → value_by (n / 10 ^ k) (table k (λ i. 48 + n / 10 ^ (k - suc i) % 10)) ≡ n
unfolding value_by table
value_by_lem n zero = div-one n
value_by_lem n (suc k) =
    let q : ℕ = n / 10 ^ k in
    let e : 10 * (n / 10 ^ suc k) + (48 + q % 10 - 48) ≡ q = rw (← divided n k) (omega arith) in
    let first : suc k - 1 ≡ k = omega arith in
    simp (suc-sub-suc, first) (ap (λ a. value_by a (table k (λ i. 48 + n / 10 ^ (k - suc i) % 10))) e ∙ value_by_lem n k)

pub decimal_value : (n : ℕ) → n < 10 ^ 20 → value_of (decimal n) ≡ n
unfolding decimal
decimal_value n h =
    let b = (div-lt_iff_lt-mul {k = 10 ^ places n} {x = n} {y = 1} (positive (places n))).1 (omega (arith, places_hold n h)) in
    let z : n / 10 ^ places n ≡ 0 = omega arith in
    rw z at (value_by_lem n (places n))

-- one digit less does not hold it
fewer : (n k : ℕ) → places n ≡ suc k → 1 ≤ n → 10 ^ k ≤ n
fewer n zero e some = some
fewer n (suc k) e some = places_least n k (omega arith)

-- no leading zero
pub decimal_first : (n : ℕ) → 1 ≤ n → n < 10 ^ 20 → get_or (decimal n) 0 0 ≢ 48
decimal_first n some h e =
    let m : ℕ = 10 ^ (places n - 1) in
    let p : suc (places n - 1) ≡ places n = omega (arith, places_some n) in
    let low : 1 * m ≤ n = omega (arith, fewer n (places n - 1) (sym p) some) in
    let high : n < 10 * m = rw (← pow-succ' 10 (places n - 1), p) (places_hold n h) in
    let a : 1 ≤ n / m = (le-div_iff_mul-le {k = m} {x = 1} {y = n} (positive (places n - 1))).1 low in
    let b : n / m < 10 = (div-lt_iff_lt-mul {k = m} {x = n} {y = 10} (positive (places n - 1))).1 high in
    omega (arith, decimal_at n 0 (places_some n))
