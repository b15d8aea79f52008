-- What is read of the bytes of a number, and that they are bytes.
use mathlib.Core.Path.{◌≡◌, refl, ap, ap₂, ◌∙◌}
use mathlib.Core.List.{List, [], ◌∷◌, ◌++◌}
use Prim.Native.Nat.{ℕ, zero, suc, ◌+◌, ◌*◌, ◌/◌, ◌%◌, ◌^◌, ◌≤◌, ◌<◌}
use native.Mathlib.Omega.{arith}
use native.Mathlib.Nat.{pow-zero, pow-suc, pow-le-pow_right, mod-lt, mod-add-div, div-lt_iff_lt-mul}
use lib.Arith.{mod-mul}
use lib.ListN.{length, drop, replicate, get_or-append}
use lib.Seq.{get_or-drop}
use Rattle.records.specs.Bytes.{byte, field, AreBytes}
use Rattle.records.specs.Records.{bytes}

pub length_bytes : (n x : ℕ) → length (bytes n x) ≡ n
unfolding bytes
length_bytes zero x = refl
length_bytes (suc n) x = ap suc (length_bytes n (x / 256))

power_pos : (n : ℕ) → 0 < 256 ^ n
power_pos zero = omega (arith, pow-zero 256)
power_pos (suc n) = omega (arith, pow-suc 256 n, power_pos n)

-- the n bytes of a number are those of its rest by 256 ^ n
pub bytes_low : (n x : ℕ) → bytes n (x % 256 ^ n) ≡ bytes n x
unfolding bytes
bytes_low zero x = refl
bytes_low (suc n) x =
    let e : x % 256 ^ suc n ≡ x / 256 % 256 ^ n * 256 + x % 256 =
    ap (λ (p : ℕ). x % p) (pow-suc 256 n) ∙ mod-mul x (power_pos n) (omega arith) in
    let small : x % 256 < 256 = mod-lt x (omega arith) in
    let low : x % 256 ^ suc n % 256 ≡ x % 256 = omega (arith, e, small) in
    let high : x % 256 ^ suc n / 256 ≡ x / 256 % 256 ^ n = omega (arith, e, small) in
    ap₂ (λ (b y : ℕ). b ∷ bytes n y) low high ∙ ap (λ (l : List ℕ). x % 256 ∷ l) (bytes_low n (x / 256))

-- ---- fields

pub field_cons : (b : ℕ) (l : List ℕ) (i n : ℕ) → field (b ∷ l) (suc i) n ≡ field l i n
unfolding field
field_cons b l i zero = refl
field_cons b l i (suc n) =
    let e : suc i + 1 ≡ suc (i + 1) = omega arith in
    ap (λ k. byte l i + 256 * k) (ap (λ k. field (b ∷ l) k n) e ∙ field_cons b l (i + 1) n)

-- a field of a part is a field of the whole
pub field_drop : (k : ℕ) (l : List ℕ) (i n : ℕ) → field (drop k l) i n ≡ field l (k + i) n
unfolding field
field_drop k l i zero = refl
field_drop k l i (suc n) =
    let e : k + (i + 1) ≡ k + i + 1 = omega arith in
    let b : byte (drop k l) i ≡ byte l (k + i) = get_or-drop k l i 0 in
    let f : field (drop k l) (i + 1) n ≡ field l (k + i + 1) n = field_drop k l (i + 1) n ∙ ap (λ j. field l j n) e in
    rw (b, f)

-- a field is the same, whatever follows the list that has it
pub field_append : (l r : List ℕ) (i n : ℕ) → i + n ≤ length l → field (l ++ r) i n ≡ field l i n
unfolding field
field_append l r i zero h = refl
field_append l r i (suc n) h =
    let b : byte (l ++ r) i ≡ byte l i = get_or-append l r 0 i (omega arith) in
    let f : field (l ++ r) (i + 1) n ≡ field l (i + 1) n = field_append l r (i + 1) n (omega arith) in
    rw (b, f)

-- it is given by its bytes
pub field_same : (r s : List ℕ) (i n : ℕ) → ((k : ℕ) → k < n → byte r (i + k) ≡ byte s (i + k)) → field r i n ≡ field s i n
unfolding field
field_same r s i zero e = refl
field_same r s i (suc n) e =
    let here : i + 0 ≡ i = omega arith in
    rw (rw here at (e 0 (omega arith)), field_same r s (i + 1) n (λ k h. let on : i + suc k ≡ i + 1 + k = omega arith in rw on at (e (suc k) (omega arith))))

-- the field that the bytes of a number are is the number
pub field_bytes : (n x : ℕ) (l : List ℕ) → x < 256 ^ n → field (bytes n x ++ l) 0 n ≡ x
unfolding field bytes
field_bytes zero x l h = omega (arith, pow-zero 256)
field_bytes (suc n) x l h =
    let less : x < 256 ^ n * 256 = omega (arith, pow-suc 256 n) in
    let r : field (bytes n (x / 256) ++ l) 0 n ≡ x / 256 = field_bytes n (x / 256) l ((div-lt_iff_lt-mul (omega arith)).1 less) in
    rw (field_cons (x % 256) (bytes n (x / 256) ++ l) 0 n, r) (mod-add-div x 256)

-- ---- bytes

pub bytes_cons : (b : ℕ) (l : List ℕ) → b < 256 → AreBytes l → AreBytes (b ∷ l)
bytes_cons b l h r zero = h
bytes_cons b l h r (suc i) = r i

pub bytes_zeros : (n : ℕ) → AreBytes (replicate n 0)
bytes_zeros zero = λ i. omega arith
bytes_zeros (suc n) = bytes_cons 0 (replicate n 0) (omega arith) (bytes_zeros n)

pub bytes_append : (l r : List ℕ) → AreBytes l → AreBytes r → AreBytes (l ++ r)
bytes_append [] r p q = q
bytes_append (b ∷ l) r p q = bytes_cons b (l ++ r) (p 0) (bytes_append l r (λ i. p (suc i)) q)

pub bytes_bytes : (n x : ℕ) → AreBytes (bytes n x)
unfolding bytes
bytes_bytes zero x = λ i. omega arith
bytes_bytes (suc n) x = bytes_cons (x % 256) (bytes n (x / 256)) (mod-lt x (omega arith)) (bytes_bytes n (x / 256))

pub field_below : (l : List ℕ) (i n : ℕ) → AreBytes l → field l i n < 256 ^ n
unfolding field
field_below l i zero h = omega (arith, pow-zero 256)
field_below l i (suc n) h = omega (arith, pow-suc 256 n, h i, field_below l (i + 1) n h)

-- a field of three bytes or fewer leaves room for one more in a word of 32 bits
pub field_few : (l : List ℕ) (i n : ℕ) → AreBytes l → n < 4 → field l i n < 16777216
field_few l i n h few =
    let most = pow-le-pow_right {n = 256} (omega arith) {i = n} {j = 3} (omega arith) in
    omega (arith, field_below l i n h)
