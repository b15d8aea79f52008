-- What the search asks of words of elements digits: their members below elements, the lowest, and how many there are.
use Rattle.std.proofs.Common.{◌≡◌, ℕ, ◌+◌, ◌%◌, ◌<◌, ⊎_elim, mod-lt, arith}
use lib.Bits.{bit_or, or_lt}
use lib.Count.{ones}
use Rattle.words.specs.Bits.{bit, digit, minus}
use Rattle.words.proofs.Bits.{digit_lt, digit_minus, digit_none, digit_one, digit_or, zero_or_one}
use Rattle.words.proofs.Firsts.{at_first}
use Rattle.words.proofs.Sizes.{ones_split}
use Rattle.order.proofs.Stored.{in_bound, to_bound}
use Rattle.order.specs.Stored.{bound, elements}
use Rattle.solver.specs.model.Search.{low}

-- `x % ELEMENTS` is a place
pub masked : (x : ℕ) → x % elements < elements
masked x = mod-lt x (omega arith)

-- ---- subsets

-- every member of a below elements is one of b
abbrev pub Sub : ℕ → ℕ → Type 0
Sub a b = (i : ℕ) → i < elements → digit a i ≡ 1 → digit b i ≡ 1

pub none_sub : (w : ℕ) → Sub 0 w
none_sub w i h e = absurd (omega (arith, digit_none i))

pub or_sub : (a b : ℕ) → Sub a (bit_or a b)
or_sub a b i h e = omega (arith, digit_or a b i, digit_lt b i)

-- what is new joins what was there
pub join_sub : (g w : ℕ) → Sub g (bit_or w (minus g w))
join_sub g w i h e = omega (arith, digit_or w (minus g w) i, digit_minus g w i, digit_lt w i)

pub join_lt : (g w : ℕ) → g < bound → w < bound → bit_or w (minus g w) < bound
join_lt g w h l =
    let k : minus g w < bound = omega arith in
    to_bound (or_lt elements w (minus g w) (in_bound l) (in_bound k))

-- what is added to b to make a, which has all members of b
pub digit_added : (a b i : ℕ) → (digit b i ≡ 1 → digit a i ≡ 1) → digit (minus a b) i + digit b i ≡ digit a i
digit_added a b i s =
    ⊎_elim
    (λ z. omega (arith, digit_minus a b i, digit_lt a i))
    (λ o. omega (arith, digit_minus a b i, s o))
    (zero_or_one b i)

-- ---- the lowest member, and how many there are

pub low_digit : (w : ℕ) → low w < elements → digit w (low w) ≡ 1
low_digit w h = digit_one w (low w) (at_first elements (bit w) h)

pub ones_added : (a b : ℕ) → a < bound → b < bound → Sub b a → ones (minus a b) + ones b ≡ ones a
ones_added a b h l s =
    let k : minus a b < bound = omega arith in
    ones_split elements a (minus a b) b (in_bound h) (in_bound k) (in_bound l) (λ i m. digit_added a b i (s i m))
