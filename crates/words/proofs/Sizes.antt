-- How many members a number has, by `count_ones`, after each operation.
use mathlib.Core.Path.{◌≡◌, refl, sym, ap, ap₂, ◌∙◌}
use mathlib.Core.Bool.{Bool, false, not, ◌&&◌, and-true}
use mathlib.Core.Logic.{⊎_elim, ◌≢◌}
use Prim.Native.Nat.{ℕ, zero, suc, ◌+◌, ◌/◌, ◌%◌, ◌^◌, ◌≤◌, ◌<◌}
use native.Mathlib.Omega.{arith}
use lib.Arith.{lt-one}
use lib.Bits.{bit_or, or_step}
use lib.Count.{ones, ones_step, ones-le}
use borrow.Author.Tests.{eq-eqb, ne_eqb}
use Rattle.words.specs.Bits.{digit, bit, rest}
use Rattle.words.specs.Members.{tally, count, first}
use Rattle.words.proofs.Bits
use Rattle.words.proofs.Counts.{count_cong, count_out}
use Rattle.words.proofs.Firsts.{at_first}
use Rattle.words.proofs.Members.{bit_rest, low_lt, rest_le}

tally_digit : (w i : ℕ) → tally (bit w i) ≡ digit w i
tally_digit w i =
    ⊎_elim
    (λ e. ap tally (Bits.bit_none w i e) ∙ sym e)
    (λ e. ap tally (Bits.bit_one w i e) ∙ sym e)
    (Bits.zero_or_one w i)

-- `count_ones` is how many members there are
pub ones_count : (k w : ℕ) → w < 2 ^ k → ones w ≡ count k (bit w)
unfolding count ones
ones_count zero w h = ap ones (lt-one h)
ones_count (suc k) w h =
    ones_step w
    ∙ ap₂ ◌+◌ (sym (Bits.digit_first w) ∙ sym (tally_digit w 0))
    (ones_count k (w / 2) (Bits.half_lt k w h) ∙ count_cong k (bit (w / 2)) (λ i. bit w (suc i)) (λ i h. sym (Bits.bit_suc w i)))

pub ones_zero : ones 0 ≡ 0
ones_zero = omega (arith, ones-le 0 0 (omega arith))

pub ones_none : (k w : ℕ) → w < 2 ^ k → ones w ≡ 0 → w ≡ 0
ones_none zero w h e = lt-one h
ones_none (suc k) w h e = omega (arith, ones_step w, ones_none k (w / 2) (Bits.half_lt k w h) (omega (arith, ones_step w)))

-- the members of a are those of b and those of c, apart
pub ones_split : (k a b c : ℕ) → a < 2 ^ k → b < 2 ^ k → c < 2 ^ k → ((i : ℕ) → i < k → digit b i + digit c i ≡ digit a i) → ones b + ones c ≡ ones a
ones_split zero a b c ha hb hc s = rw (lt-one ha, lt-one hb, lt-one hc) (omega (arith, ones_zero))
ones_split (suc k) a b c ha hb hc s =
    omega (
      arith,
      ones_step a,
      ones_step b,
      ones_step c,
      s 0 (omega arith),
      Bits.digit_first a,
      Bits.digit_first b,
      Bits.digit_first c,
      ones_split k (a / 2) (b / 2) (c / 2) (Bits.half_lt k a ha) (Bits.half_lt k b hb) (Bits.half_lt k c hc)
          (λ i h. omega (arith, s (suc i) (omega arith), Bits.digit_next a i, Bits.digit_next b i, Bits.digit_next c i)),
    )

pub ones_or : (k a b : ℕ) → a < 2 ^ k → b < 2 ^ k → ones (bit_or a b) ≤ ones a + ones b
ones_or zero a b h l = rw (lt-one h, lt-one l) (omega (arith, ones_zero))
ones_or (suc k) a b h l =
    let half : bit_or a b / 2 ≡ bit_or (a / 2) (b / 2) = omega (arith, or_step a b) in
    let low : bit_or a b % 2 ≤ a % 2 + b % 2 = omega (arith, or_step a b) in
    omega (
      arith,
      ones_step (bit_or a b),
      ap ones half,
      ones_step a,
      ones_step b,
      ones_or k (a / 2) (b / 2) (Bits.half_lt k a h) (Bits.half_lt k b l),
    )

-- without its lowest member a number has one member less
pub count_rest : (k w : ℕ) → w < 2 ^ k → first k (bit w) < k → count k (bit w) ≡ suc (count k (bit (rest w)))
count_rest k w fit h = count_out k (bit w) (bit (rest w)) (first k (bit w)) h (at_first k (bit w) h) gone kept
  where
    gone : bit (rest w) (first k (bit w)) ≡ false
    gone =
        bit_rest k w (first k (bit w)) fit
        ∙ ap₂ (λ (a b : Bool). a && not b) (at_first k (bit w) h) (eq-eqb (first k (bit w)) (first k (bit w)) refl)

    kept : (i : ℕ) → i ≢ first k (bit w) → bit w i ≡ bit (rest w) i
    kept i ne = sym (bit_rest k w i fit ∙ ap (λ (b : Bool). bit w i && not b) (ne_eqb i (first k (bit w)) ne) ∙ and-true (bit w i))

pub ones_rest : (k w : ℕ) → 0 < w → w < 2 ^ k → ones (rest w) + 1 ≡ ones w
ones_rest k w p h = omega (arith, ones_count k w h, ones_count k (rest w) (omega (arith, rest_le w)), count_rest k w h (low_lt k w p h))
