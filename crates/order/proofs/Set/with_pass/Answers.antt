-- `Set::with_pass` meets its contract: the word of equal digits has all of what is gained, or nothing of it.
use Rattle.std.proofs.Common.{◌≡◌, ℕ, ◌+◌, ◌-◌, ◌%◌, ◌^◌, ◌<◌, sym, ap, ◌∙◌, ⊎_elim, mod-eq_of_lt, arith, rules}
use lib.Bits.{bit_and, bit_or, and_zero_r, and_mask, or_zero_r}
use Rattle.words.specs.Bits.{word_bits, digit}
use Rattle.words.proofs.Bits.{zero_or_one, bit_one, bit_none}
use Rattle.words.proofs.Tests.{cond_true, cond_false}
use Rattle.order.specs.Stored.{number_of}
use Rattle.order.specs.model.Warshall.{passed}
use Rattle.order.proofs.Set.with_pass.Goals as goal

picks : (k w g a : ℕ) → g < 2 ^ word_bits → a < 2 ^ word_bits → (a + digit w k) % 2 ^ word_bits ≡ 0 → bit_or w (bit_and g a) ≡ passed k g w
picks k w g a hg ha e = ⊎_elim none all (zero_or_one w k)
  where
    none : digit w k ≡ 0 → bit_or w (bit_and g a) ≡ passed k g w
    none z =
        let n : a ≡ 0 = omega (arith, ha, e, z) in
        ap (λ (x : ℕ). bit_or w (bit_and g x)) n ∙ ap (bit_or w) (and_zero_r g) ∙ or_zero_r w ∙ sym (cond_false (bit_or w g) w (bit_none w k z))

    all : digit w k ≡ 1 → bit_or w (bit_and g a) ≡ passed k g w
    all o =
        let n : a ≡ 2 ^ word_bits - 1 = omega (arith, ha, e, o) in
        ap (λ (x : ℕ). bit_or w (bit_and g x)) n ∙ ap (bit_or w) (and_mask g word_bits ∙ mod-eq_of_lt hg) ∙ sym (cond_true (bit_or w g) w (bit_one w k o))

pub returns : goal.returns
unfolding number_of digit
returns c =
    let e = c.args in
    let fits : e.gain.word < 2 ^ word_bits = search rules in
    picks e.k e.self.word e.gain.word c.wrapping_neg-all.result fits (search rules) c.wrapping_neg-all.ensures
