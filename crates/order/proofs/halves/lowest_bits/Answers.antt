-- `halves::lowest_bits` meets its contract.
use Rattle.std.proofs.Common.{ℕ, ◌-◌, ap, ◌∙◌, arith}
use lib.Bits.{bit_and, and_mask}
use Rattle.words.specs.Bits.{word_bits}
use Rattle.words.proofs.Bits.{shl_one}
use Rattle.order.proofs.halves.lowest_bits.Goals as goal

pub returns : goal.returns
returns c = let e = c.args in ap (λ (x : ℕ). bit_and e.w (x - 1)) (shl_one word_bits e.m (omega (arith, c.requires, c.if-m-eq64.false))) ∙ and_mask e.w e.m
