-- A number of any size as a set: its members are the places at which its binary digit is 1.
use Rattle.std.specs.Prelude.{Bool, ℕ, ◌-◌, ◌/◌, ◌%◌, ◌^◌, eqb}
use Rattle.std.specs.Int.Bits.{bit_and, bit_or}

-- how many bits a word of the machine has (`words::Word`)
abbrev pub word_bits : ℕ
word_bits = 64

-- the binary digit of w at the place i: 0 or 1
unfoldable pub digit : ℕ → ℕ → ℕ
digit w i = w / 2 ^ i % 2

-- whether the digit of w at the place i is 1: whether i is a member of w
unfoldable pub bit : ℕ → ℕ → Bool
bit w i = eqb (digit w i) 1

-- w with the member i
abbrev pub with_bit : ℕ → ℕ → ℕ
with_bit w i = bit_or w (2 ^ i)

-- a without the members of b
abbrev pub minus : ℕ → ℕ → ℕ
minus a b = a - bit_and a b

-- w without its lowest member, as loops compute it
abbrev pub rest : ℕ → ℕ
rest w = bit_and w (w - 1)
