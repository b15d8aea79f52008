-- The places at which a list is not 0, as a number.
use Rattle.std.specs.Prelude.{ℕ, zero, suc, cond, List, ◌==◌, slice_index}
use Rattle.words.specs.Bits.{with_bit}

-- the number with the member i, or as it is where n is 0
abbrev pub noted : ℕ → ℕ → ℕ → ℕ
noted w i n = cond (n == 0) w (with_bit w i)

-- the places below k at which a function is not 0
unfoldable pub nonzero : ℕ → (ℕ → ℕ) → ℕ
nonzero zero f = 0
nonzero (suc k) f = noted (nonzero k f) k (f k)

-- those of a list
abbrev pub positive : ℕ → List ℕ → ℕ
positive k a = nonzero k (λ i. slice_index a i)
