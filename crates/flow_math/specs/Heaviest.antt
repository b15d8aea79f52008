-- The need of a kind, computed: all unrelated sets are gone through. That it is the need is
-- `need_of_need` of proofs/Need.antt.
use Rattle.std.specs.Prelude.{Bool, true, not, cond, ◌&&◌, ℕ, zero, suc, ◌+◌, max}

-- the elements that A allows and that are not ordered with k
abbrev pub besides : (ℕ → ℕ → Bool) → ℕ → (ℕ → Bool) → ℕ → Bool
besides b k A i = A i && (not (b i k) && not (b k i))

-- the greatest weight of an unrelated set of elements below n that A allows: the last element is left out, or
-- it is taken, where A allows it, with the greatest weight of those that are not ordered with it
unfoldable pub heaviest : ℕ → (ℕ → ℕ → Bool) → (ℕ → ℕ) → (ℕ → Bool) → ℕ
heaviest zero b d A = 0
heaviest (suc k) b d A =
    let taken = heaviest k b d (besides b k A) + d k in
    max (heaviest k b d A) (cond (A k) taken 0)

unfoldable pub need_of : ℕ → (ℕ → ℕ → Bool) → (ℕ → ℕ) → ℕ
need_of n b d = heaviest n b d (λ i. true)
