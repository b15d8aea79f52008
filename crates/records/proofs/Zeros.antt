-- Spare bytes: what their test says.
use mathlib.Core.Path.{◌≡◌, refl}
use mathlib.Core.Bool.{true}
use mathlib.Core.List.{List, [], ◌∷◌}
use Prim.Native.Nat.{ℕ, zero, suc}
use borrow.Author.Tests.{eq-eqb, eqb-true}
use lib.Dec.{eqb}
use Rattle.words.proofs.Tests.{and_left, and_right, and_both}
use Rattle.records.specs.Bytes.{byte, zeros}

-- the test holds where each number is zero
pub all_zero : (l : List ℕ) → zeros l ≡ true → (i : ℕ) → byte l i ≡ 0
unfolding zeros
all_zero [] e i = refl
all_zero (b ∷ l) e zero = eqb-true b 0 (and_left (eqb b 0) (zeros l) e)
all_zero (b ∷ l) e (suc i) = all_zero l (and_right (eqb b 0) (zeros l) e) i

pub zeros_of : (l : List ℕ) → ((i : ℕ) → byte l i ≡ 0) → zeros l ≡ true
unfolding zeros
zeros_of [] h = refl
zeros_of (b ∷ l) h = and_both (eqb b 0) (zeros l) (eq-eqb b 0 (h 0)) (zeros_of l (λ i. h (suc i)))
