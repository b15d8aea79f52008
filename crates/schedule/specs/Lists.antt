-- Starts as a list of numbers, and the largest finish of some elements.
use Rattle.std.specs.Prelude.{◌≡◌, List, ◌⊎◌, ℕ, ◌+◌, ◌≤◌, get_or}

-- the numbers of a list, one for each element; 0 past its end
abbrev pub at : List ℕ → ℕ → ℕ
at xs i = get_or xs i 0

-- "the largest .. of those .., or .. 0":
-- x is the largest of the numbers that P picks, or 0 where it picks none
pub record LargestOr0 (P : ℕ → Type 0) (x : ℕ) : Type 0 where
  pub upper : (y : ℕ) → P y → y ≤ x
  pub reached : (x ≡ 0) ⊎ P x

-- y is a finish, "start plus duration", by the starts s and the durations d, of an element that P picks
pub record FinishOf (P : ℕ → Type 0) (s d : ℕ → ℕ) (y : ℕ) : Type 0 where
  pub element : ℕ
  pub picked : P element
  pub finish : y ≡ s element + d element
