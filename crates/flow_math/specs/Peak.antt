-- A crew that occupies all of the need in one period, and how one is found.
use Rattle.std.specs.Prelude.{◌≡◌, Bool, cond, ◌&&◌, ℕ, suc, ◌+◌, ◌*◌, ◌≤◌}
use Rattle.words.specs.Sums.{sum}
use Rattle.words.specs.Members.{some}
use Rattle.order.specs.Arcs.{Drawn}
use Rattle.flow_math.specs.Heaviest.{need_of}
use Rattle.flow_math.specs.Kept.{Keeps}
use Rattle.flow_math.specs.Crew.{occupied}

-- a crew with the durations w that occupies all of the need in one period; the starts of ordered elements are
-- at least `gap` periods apart, so that it keeps the order wherever no duration is longer
pub record Peak (n : ℕ) (b : ℕ → ℕ → Bool) (d w : ℕ → ℕ) (gap : ℕ) : Type 0 where
  pub starts : ℕ → ℕ
  pub period : ℕ
  pub apart : Keeps (Drawn n b) starts (λ i j. gap)
  pub first : 1 ≤ period
  pub full : occupied n d starts w period ≡ need_of n b d

-- ---- the crew that does so, for an unrelated set S

-- how many elements are before i
unfoldable pub rank : ℕ → (ℕ → ℕ → Bool) → ℕ → ℕ
rank n b i = sum n (λ k. cond (b k i) 1 0)

-- i is before a member of S
unfoldable pub early : ℕ → (ℕ → ℕ → Bool) → (ℕ → Bool) → ℕ → Bool
early n b S i = some n (λ t. S t && b i t)

-- the turn of i: those before a member of S come first, by rank,
-- then all of S together, then the others, by rank
unfoldable pub turn : ℕ → (ℕ → ℕ → Bool) → (ℕ → Bool) → ℕ → ℕ
turn n b S i = cond (early n b S i) (rank n b i) (cond (S i) n (suc n + rank n b i))

-- the turns follow one another at a distance of `gap` periods
unfoldable pub starts_at : ℕ → (ℕ → ℕ → Bool) → (ℕ → Bool) → ℕ → ℕ → ℕ
starts_at n b S gap i = gap * turn n b S i
