-- The largest of finitely many numbers.
use mathlib.Core.Path.{◌≡◌, refl, sym, ap₂, ◌∙◌}
use mathlib.Core.Logic.{◌⊎◌, inl, inr}
use Prim.Native.Nat.{ℕ, zero, suc, ◌+◌, max, ◌≤◌, ◌<◌}
use native.Mathlib.Nat.{not-suc-le-zero}
use native.Mathlib.Numerals.{add-one}
use native.Mathlib.Decide.{dec_le}
use native.Mathlib.Omega.{arith}
use Rattle.words.specs.Sums.{maximum}
use Rattle.words.proofs.Tests.{below_suc}

pub maximum_at : (n : ℕ) (f : ℕ → ℕ) (i : ℕ) → i < n → f i ≤ maximum n f
unfolding maximum
maximum_at zero f i h = absurd (not-suc-le-zero h)
maximum_at (suc n) f i h =
    below_suc (λ k. f k ≤ max (maximum n f) (f n)) n (λ k l. let q : f k ≤ maximum n f = maximum_at n f k l in omega arith) (omega arith) i h

pub maximum_least : (n : ℕ) (f : ℕ → ℕ) (b : ℕ) → ((i : ℕ) → i < n → f i ≤ b) → maximum n f ≤ b
unfolding maximum
maximum_least zero f b h = omega arith
maximum_least (suc n) f b h =
    let q : maximum n f ≤ b = maximum_least n f b (λ i l. h i (omega arith)) in
    omega (arith, h n (omega arith))

pub maximum_cong : (n : ℕ) (f g : ℕ → ℕ) → ((i : ℕ) → i < n → f i ≡ g i) → maximum n f ≡ maximum n g
unfolding maximum
maximum_cong zero f g h = refl
maximum_cong (suc n) f g h = ap₂ max (maximum_cong n f g (λ i l. h i (omega arith))) (h n (omega arith))

pub maximum_reached : (n : ℕ) (f : ℕ → ℕ) → (maximum n f ≡ 0) ⊎ ((i : ℕ) × (i < n) × (maximum n f ≡ f i))
unfolding maximum
maximum_reached zero f = inl refl
maximum_reached (suc n) f = go (dec_le (f n) (maximum n f)) (maximum_reached n f)
  where
    earlier : f n ≤ maximum n f → (maximum n f ≡ 0) ⊎ ((i : ℕ) × (i < n) × (maximum n f ≡ f i)) → (max (maximum n f) (f n) ≡ 0) ⊎ ((i : ℕ) × (i < suc n) × (max (maximum n f) (f n) ≡ f i))
    earlier l (inl z) = inl (omega arith)
    earlier l (inr w) = inr (w.0, omega (arith, w.1), omega (arith, w.2))

    go : Dec (f n ≤ maximum n f) → (maximum n f ≡ 0) ⊎ ((i : ℕ) × (i < n) × (maximum n f ≡ f i)) → (max (maximum n f) (f n) ≡ 0) ⊎ ((i : ℕ) × (i < suc n) × (max (maximum n f) (f n) ≡ f i))
    go (yes l) w = earlier l w
    go (no l) w = inr (n, omega arith, omega arith)

-- one turn of a loop that keeps the largest so far
pub maximum_next : (n : ℕ) (f : ℕ → ℕ) (b v x : ℕ) → b ≡ maximum n f → f n ≡ v → x ≡ max b v → x ≡ maximum (n + 1) f
unfolding maximum
maximum_next n f b v x p q e = rw add-one (e ∙ ap₂ max p (sym q))
