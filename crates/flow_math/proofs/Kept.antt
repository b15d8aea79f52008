-- Laws of arcs kept and broken.
use mathlib.Core.Path.{◌≡◌}
use mathlib.Core.Bool.{true, false}
use mathlib.Core.Logic.Iff
use mathlib.Core.Logic.{◌↔◌}
use Prim.Native.Nat.{ℕ, ◌+◌, ◌≤◌}
use native.Mathlib.Omega.{arith}
use borrow.Author.Tests.{ltb-true, ltb-false}
use Rattle.order.specs.Before.{Before}
use Rattle.order.proofs.Before.{before_least}
use Rattle.flow_math.specs.Kept.{Kept, Keeps}
use Rattle.flow_math.specs.Breaks.{Broken, is_broken, FirstBroken}

-- the test tells broken from kept
module _ (s : ℕ → ℕ) (w : ℕ → ℕ → ℕ) (i j : ℕ) where
  pub is_broken_lem : is_broken s w i j ≡ true → Broken s w i j
  is_broken_lem = ltb-true (s j) (s i + w i j)

  pub not_broken : is_broken s w i j ≡ false → Kept s w i j
  not_broken = ltb-false (s j) (s i + w i j)

-- WHAT KEEPS THE ARCS KEEPS THE ORDER THAT THEY MAKE, by durations d that are no longer than the arcs ask: no duration is negative
pub kept_before : {A : ℕ → ℕ → Type 0} (s d : ℕ → ℕ) (w : ℕ → ℕ → ℕ) → ((i j : ℕ) → A i j → d i ≤ w i j) → Keeps A s w → Keeps (Before A) s (λ i j. d i)
kept_before s d w h k i j r = before_least (Kept s (λ x y. d x)) (λ x y a. omega (arith, k x y a, h x y a)) (λ x y z p q. omega arith) r

-- the same arcs are kept by the same starts, and have the same first broken one
pub keeps_same : {A B : ℕ → ℕ → Type 0} (s : ℕ → ℕ) (w : ℕ → ℕ → ℕ) → ((i j : ℕ) → A i j ↔ B i j) → Keeps A s w ↔ Keeps B s w
keeps_same s w same = ((λ k i j b. k i j ((same i j).1 b)), (λ k i j a. k i j ((same i j).0 a)))

pub first_same : {A B : ℕ → ℕ → Type 0} {s : ℕ → ℕ} {w : ℕ → ℕ → ℕ} {i j : ℕ} → ((x y : ℕ) → A x y ↔ B x y) → FirstBroken A s w i j ↔ FirstBroken B s w i j
first_same same = (first_in same, first_in (λ x y. Iff.symm (same x y)))
  where
    first_in : {A B : ℕ → ℕ → Type 0} {s : ℕ → ℕ} {w : ℕ → ℕ → ℕ} {i j : ℕ} → ((x y : ℕ) → A x y ↔ B x y) → FirstBroken A s w i j → FirstBroken B s w i j
    first_in {A} {B} {s} {w} {i} {j} same F =
        record {
          there = (same i j).0 F.there;
          late = F.late;
          kept = λ x y b. F.kept x y ((same x y).1 b);
          rest = λ y b. F.rest y ((same i y).1 b);
        }
