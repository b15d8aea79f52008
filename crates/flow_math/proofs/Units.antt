-- The units between the nodes of the flow that a handover makes: what they depend on, and how many they can be.
use mathlib.Core.Path.{◌≡◌, refl, ap}
use mathlib.Core.Bool.{Bool, true, cond}
use mathlib.Core.Logic.{◌⊎◌, inl, inr}
use Prim.Native.Nat.{ℕ, zero, suc, ◌+◌, ◌-◌, ◌≤◌, ◌<◌}
use native.Mathlib.Omega.{arith}
use lib.Dec.{ltb, eqb}
use borrow.Author.Tests.{ltb-true, le-ltb, ne_eqb}
use Rattle.words.proofs.Tests
use Rattle.words.proofs.Sums
use Rattle.flow_math.specs.Handover.{row, col, Handover}
use Rattle.flow_math.specs.Flow.{node_flow}

-- only what exceeds the need counts
pub units_spare : (n : ℕ) (d : ℕ → ℕ) (f : ℕ → ℕ → ℕ) (x a u v : ℕ) → node_flow n d f 0 (a - x) u v ≡ node_flow n d f x a u v
units_spare n d f x a zero zero = refl
units_spare n d f x a zero (suc j) =
    let e : (a - x) - 0 ≡ a - x = omega arith in
    ap (λ (t : ℕ). cond (ltb j n) (d j - col n f j) (cond (eqb j n) t 0)) e
units_spare n d f x a (suc i) zero = refl
units_spare n d f x a (suc i) (suc j) = refl

-- nothing goes into the start or out of the end
pub units_into_start : (n : ℕ) (d : ℕ → ℕ) (f : ℕ → ℕ → ℕ) (x a u : ℕ) → node_flow n d f x a u 0 ≡ 0
units_into_start n d f x a zero = refl
units_into_start n d f x a (suc i) = refl

pub units_out_of_end : (n : ℕ) (d : ℕ → ℕ) (f : ℕ → ℕ → ℕ) (x a v : ℕ) → node_flow n d f x a (suc n) v ≡ 0
units_out_of_end n d f x a zero = refl
units_out_of_end n d f x a (suc j) = rw (le-ltb n n (omega arith))

-- past the end there is no node
pub units_past : (n : ℕ) (d : ℕ → ℕ) (f : ℕ → ℕ → ℕ) (x a u v : ℕ) → (n + 2 ≤ u) ⊎ (n + 2 ≤ v) → node_flow n d f x a u v ≡ 0
units_past n d f x a zero zero h = refl
units_past n d f x a zero (suc j) (inl l) = absurd (omega arith)
units_past n d f x a zero (suc j) (inr l) = rw (le-ltb j n (omega arith), ne_eqb j n (λ e. omega arith))
units_past n d f x a (suc i) zero h = refl
units_past n d f x a (suc i) (suc j) (inl l) = rw (le-ltb i n (omega arith))
units_past n d f x a (suc i) (suc j) (inr l) =
    Tests.by_test (ltb i n) (λ t. rw (t, le-ltb j n (omega arith), ne_eqb j n (λ e. omega arith))) (λ t. rw t)

-- ---- no more units than the greatest demand, or than are available

-- a number by two tests, else 0
nested_least : (s t : Bool) (x y c : ℕ) → (s ≡ true → x ≤ c) → y ≤ c → cond s x (cond t y 0) ≤ c
nested_least s t x y c h k = Tests.cond_has (λ v. v ≤ c) s x (cond t y 0) h (λ e. Tests.cond_least t y c (λ e. k))

pub units_small : (n : ℕ) (b : ℕ → ℕ → Bool) (d : ℕ → ℕ) (f : ℕ → ℕ → ℕ) (x a c : ℕ) → Handover n b d f →
    ((i : ℕ) → i < n → d i ≤ c) → a ≤ c → (u v : ℕ) → node_flow n d f x a u v ≤ c
unfolding row
units_small n b d f x a c F h k zero zero = omega arith
units_small n b d f x a c F h k zero (suc j) =
    nested_least (ltb j n) (eqb j n) (d j - col n f j) (a - x) c (λ e. omega (arith, h j (ltb-true j n e))) (omega arith)
units_small n b d f x a c F h k (suc i) zero = omega arith
units_small n b d f x a c F h k (suc i) (suc j) =
    Tests.cond_least (ltb i n) (cond (ltb j n) (f i j) (cond (eqb j n) (d i - row n f i) 0)) c
    (λ s. let l : d i ≤ c = h i (ltb-true i n s) in
    nested_least (ltb j n) (eqb j n) (f i j) (d i - row n f i) c
    (λ t. omega (arith, F.rows i (ltb-true i n s), Sums.sum_term n (λ j. f i j) j (ltb-true j n t)))
    (omega arith))
