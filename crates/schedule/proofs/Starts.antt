-- Laws of the earliest starts: they keep every arc, are the least that do, and without waits each is the largest
-- finish of those before it, or 0.
use mathlib.Core.Path.{◌≡◌, sym, ◌∙◌, ap}
use mathlib.Core.Bool.{true, cond}
use mathlib.Core.Logic.{◌⊎◌, inl, inr, ⊎_elim, ◌↔◌}
use Prim.Native.Nat.{ℕ, zero, suc, ◌+◌, ◌*◌, ◌≤◌, ◌<◌}
use native.Mathlib.Nat.{not-suc-le-zero, suc-mul}
use native.Mathlib.Omega.{arith}
use Rattle.words.specs.Sums.{maximum}
use Rattle.words.proofs.Maxima.{maximum_at, maximum_least, maximum_cong, maximum_reached}
use Rattle.words.proofs.Tests.{cond_cong, cond_at, cond_least, cond_reached}
use Rattle.order.specs.Before.{Before, last}
use Rattle.flow_math.proofs.Kept.{kept_before}
use Rattle.schedule.specs.Network.{Network, Arc, Schedule, Keeps, Ranked}
use Rattle.schedule.specs.Starts.{asked, rounds, earliest_of, end_of}
use Rattle.schedule.specs.Lists.{LargestOr0, FinishOf}

module _ (g : Network) where
  -- what the arcs ask goes by the starts of those that have an arc to it
  pub asked_cong : (s t : Schedule) (j : ℕ) → j < g.elements → ((i : ℕ) → Arc g i j → s i ≡ t i) → asked g s j ≡ asked g t j
  unfolding asked
  asked_cong s t j hj h =
      maximum_cong g.elements _ _ λ i l. cond_cong (g.arc i j) _ _ λ e. ap (λ (x : ℕ). x + g.weight i j) (h i (record { from = l; to = hj; drawn = e }))

  pub asked_at : (s : Schedule) (i j : ℕ) → Arc g i j → s i + g.weight i j ≤ asked g s j
  unfolding asked
  asked_at s i j a =
      omega (arith, cond_at (g.arc i j) (s i + g.weight i j) a.drawn, maximum_at g.elements (λ k. cond (g.arc k j) (s k + g.weight k j) 0) i a.from)

  pub asked_least : (s : Schedule) (j b : ℕ) → j < g.elements → ((i : ℕ) → Arc g i j → s i + g.weight i j ≤ b) → asked g s j ≤ b
  unfolding asked
  asked_least s j b hj h =
      maximum_least g.elements _ b λ i l. cond_least (g.arc i j) _ b λ e. h i (record { from = l; to = hj; drawn = e })

  pub asked_reached : (s : Schedule) (j : ℕ) → j < g.elements → (asked g s j ≡ 0) ⊎ ((i : ℕ) × Arc g i j × (asked g s j ≡ s i + g.weight i j))
  unfolding asked
  asked_reached s j hj = go (maximum_reached g.elements f)
    where
      f : ℕ → ℕ
      f = λ i. cond (g.arc i j) (s i + g.weight i j) 0

      Out : Type 0
      Out = (maximum g.elements f ≡ 0) ⊎ ((i : ℕ) × Arc g i j × (maximum g.elements f ≡ s i + g.weight i j))

      at : (i : ℕ) → i < g.elements → maximum g.elements f ≡ f i → (f i ≡ 0) ⊎ ((g.arc i j ≡ true) × (f i ≡ s i + g.weight i j)) → Out
      at i l e (inl z) = inl (e ∙ z)
      at i l e (inr w) = inr (i, record { from = l; to = hj; drawn = w.0 }, e ∙ w.1)

      go : (maximum g.elements f ≡ 0) ⊎ ((i : ℕ) × (i < g.elements) × (maximum g.elements f ≡ f i)) → Out
      go (inl z) = inl z
      go (inr w) = at w.0 w.1 w.2 (cond_reached (g.arc w.0 j) (s w.0 + g.weight w.0 j))

  -- a round later an element starts no later than in a schedule that keeps every arc
  pub rounds_least : (s : Schedule) → Keeps g s → (r j : ℕ) → j < g.elements → rounds r g j ≤ s j
  unfolding rounds
  rounds_least s k zero j hj = omega arith
  rounds_least s k (suc r) j hj =
      asked_least (rounds r g) j (s j) hj λ i a. let q : rounds r g i ≤ s i = rounds_least s k r i a.from in omega (arith, k i j a)

  -- EVERY SCHEDULE THAT KEEPS EVERY ARC STARTS EACH NO EARLIER (with a circle too, though then no schedule keeps every arc)
  pub earliest_least : (s : Schedule) → Keeps g s → (j : ℕ) → j < g.elements → earliest_of g j ≤ s j
  unfolding earliest_of
  earliest_least s k j hj = rounds_least s k g.elements j hj

  -- starts grow by at most the largest weight in a round
  pub rounds_bound : (b : ℕ) → ((i j : ℕ) → Arc g i j → g.weight i j ≤ b) → (r j : ℕ) → j < g.elements → rounds r g j ≤ r * b
  unfolding rounds
  rounds_bound b h zero j hj = omega arith
  rounds_bound b h (suc r) j hj =
      asked_least (rounds r g) j (suc r * b) hj λ i a. let q : rounds r g i ≤ r * b = rounds_bound b h r i a.from in omega (arith, h i j a, suc-mul r b)

  pub earliest_bound : (b : ℕ) → ((i j : ℕ) → Arc g i j → g.weight i j ≤ b) → (j : ℕ) → j < g.elements → earliest_of g j ≤ g.elements * b
  unfolding earliest_of
  earliest_bound b h j hj = rounds_bound b h g.elements j hj

  module _ (R : Ranked g) where
    -- an element of rank below `r` has its start after `r` rounds
    settled : (r j : ℕ) → j < g.elements → R.rank j < r → rounds (suc r) g j ≡ rounds r g j
    unfolding rounds
    settled zero j hj l = absurd (not-suc-le-zero l)
    settled (suc r) j hj l =
        asked_cong (rounds (suc r) g) (rounds r g) j hj λ i a. settled r i a.from (omega (arith, R.rises i j a))

    -- what the arcs ask of the earliest starts is the earliest start
    pub earliest_fixed : (j : ℕ) → j < g.elements → earliest_of g j ≡ asked g (earliest_of g) j
    unfolding earliest_of rounds
    earliest_fixed j hj = sym (settled g.elements j hj (R.below j hj))

    -- THE EARLIEST STARTS KEEP EVERY ARC
    pub earliest_keeps : Keeps g (earliest_of g)
    earliest_keeps i j a = omega (arith, asked_at (earliest_of g) i j a, earliest_fixed j a.to)

-- the largest finish of the same elements, by other names of their starts and durations
pub largest_same :
    {P Q : ℕ → Type 0} {s t d e : ℕ → ℕ} {x y : ℕ} → x ≡ y → ((i : ℕ) → P i ↔ Q i) → ((i : ℕ) → P i → s i + d i ≡ t i + e i)
    → LargestOr0 (FinishOf P s d) x → LargestOr0 (FinishOf Q t e) y
largest_same {P} {Q} {s} {t} {d} {e} {x} {y} q same finish L =
    record {
      upper = λ z F.
          let p = (same F.element).1 F.picked in
          omega (arith, L.upper z (record { element = F.element; picked = p; finish = F.finish ∙ sym (finish F.element p) }));
      reached = ⊎_elim (λ z. inl (sym q ∙ z)) (λ F. inr (record { element = F.element; picked = (same F.element).0 F.picked; finish = sym q ∙ F.finish ∙ finish F.element F.picked })) L.reached;
    }

-- THE START IS THE LARGEST FINISH OF THOSE BEFORE IT IN THE ORDER, OR 0, where each weight is the duration alone
pub earliest_largest :
    (g : Network) (d : ℕ → ℕ) → Ranked g → ((i j : ℕ) → g.weight i j ≡ d i)
    → (j : ℕ) → j < g.elements → LargestOr0 (FinishOf (λ i. Before (Arc g) i j) (earliest_of g) d) (earliest_of g j)
earliest_largest g d R w j hj =
    record {
      upper = λ y F.
          omega (arith, kept_before (earliest_of g) d g.weight (λ i k a. omega (arith, w i k)) (earliest_keeps g R) F.element j F.picked, F.finish);
      reached =
          ⊎_elim
          (λ z. inl (earliest_fixed g R j hj ∙ z))
          (λ v. inr (record { element = v.0; picked = last v.1; finish = omega (arith, earliest_fixed g R j hj, v.2, w v.0 j) }))
          (asked_reached g (earliest_of g) j hj);
    }

-- THE END STARTS AT THE LARGEST FINISH OF ALL, OR AT 0
pub end_largest : (m : ℕ) (s d : ℕ → ℕ) → LargestOr0 (FinishOf (λ i. i < m) s d) (end_of m s d)
unfolding end_of
end_largest m s d =
    record {
      upper = λ y F. omega (arith, maximum_at m (λ i. s i + d i) F.element F.picked, F.finish);
      reached = ⊎_elim inl (λ v. inr (record { element = v.0; picked = v.1; finish = v.2 })) (maximum_reached m (λ i. s i + d i));
    }
