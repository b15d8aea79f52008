-- No crew ever occupies more than the need, and one crew occupies it.
use mathlib.Core.Path.{◌≡◌, refl, ap}
use mathlib.Core.Bool.{Bool, true, false, ◌&&◌, cond}
use mathlib.Core.Logic.{◌↔◌}
use Prim.Native.Nat.{ℕ, suc, ◌+◌, ◌*◌, ◌-◌, ◌≤◌, ◌<◌}
use native.Mathlib.Nat.{mul-le-mul_left, mul-suc}
use native.Mathlib.Omega.{arith}
use lib.Dec.{ltb, leb}
use borrow.Author.Tests.{ltb-true, ltb-false, leb-true, lt-ltb, le-leb}
use Rattle.words.specs.Sums.{sum}
use Rattle.words.proofs.Tests
use Rattle.words.proofs.Firsts
use Rattle.words.proofs.Sums
use Rattle.order.specs.Arcs.{StrictOrder, Drawn}
use Rattle.flow_math.specs.Need.{Antichain, weight, Need}
use Rattle.flow_math.specs.Heaviest.{need_of}
use Rattle.flow_math.specs.Kept.{Keeps}
use Rattle.flow_math.specs.Crew.{active, occupied}
use Rattle.flow_math.specs.Peak.{rank, early, turn, starts_at, Peak}
use Rattle.flow_math.proofs.Need as Needs

-- who is at work, as numbers: i has started before the end of the period, and ends no earlier
pub active_says : (s w : ℕ → ℕ) (t i : ℕ) → (active s w t i ≡ true) ↔ ((s i < t) × (t ≤ s i + w i))
active_says s w t i = (
  (λ e.
      let a = (Tests.and_says (ltb (s i) t) (leb t (s i + w i))).0 e in
      (ltb-true (s i) t a.0, leb-true t (s i + w i) a.1)),
  (λ a. Tests.and_both (ltb (s i) t) (leb t (s i + w i)) (lt-ltb (s i) t a.0) (le-leb t (s i + w i) a.1)),
)

-- IN THE DOCUMENT'S WORDS: "its start is at most t−1 and its finish at least t", in every period t = 1, 2, ..
pub active_reads : (s w : ℕ → ℕ) (t i : ℕ) → 1 ≤ t → active s w t i ≡ (leb (s i) (t - 1) && leb t (s i + w i))
active_reads s w t i h =
    ap (λ (b : Bool). b && leb t (s i + w i))
    (Tests.test_same (ltb (s i) t) (leb (s i) (t - 1))
    ((λ e. le-leb (s i) (t - 1) (omega (arith, ltb-true (s i) t e))), (λ e. lt-ltb (s i) t (omega (arith, leb-true (s i) (t - 1) e)))))

-- nobody is at work in a period 0, so nothing is occupied in it
pub none_active : (s w : ℕ → ℕ) (i : ℕ) → active s w 0 i ≡ false
none_active s w i = Tests.fails (active s w 0 i) (λ e. omega (arith, ((active_says s w 0 i).0 e).0))

pub none_occupied : (n : ℕ) (d s w : ℕ → ℕ) → occupied n d s w 0 ≡ 0
unfolding occupied
none_occupied n d s w = Sums.sum_zero n (λ i. cond (active s w 0 i) (d i) 0) (λ i l. Tests.cond_false (d i) 0 (none_active s w i))

-- two elements that are at work in one period are not ordered
active_antichain : (n : ℕ) (b : ℕ → ℕ → Bool) (s w : ℕ → ℕ) (t : ℕ) → Keeps (Drawn n b) s (λ i j. w i) → Antichain n b (active s w t)
active_antichain n b s w t k i j l m x y h =
    omega (arith, k i j (record { from = l; to = m; drawn = h }), ((active_says s w t i).0 x).1, ((active_says s w t j).0 y).0)

-- what is occupied is the weight of those at work
pub occupied_weight : (n : ℕ) (d s w : ℕ → ℕ) (t : ℕ) → occupied n d s w t ≡ weight n d (active s w t)
unfolding occupied weight
occupied_weight n d s w t = refl

-- In no period is more than the need occupied.
pub occupied_at_most : (n : ℕ) (b : ℕ → ℕ → Bool) (d : ℕ → ℕ) (x : ℕ) (s w : ℕ → ℕ) (t : ℕ) →
    Need n b d x → Keeps (Drawn n b) s (λ i j. w i) → occupied n d s w t ≤ x
occupied_at_most n b d x s w t N k = omega (arith, occupied_weight n d s w t, N.most (active s w t) (active_antichain n b s w t k))

-- a set with all the members of another that demand something weighs no less
pub weight_mono : (n : ℕ) (d : ℕ → ℕ) (S T : ℕ → Bool) → ((i : ℕ) → i < n → S i ≡ true → 0 < d i → T i ≡ true) → weight n d S ≤ weight n d T
unfolding weight
weight_mono n d S T h =
    Sums.sum_le n (λ i. cond (S i) (d i) 0) (λ i. cond (T i) (d i) 0)
    (λ i l. Tests.cond_least (S i) (d i) (cond (T i) (d i) 0)
    (λ e. Tests.by_test (ltb 0 (d i))
    (λ t. Tests.cond_at (T i) (d i) (h i l e (ltb-true 0 (d i) t)))
    (λ t. omega (arith, ltb-false 0 (d i) t))))

module _ (n : ℕ) (b : ℕ → ℕ → Bool) (o : StrictOrder n b) where
  -- the rank rises along the order, and is below n
  pub rank_rises : (i j : ℕ) → i < n → j < n → b i j ≡ true → rank n b i < rank n b j
  unfolding rank
  rank_rises i j l m h =
      Sums.sum_lt n (λ k. cond (b k i) 1 0) (λ k. cond (b k j) 1 0) i l
      (let e : b i i ≡ false = Tests.fails (b i i) (o.irreflexive i l) in rw (e, h) (omega arith))
      (λ k p. Tests.cond_least (b k i) 1 (cond (b k j) 1 0) (λ e. Tests.cond_at (b k j) 1 (o.transitive k i j p l m e h)))

  pub rank_below : (i : ℕ) → i < n → rank n b i < n
  unfolding rank
  rank_below i l =
      let s : sum n (λ k. cond (b k i) 1 0) < sum n (λ k. 1) =
      Sums.sum_lt n (λ k. cond (b k i) 1 0) (λ k. 1) i l
      (let e : b i i ≡ false = Tests.fails (b i i) (o.irreflexive i l) in rw e (omega arith))
      (λ k p. Tests.cond_least (b k i) 1 1 (λ e. omega arith)) in
      omega (arith, Sums.sum_ones n)

  module _ (S : ℕ → Bool) where
    -- what is before a member of S, or before what is before one, is early
    early_member : (i j : ℕ) → j < n → b i j ≡ true → S j ≡ true → early n b S i ≡ true
    unfolding early
    early_member i j m h s = Firsts.some_here n (λ t. S t && b i t) j m (Tests.and_both (S j) (b i j) s h)

    early_before : (i j : ℕ) → i < n → j < n → b i j ≡ true → early n b S j ≡ true → early n b S i ≡ true
    unfolding early
    early_before i j l m h e =
        let r = Firsts.some_found n (λ t. S t && b j t) e in
        let k = r.0 in
        early_member i k r.1
        (o.transitive i j k l m r.1 h (Tests.and_right (S k) (b j k) r.2))
        (Tests.and_left (S k) (b j k) r.2)

    -- the three turns
    turn_early : (i : ℕ) → early n b S i ≡ true → turn n b S i ≡ rank n b i
    unfolding turn
    turn_early i e = rw e

    turn_member : (i : ℕ) → early n b S i ≡ false → S i ≡ true → turn n b S i ≡ n
    unfolding turn
    turn_member i e s = rw (e, s)

    turn_late : (i : ℕ) → early n b S i ≡ false → S i ≡ false → turn n b S i ≡ suc n + rank n b i
    unfolding turn
    turn_late i e s = rw (e, s)

    turn_rises : (i j : ℕ) → i < n → j < n → b i j ≡ true → turn n b S i < turn n b S j
    turn_rises i j l m h =
        let r : rank n b i < rank n b j = rank_rises i j l m h in
        let q : rank n b i < n = rank_below i l in
        Tests.by_test (early n b S j)
        (λ e. omega (arith, turn_early j e, turn_early i (early_before i j l m h e)))
        (λ e. Tests.by_test (S j)
        (λ s. omega (arith, turn_member j e s, turn_early i (early_member i j m h s)))
        (λ s. Tests.by_test (early n b S i)
        (λ c. omega (arith, turn_late j e s, turn_early i c))
        (λ c. Tests.by_test (S i)
        (λ p. omega (arith, turn_late j e s, turn_member i c p))
        (λ p. omega (arith, turn_late j e s, turn_late i c p)))))

    -- Ordered elements start at least `gap` periods apart.
    starts_apart : (gap : ℕ) → Keeps (Drawn n b) (starts_at n b S gap) (λ i j. gap)
    unfolding starts_at
    starts_apart gap i j a =
        omega (arith, mul-le-mul_left gap (turn_rises i j a.from a.to a.drawn), mul-suc gap (turn n b S i))

    -- the members of an unrelated set start together
    starts_member : Antichain n b S → (gap i : ℕ) → i < n → S i ≡ true → starts_at n b S gap i ≡ gap * n
    unfolding starts_at early
    starts_member u gap i l s =
        ap (λ (t : ℕ). gap * t)
        (turn_member i
        (Tests.fails (early n b S i)
        (λ e. let r = Firsts.some_found n (λ t. S t && b i t) e in
        let k = r.0 in
        u i k l r.1 s (Tests.and_left (S k) (b i k) r.2) (Tests.and_right (S k) (b i k) r.2)))
        s)

-- The crew of a heaviest unrelated set occupies exactly the need in the period that follows `gap * n`.
peak : (n : ℕ) (b : ℕ → ℕ → Bool) (d : ℕ → ℕ) (x : ℕ) → StrictOrder n b → (N : Need n b d x) → (gap : ℕ) (w : ℕ → ℕ) →
    ((i : ℕ) → i < n → (0 < d i → 1 ≤ w i) × (w i ≤ gap)) → occupied n d (starts_at n b N.set gap) w (suc (gap * n)) ≡ x
peak n b d x o N gap w h =
    let s = starts_at n b N.set gap in
    let t = suc (gap * n) in
    omega (
      arith,
      occupied_at_most n b d x s w t N (λ i j a. omega (arith, starts_apart n b o N.set gap i j a, (h i a.from).1)),
      occupied_weight n d s w t,
      weight_mono n d N.set (active s w t)
          (λ i l e q. let p = starts_member n b o N.set N.unrelated gap i l e in
          (active_says s w t i).1 (omega (arith, p), omega (arith, p, (h i l).0 q))),
      N.weighs,
    )

-- There is a crew at the peak, for all durations up to `gap` that are 1 or more where there is a demand.
pub crew_peak : (n : ℕ) (b : ℕ → ℕ → Bool) (d w : ℕ → ℕ) (gap : ℕ) → StrictOrder n b →
    ((i : ℕ) → i < n → (0 < d i → 1 ≤ w i) × (w i ≤ gap)) → Peak n b d w gap
crew_peak n b d w gap o h =
    let N = Needs.need_of_need n b d o in
    record {
      starts = starts_at n b N.set gap;
      period = suc (gap * n);
      apart = starts_apart n b o N.set gap;
      first = omega arith;
      full = peak n b d (need_of n b d) o N gap w h;
    }
