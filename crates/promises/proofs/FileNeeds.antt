-- The need of a kind of a plan that opens, in the file's own terms: some unrelated set of activities demands it and
-- none demands more; the set that is shown is such a set; no crew has more occupied in any period, and some crew has
-- exactly that in some period.
use mathlib.Core.Path.{◌≡◌, sym, ◌∙◌, ap}
use mathlib.Core.Bool.{Bool, true}
use mathlib.Core.List.{List}
use mathlib.Core.Logic.{◌↔◌}
use Prim.Native.Nat.{ℕ, ◌+◌, ◌≤◌, ◌<◌}
use native.Mathlib.Omega.{arith}
use Rattle.words.specs.Bits.{bit}
use Rattle.records.specs.Bytes.{AreBytes}
use Rattle.order.specs.Stored.{elements, number_of}
use Rattle.order.specs.Before.{Before, last}
use Rattle.order.specs.Arcs.{StrictOrder, Drawn}
use Rattle.order.specs.Orders.{is_before}
use Rattle.order.proofs.Before.{before_within, strict_first}
use Rattle.order.proofs.Orders.{order_means}
use Rattle.plan.specs.Meaning.{Readable, FileArc, file_duration, file_demand}
use Rattle.plan.specs.Records.{activity_count}
use Rattle.plan.proofs.Milestones.{milestone_idle}
use Rattle.solver.proofs.First.{set_within}
use Rattle.flow_math.specs.Need.{Antichain, weight, Need}
use Rattle.flow_math.specs.Kept.{Keeps}
use Rattle.flow_math.specs.Crew.{active, occupied}
use Rattle.flow_math.specs.Peak.{Peak}
use Rattle.plan.proofs.Waits.{file_wait_small}
use Rattle.flow_math.proofs.Kept.{kept_before}
use Rattle.flow_math.proofs.Crew.{occupied_weight}
use Rattle.flow_math.proofs.Need.{weight_same}
use Rattle.flow_math.proofs.Theorems.{need_of_need, crew_bound, crew_peak}
use Rattle.kinds.specs.Needs.{demands_for}
use Rattle.planner.specs.Open.{plan_in, plan_order, Opens}
use Rattle.planner.specs.Need.{demand_for, need_for, shown_set}
use Rattle.planner.specs.File.{Unrelated, demand_sum}
use Rattle.planner.specs.Times.{arc_weight, KeepsArcs, Workable, FileCrew, crew_occupies}
use Rattle.planner.proofs.OpenLaws.{said_in, opens_readable, opens_small, count_few}
use Rattle.planner.proofs.FileOrders.{arc_ends, plan_order_lem, opens_strict}
use Rattle.planner.proofs.QuotedNeeds.{count_in, demand_in_lem, quotable, sound_in}

module _ (s : List ℕ) (small : AreBytes s) (o : Opens s) where
  readable : Readable s
  readable = opens_readable s o

  -- ---- the plan order is that of the file's arcs, of the m activities

  pub strict_in : StrictOrder (plan_in s).count (is_before (plan_order s))
  strict_in = strict_first (plan_in s).count elements (is_before (plan_order s)) (count_few s) (opens_strict s o)

  pub before_in : (i j : ℕ) → (is_before (plan_order s) i j ≡ true) ↔ Before (FileArc s) i j
  before_in = order_means (plan_order_lem s readable)

  -- an unrelated set is the paper's antichain
  pub unrelated_in : (S : ℕ → Bool) → Antichain (plan_in s).count (is_before (plan_order s)) S ↔ Unrelated s S
  unrelated_in S = (
    (λ u i j p q b. let h = before_within (plan_in s).count (arc_ends s readable) b in u i j h.0 h.1 p q ((before_in i j).1 b)),
    λ u i j hi hj p q b. u i j p q ((before_in i j).0 b),
  )

  pub sum_in : (k : ℕ) → k < 8 → (S : ℕ → Bool) → weight (plan_in s).count (demand_for (plan_in s) k) S ≡ demand_sum s k S
  unfolding weight
  sum_in k h S =
      weight_same (plan_in s).count (demand_for (plan_in s) k) (file_demand s k) S (λ i l. demand_in_lem s small o k i h l)
      ∙ ap (λ (m : ℕ). weight m (file_demand s k) S) (count_in s readable)

  -- ---- THE NEED: some unrelated set demands it, and every other at most as much

  need_in : (k : ℕ) → Need (plan_in s).count (is_before (plan_order s)) (demand_for (plan_in s) k) (need_for (plan_in s) k)
  unfolding need_for
  need_in k = need_of_need (plan_in s).count (is_before (plan_order s)) (demand_for (plan_in s) k) strict_in

  pub need_some : (k : ℕ) → k < 8 → (S : ℕ → Bool) × Unrelated s S × (demand_sum s k S ≡ need_for (plan_in s) k)
  need_some k h =
      let N = need_in k in
      (N.set, (unrelated_in N.set).0 N.unrelated, sym (sum_in k h N.set) ∙ N.weighs)

  pub need_every : (k : ℕ) → k < 8 → (S : ℕ → Bool) → Unrelated s S → demand_sum s k S ≤ need_for (plan_in s) k
  need_every k h S u = omega (arith, sum_in k h S, (need_in k).most S ((unrelated_in S).1 u))

  -- ---- THE SET SHOWN: it is unrelated, demands exactly the need, and holds only activities that demand the kind

  pub set_unrelated : (k : ℕ) → k < 8 → Unrelated s (bit (number_of (shown_set (plan_in s) k)))
  set_unrelated k h = (unrelated_in (bit (number_of (shown_set (plan_in s) k)))).0 (sound_in s small o k h).unrelated

  pub set_demands : (k : ℕ) → k < 8 → demand_sum s k (bit (number_of (shown_set (plan_in s) k))) ≡ need_for (plan_in s) k
  set_demands k h = sym (sum_in k h (bit (number_of (shown_set (plan_in s) k)))) ∙ (sound_in s small o k h).weighs

  pub set_members : (k : ℕ) → k < 8 → (i : ℕ) → bit (number_of (shown_set (plan_in s) k)) i ≡ true → (i < activity_count s) × (0 < file_demand s k i)
  set_members k h i e =
      let w = set_within (plan_in s).count (plan_order s) (demands_for (plan_in s).demand k) (quotable s small o k h) i e in
      (omega (arith, w.0, count_in s readable), omega (arith, demand_in_lem s small o k i h w.0, w.1))

  -- ---- CREWS

  -- WHAT KEEPS EVERY ARC OF THE FILE, WITH ITS WAIT, KEEPS THE PLAN ORDER
  keeps_order : (x w : ℕ → ℕ) → KeepsArcs s x w → Keeps (Drawn (plan_in s).count (is_before (plan_order s))) x (λ i j. w i)
  keeps_order x w k i j d = kept_before x w (arc_weight s w) (λ i j a. omega arith) k i j ((before_in i j).0 d.drawn)

  pub occupied_in : (k : ℕ) → k < 8 → (starts worked : ℕ → ℕ) (t : ℕ)
      → occupied (plan_in s).count (demand_for (plan_in s) k) starts worked t ≡ crew_occupies s k starts worked t
  unfolding weight
  occupied_in k h starts worked t =
      occupied_weight (plan_in s).count (demand_for (plan_in s) k) starts worked t
      ∙ sum_in k h (active starts worked t)
      ∙ sym (occupied_weight (activity_count s) (file_demand s k) starts worked t)

  -- NO CREW HAS MORE OCCUPIED, in any period, whatever its durations are
  pub crew_none : (k : ℕ) → k < 8 → (x w : ℕ → ℕ) → KeepsArcs s x w → (t : ℕ) → crew_occupies s k x w t ≤ need_for (plan_in s) k
  unfolding need_for
  crew_none k h x w c t =
      omega (
        arith,
        occupied_in k h x w t,
        crew_bound (plan_in s).count (is_before (plan_order s)) (demand_for (plan_in s) k) x w t strict_in (keeps_order x w c),
      )

  -- SOME CREW HAS EXACTLY THAT OCCUPIED: it works in the file's durations

  file_works : Workable s (file_duration s)
  file_works = record { milestones = λ i l z. z; others = λ i l n. omega arith }

  -- who demands something takes time, since a milestone demands nobody; and no duration is longer than 65,535
  time_in : (k : ℕ) → k < 8 → (i : ℕ) → i < (plan_in s).count → (0 < demand_for (plan_in s) k i → 1 ≤ file_duration s i) × (file_duration s i ≤ 65535)
  time_in k h i l =
      let c : i < activity_count s = omega (arith, l, count_in s readable) in (
        (λ d. file_works.others i c (λ z. omega (arith, d, demand_in_lem s small o k i h l, milestone_idle s readable i k c h z))),
        omega (arith, (said_in s readable).duration i l, opens_small s small o i),
      )

  -- no duration and wait together are longer than this, so that starts so far apart keep every arc
  abbrev longest : ℕ
  longest = 65535 + 65535

  peak_in : (k : ℕ) → k < 8 → Peak (plan_in s).count (is_before (plan_order s)) (demand_for (plan_in s) k) (file_duration s) longest
  peak_in k h =
      crew_peak (plan_in s).count (is_before (plan_order s)) (demand_for (plan_in s) k) (file_duration s) longest strict_in
      (λ i l. let t = time_in k h i l in (t.0, omega (arith, t.1)))

  apart_keeps : (x : ℕ → ℕ) → Keeps (Drawn (plan_in s).count (is_before (plan_order s))) x (λ i j. longest) → KeepsArcs s x (file_duration s)
  apart_keeps x k i j a =
      let h = arc_ends s readable i j a in
      omega (
        arith,
        k i j (record { from = h.0; to = h.1; drawn = (before_in i j).1 (last a) }),
        (said_in s readable).duration i h.0,
        opens_small s small o i,
        file_wait_small s small i j,
      )

  pub crew_some : (k : ℕ) → k < 8
      → (starts : ℕ → ℕ) × (worked : ℕ → ℕ) × (t : ℕ) × FileCrew s starts worked × (1 ≤ t) × (crew_occupies s k starts worked t ≡ need_for (plan_in s) k)
  unfolding need_for
  crew_some k h =
      let P = peak_in k h in (
        P.starts,
        file_duration s,
        P.period,
        record { works = file_works; keeps = apart_keeps P.starts P.apart },
        P.first,
        sym (occupied_in k h P.starts (file_duration s) P.period) ∙ P.full,
      )
