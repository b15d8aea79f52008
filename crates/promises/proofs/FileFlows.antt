-- The flow of a kind of a plan that opens, in the file's terms.
use mathlib.Core.Path.{◌≡◌, ap, ◌∙◌}
use mathlib.Core.Bool.{true, false≢true, ◌&&◌, ◌||◌}
use mathlib.Core.List.{List}
use mathlib.Core.Logic.{inl, inr, by_cases}
use Prim.Native.Nat.{ℕ, zero, suc, ◌+◌, ◌-◌, ◌≤◌, ◌<◌}
use native.Mathlib.Decide.{dec_lt}
use native.Mathlib.Numerals.{add-one}
use native.Mathlib.Omega.{arith}
use lib.Dec.{ltb, eqb}
use borrow.Author.Tests.{ltb-true, eqb-true}
use Rattle.words.specs.Sums.{sum}
use Rattle.words.proofs.Sums.{sum_cong}
use Rattle.words.proofs.Tests.{and_left, and_right, or_cases}
use Rattle.records.specs.Bytes.{AreBytes}
use Rattle.order.specs.Nodes.{node_before}
use Rattle.order.specs.Orders.{is_before}
use Rattle.order.proofs.Orders.{order_means}
use Rattle.plan.specs.Meaning.{Readable, file_demand, file_available}
use Rattle.plan.specs.Records.{activity_count}
use Rattle.planner.specs.Open.{plan_in, plan_order, Opens}
use Rattle.planner.specs.Need.{available_for, need_for}
use Rattle.planner.specs.Flow.{flow_units}
use Rattle.planner.specs.File.{NodeBefore, FileFlow}
use Rattle.planner.proofs.OpenLaws.{opens_readable}
use Rattle.planner.proofs.FileOrders.{plan_order_lem}
use Rattle.planner.proofs.QuotedNeeds.{count_in, demand_in_lem, available_in_lem}
use Rattle.planner.proofs.FlowUnits.{flow_made, flow_spare, units_past}

module _ (s : List ℕ) (e : Readable s) where
  -- ---- the order of the nodes is the file's

  pub node_means : (u v : ℕ) → node_before (plan_in s).count (is_before (plan_order s)) u v ≡ true → NodeBefore s u v
  node_means zero zero h = absurd (false≢true h)
  node_means zero (suc j) h = omega (arith, ltb-true j (suc (plan_in s).count) h, count_in s e)
  node_means (suc i) zero h = absurd (false≢true h)
  node_means (suc i) (suc j) h =
      let m = (plan_in s).count in
      let b = is_before (plan_order s) i j in
      let l : i < m = ltb-true i m (and_left (ltb i m) (eqb j m || (ltb j m && b)) h) in (
        omega (arith, count_in s e),
        or_cases (eqb j m) (ltb j m && b) (and_right (ltb i m) (eqb j m || (ltb j m && b)) h)
            (λ t. inl (eqb-true j m t ∙ count_in s e))
            (λ t. inr ((order_means (plan_order_lem s e) i j).0 (and_right (ltb j m) b t))),
      )

-- ---- UNITS g THAT ARE THOSE OF THE PLAN'S FLOW are a flow of the file, where the need is available, and leave what is not needed

module _ (s : List ℕ) (small : AreBytes s) (o : Opens s) (k : ℕ) (hk : k < 8) where
  readable : Readable s
  readable = opens_readable s o

  -- a sum over the plan's nodes is one over the file's
  sums : (f h : ℕ → ℕ) {x : ℕ} → ((u : ℕ) → f u ≡ h u) → sum (suc (suc (plan_in s).count)) h ≡ x → sum (activity_count s + 2) f ≡ x
  sums f h same p =
      let n : activity_count s + 2 ≡ suc (suc (plan_in s).count) = omega (arith, count_in s readable) in
      ap (λ (c : ℕ). sum c f) n ∙ sum_cong (suc (suc (plan_in s).count)) f h (λ i l. same i) ∙ p

  end_is : activity_count s + 1 ≡ suc (plan_in s).count
  end_is = omega (arith, count_in s readable)

  -- where units pass there is a node
  node_below : (u v : ℕ) → 0 < flow_units (plan_in s) k u v → (u < suc (suc (plan_in s).count)) × (v < suc (suc (plan_in s).count))
  node_below u v p = (
    by_cases (dec_lt u (suc (suc (plan_in s).count))) (λ l. l) (λ l. absurd (omega (arith, units_past s small o k hk u v (inl (omega arith))))),
    by_cases (dec_lt v (suc (suc (plan_in s).count))) (λ l. l) (λ l. absurd (omega (arith, units_past s small o k hk u v (inr (omega arith))))),
  )

  module _ (h : need_for (plan_in s) k ≤ available_for (plan_in s) k) (g : ℕ → ℕ → ℕ) (is : (u v : ℕ) → g u v ≡ flow_units (plan_in s) k u v) where
    goes_into : (j : ℕ) → j < activity_count s → sum (activity_count s + 2) (λ u. g u (j + 1)) ≡ file_demand s k j
    goes_into j l =
        let b : j < (plan_in s).count = omega (arith, count_in s readable) in
        sums (λ u. g u (j + 1)) (λ u. flow_units (plan_in s) k u (suc j)) (λ u. rw add-one (is u (suc j)))
        ((flow_made s small o k hk h).into j b ∙ demand_in_lem s small o k j hk b)

    goes_out : (i : ℕ) → i < activity_count s → sum (activity_count s + 2) (λ v. g (i + 1) v) ≡ file_demand s k i
    goes_out i l =
        let b : i < (plan_in s).count = omega (arith, count_in s readable) in
        sums (λ v. g (i + 1) v) (λ v. flow_units (plan_in s) k (suc i) v) (λ v. rw add-one (is (suc i) v))
        ((flow_made s small o k hk h).out i b ∙ demand_in_lem s small o k i hk b)

    starts : sum (activity_count s + 2) (λ v. g 0 v) ≡ file_available s k
    starts = sums (λ v. g 0 v) (λ v. flow_units (plan_in s) k 0 v) (λ v. is 0 v) ((flow_made s small o k hk h).start ∙ available_in_lem s readable k hk)

    finishes : sum (activity_count s + 2) (λ u. g u (activity_count s + 1)) ≡ file_available s k
    finishes =
        sums (λ u. g u (activity_count s + 1)) (λ u. flow_units (plan_in s) k u (suc (plan_in s).count))
        (λ u. is u (activity_count s + 1) ∙ ap (λ (v : ℕ). flow_units (plan_in s) k u v) end_is)
        ((flow_made s small o k hk h).finish ∙ available_in_lem s readable k hk)

    along : (u v : ℕ) → 0 < g u v → NodeBefore s u v
    along u v p =
        let q : 0 < flow_units (plan_in s) k u v = omega (arith, is u v) in
        let n = node_below u v q in
        node_means s readable u v ((flow_made s small o k hk h).along u v n.0 n.1 q)

    pub file_flow : FileFlow s k g
    file_flow = record { into = goes_into; out = goes_out; start = starts; finish = finishes; along = along }

  pub file_unused : (g : ℕ → ℕ → ℕ) → ((u v : ℕ) → g u v ≡ flow_units (plan_in s) k u v)
      → g 0 (activity_count s + 1) ≡ file_available s k - need_for (plan_in s) k
  file_unused g is =
      is 0 (activity_count s + 1)
      ∙ ap (λ (v : ℕ). flow_units (plan_in s) k 0 v) end_is
      ∙ flow_spare s small o k hk
      ∙ ap (λ (a : ℕ). a - need_for (plan_in s) k) (available_in_lem s readable k hk)
