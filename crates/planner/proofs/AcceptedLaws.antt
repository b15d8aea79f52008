-- When a plan is accepted: without a circle exactly where no kind needs more than there is; of the plan that a file
-- says, where the search finds none that does; and with fewer arcs it is accepted no sooner.
use mathlib.Core.Path.{◌≡◌, refl, sym, ap, ◌∙◌}
use mathlib.Core.Bool.{Bool, true, false, not}
use mathlib.Core.List.{List}
use Prim.Native.Nat.{ℕ, ◌≤◌}
use native.Mathlib.Omega.{arith}
use lib.Dec.{ltb}
use borrow.Author.Tests.{lt-ltb, ltb-true}
use Rattle.std.specs.Prelude.{Ok}
use Rattle.words.specs.Members.{first}
use Rattle.words.proofs.Firsts.{at_first, first_below}
use Rattle.words.proofs.Tests.{fails, clash}
use Rattle.records.specs.Bytes.{AreBytes}
use Rattle.order.specs.Stored.{elements}
use Rattle.order.specs.Before.{Acyclic}
use Rattle.order.specs.Arcs.{StrictOrder}
use Rattle.order.specs.Orders.{is_before, Direct, order_in, joined_rows}
use Rattle.order.proofs.Before.{before_map, acyclic_joined, before_same, strict_first}
use Rattle.order.proofs.Orders.{order_means, order_strict, direct_order, direct_joined}
use Rattle.plan.specs.Meaning.{Readable}
use Rattle.plan.specs.model.Plans.{with_extra}
use Rattle.plan.specs.declared.Plan.{Plan}
use Rattle.flow_math.proofs.Theorems.{need_fewer}
use Rattle.planner.specs.Faults.{Fault, is_fine, or_cause}
use Rattle.planner.specs.Open.{plan_in, rows_for, rows_of, job_order_for, order_for, plan_order, or_circle, Opens}
use Rattle.planner.specs.Need.{demand_for, available_for, need_for, over_kind, is_overloaded, over_cause, or_overloaded}
use Rattle.planner.specs.Verdict.{plan_fault, is_accepted, verdict_fault}
use Rattle.planner.specs.model.Opening.{overload_in}
use Rattle.planner.specs.model.Trimming.{fits_by}
use Rattle.planner.specs.declared.Cause.{Cause}
use Rattle.planner.specs.declared.Cause.TheVariants.{JobCircle, PlanCircle}
use Rattle.planner.proofs.OpenLaws.{read_none, round_none}
use Rattle.planner.proofs.FileOrders.{plan_arcs, opens_when}
use Rattle.planner.proofs.QuotedNeeds.{weighed}

-- the next cause in turn, after none: it is fine where the test does not hold
turn_fine : (b : Bool) (c : Cause) → is_fine (or_cause (Ok tt) b c) ≡ not b
turn_fine true c = refl
turn_fine false c = refl

-- of a readable file, Verdict's fault is the plan's
pub verdict_by_plan : (s : List ℕ) → Readable s → is_fine (verdict_fault s) ≡ is_accepted (plan_in s)
unfolding verdict_fault is_accepted
verdict_by_plan s e = ap (λ (f : Fault). is_fine (plan_fault f (plan_in s))) (read_none s e)

-- where the arcs lead nothing back to itself, the plan is accepted exactly where it is not overloaded
pub accepted_by : (q : Plan) → Acyclic (Direct (rows_for q)) → is_accepted q ≡ not (is_overloaded q)
unfolding is_accepted
accepted_by q free =
    let job : Acyclic (Direct q.job) = acyclic_joined (λ i b. free i ((before_same (direct_joined q.job q.extra) i i).1 b)) in
    let five = round_none (Ok tt) (job_order_for q) JobCircle (direct_order q.job) refl job in
    let six = round_none (or_circle (Ok tt) (job_order_for q) JobCircle) (order_for q) PlanCircle
    (direct_order (rows_for q)) (ap is_fine five) free in
    ap (λ (f : Fault). is_fine (or_overloaded f q)) six ∙ turn_fine (is_overloaded q) (over_cause q)

-- ---- the plan of a file, without a circle

module _ (s : List ℕ) (bytes : AreBytes s) (e : Readable s) (free : Acyclic (Direct (rows_of s))) where
  opens : Opens s
  opens = (opens_when s).1 (e, λ i b. free i ((before_same (plan_arcs s e) i i).1 b))

  -- what the search finds says whether it is accepted
  pub accepted_fits : is_accepted (plan_in s) ≡ fits_by (plan_in s).count (plan_order s) (plan_in s).demand (plan_in s).available (plan_in s).kinds
  unfolding fits_by
  accepted_fits =
      accepted_by (plan_in s) free
      ∙ sym (turn_fine (is_overloaded (plan_in s)) (over_cause (plan_in s)))
      ∙ ap is_fine (sym (weighed s bytes (Ok tt) (λ t. opens)))
      ∙ turn_fine (ltb (overload_in (plan_order s) (plan_in s)).kind (plan_in s).kinds) _

-- ---- FEWER ARCS, NO SMALLER NEED: a plan that is accepted with some extra arcs is accepted with more, if these make no circle

module _ (q : Plan) (a b : List ℕ) (few : q.count ≤ elements) (free : Acyclic (Direct (joined_rows q.job a)))
    (fewer : (i j : ℕ) → Direct (joined_rows q.job b) i j → Direct (joined_rows q.job a) i j) where
  strict : (rows : List ℕ) → Acyclic (Direct rows) → StrictOrder q.count (is_before (order_in rows))
  strict rows free = strict_first q.count elements (is_before (order_in rows)) few (order_strict (direct_order rows) free)

  acyclic_fewer : Acyclic (Direct (joined_rows q.job b))
  acyclic_fewer i h = free i (before_map fewer h)

  pub need_more : (k : ℕ) → need_for (with_extra q a) k ≤ need_for (with_extra q b) k
  unfolding need_for
  need_more k =
      need_fewer q.count (is_before (order_in (joined_rows q.job a))) (is_before (order_in (joined_rows q.job b))) (demand_for q k)
      (strict (joined_rows q.job a) free) (strict (joined_rows q.job b) acyclic_fewer)
      (λ i j li lj t.
      (order_means (direct_order (joined_rows q.job a)) i j).1 (before_map fewer ((order_means (direct_order (joined_rows q.job b)) i j).0 t)))

  overloaded_fewer : is_overloaded (with_extra q a) ≡ true → is_overloaded (with_extra q b) ≡ true
  unfolding is_overloaded over_kind
  overloaded_fewer t =
      let over : List ℕ → ℕ → Bool = λ rows k. ltb (available_for q k) (need_for (with_extra q rows) k) in
      let k : ℕ = first q.kinds (over a) in
      let l = ltb-true k q.kinds t in
      let here = ltb-true (available_for q k) (need_for (with_extra q a) k) (at_first q.kinds (over a) l) in
      let low = first_below q.kinds (over b) k (lt-ltb (available_for q k) (need_for (with_extra q b) k) (omega (arith, here, need_more k))) in
      lt-ltb (first q.kinds (over b)) q.kinds (omega (arith, low, l))

  pub accepted_more : is_accepted (with_extra q b) ≡ true → is_accepted (with_extra q a) ≡ true
  accepted_more t =
      accepted_by (with_extra q a) free
      ∙ ap not (fails (is_overloaded (with_extra q a))
      (λ h. clash (sym (accepted_by (with_extra q b) acyclic_fewer) ∙ t) (ap not (overloaded_fewer h))))
