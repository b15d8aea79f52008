-- What the solver quotes of a plan that opens is what the definitions say: the needs, the lowest
-- overloaded kind, and 7 in its turn.
use mathlib.Core.Path.{◌≡◌, refl, ap, ◌∙◌, subst}
use mathlib.Core.Bool.{true, false}
use mathlib.Core.List.{List}
use Prim.Native.Nat.{ℕ, ◌+◌, ◌*◌, ◌^◌, ◌≤◌, ◌<◌}
use native.Mathlib.Omega.{arith}
use lib.Dec.{ltb}
use lib.ListN.{get_or}
use borrow.Author.Tests.{lt-ltb, le-ltb, ltb-true}
use Rattle.std.specs.Prelude.{Some, None, Ok, Err}
use Rattle.words.specs.Bits.{bit}
use Rattle.words.proofs.Bits.{digits_below}
use Rattle.words.proofs.Firsts.{first_cong}
use Rattle.words.proofs.Tables.{get_d_table}
use Rattle.words.proofs.Tests.{fails, by_test, cond_true, cond_false}
use Rattle.records.specs.Bytes.{AreBytes}
use Rattle.order.specs.Stored.{elements, number_of}
use Rattle.order.proofs.Stored.{in_bound}
use Rattle.order.specs.Orders.{is_before}
use Rattle.order.specs.Sets.{member}
use Rattle.plan.specs.Causes.{is_readable, answer_of}
use Rattle.plan.specs.Meaning.{Readable, file_kinds, file_demand, file_available}
use Rattle.plan.specs.model.Said.{Said}
use Rattle.plan.specs.model.Plans.{plan_of, empty_plan}
use Rattle.plan.specs.Records.{activities, activity_count}
use Rattle.plan.specs.declared.Plan.{Plan}
use Rattle.plan.proofs.Said.{demands_small}
use Rattle.solver.specs.model.Network.{handed}
use Rattle.solver.specs.model.Quote.{flow_of}
use Rattle.solver.specs.Sound.{Sound, Plan as Quotable}
use Rattle.solver.proofs.First.{quote_first, set_small, set_within}
use Rattle.kinds.specs.Needs.{demand_at, demands_for, quote_for, exceeds, lowest_kind, lowest_overload, no_overload, some_overload}
use Rattle.kinds.specs.declared.Overload.{Overload}
use Rattle.kinds.proofs.KindLoops.{some_told, none_told}
use Rattle.planner.specs.Faults.{Fault, is_fine}
use Rattle.planner.specs.Open.{plan_in, plan_order, Opens}
use Rattle.planner.specs.Need.{demand_for, available_for, need_for, over_kind, is_overloaded, shown_set, over_cause, or_overloaded}
use Rattle.planner.specs.model.Opening.{Held, opened_of, overload_in, or_found, Fits}
use Rattle.planner.specs.declared.Cause.TheVariants.{Overloaded}
use Rattle.planner.proofs.OpenLaws.{plan_in_lem, plan_not, said_in, count_few, opens_readable}
use Rattle.planner.proofs.FileOrders.{opens_strict}

-- a plan has no more than 8 kinds, readable or not
pub kinds_few : (s : List ℕ) → (plan_in s).kinds ≤ 8
unfolding empty_plan
kinds_few s =
    by_test (is_readable (answer_of s))
    (λ t. (said_in s t).few_kinds)
    (λ t. let e : (plan_in s).kinds ≡ 0 = ap (λ (q : Plan). q.kinds) (plan_not s t) in omega arith)

-- ---- the plan's numbers are the file's

module _ (s : List ℕ) (e : Readable s) where
  pub count_in : (plan_in s).count ≡ activity_count s
  count_in = (said_in s e).count

  pub kinds_in : (plan_in s).kinds ≡ file_kinds s
  kinds_in = (said_in s e).kinds

  -- a kind of the file is one of the eight that a plan has room for
  pub kind_in : {k : ℕ} → k < file_kinds s → k < 8
  kind_in h = omega (arith, h, kinds_in, kinds_few s)

  pub available_in_lem : (k : ℕ) → k < 8 → available_for (plan_in s) k ≡ file_available s k
  available_in_lem = (said_in s e).available

-- the overload of a plan, by the definitions
abbrev pub over_for : Plan → Overload
over_for q = record { kind = over_kind q; need = need_for q (over_kind q); set = shown_set q (over_kind q) }

module _ (s : List ℕ) (small : AreBytes s) (o : Opens s) where
  said_of : Said s (plan_in s)
  said_of = said_in s (opens_readable s o)

  -- ---- the demands of a kind, as the solver gets them

  demand_at_lem : (k i : ℕ) → i < elements → demand_for (plan_in s) k i ≡ get_or (plan_in s).demand (elements * k + i) 0
  unfolding demands_for
  demand_at_lem k i h = get_d_table elements (demand_at (plan_in s).demand k) i 0 h

  pub demand_small : (k i : ℕ) → i < elements → demand_for (plan_in s) k i ≤ 65535
  demand_small k i h =
      let e : get_or (plan_in s).demand (elements * k + i) 0 ≡ get_or (plan_of s).demand (elements * k + i) 0 =
      ap (λ (q : Plan). get_or q.demand (elements * k + i) 0) (plan_in_lem s (opens_readable s o)) in
      omega (arith, demand_at_lem k i h, demands_small s small (elements * k + i))

  demand_none : (k i : ℕ) → k < 8 → (plan_in s).count ≤ i → i < elements → demand_for (plan_in s) k i ≡ 0
  demand_none k i hk l h = demand_at_lem k i h ∙ said_of.no_demand k i hk l h

  pub demand_in_lem : (k i : ℕ) → k < 8 → i < (plan_in s).count → demand_for (plan_in s) k i ≡ file_demand s k i
  demand_in_lem k i hk h = demand_at_lem k i (omega (arith, said_of.few)) ∙ said_of.demand k i hk h

  pub quotable : (k : ℕ) → k < 8 → Quotable (plan_in s).count (plan_order s) (demands_for (plan_in s).demand k)
  quotable k h =
      record { within = omega (arith, said_of.few); idle = λ i l. demand_none k i h l; strict = opens_strict s o; small = demand_small k }

  -- ---- THE QUOTE OF A KIND IS SOUND, over the m activities, and the need that it quotes is the need

  quoted : (k : ℕ) → k < 8
      → Sound (plan_in s).count (is_before (plan_order s)) (demand_for (plan_in s) k) (quote_for (plan_in s).count (plan_order s) (plan_in s).demand k).need
      (member (shown_set (plan_in s) k)) (handed (flow_of (plan_in s).count (plan_order s) (demands_for (plan_in s).demand k)))
  quoted k h = quote_first (plan_in s).count (plan_order s) (demands_for (plan_in s).demand k) (quotable k h)

  pub need_quoted : (k : ℕ) → k < 8 → (quote_for (plan_in s).count (plan_order s) (plan_in s).demand k).need ≡ need_for (plan_in s) k
  unfolding need_for
  need_quoted k h = (quoted k h).need

  pub sound_in : (k : ℕ) → k < 8
      → Sound (plan_in s).count (is_before (plan_order s)) (demand_for (plan_in s) k) (need_for (plan_in s) k) (member (shown_set (plan_in s) k))
      (handed (flow_of (plan_in s).count (plan_order s) (demands_for (plan_in s).demand k)))
  sound_in k h =
      subst (λ (x : ℕ). Sound (plan_in s).count (is_before (plan_order s)) (demand_for (plan_in s) k) x (member (shown_set (plan_in s) k))
      (handed (flow_of (plan_in s).count (plan_order s) (demands_for (plan_in s).demand k)))) (need_quoted k h) (quoted k h)

  -- ---- THE SET SHOWN holds only activities, so its number has no more digits than a file may have activities

  pub set_fits : (k : ℕ) → k < 8 → number_of (shown_set (plan_in s) k) < 2 ^ activities
  set_fits k h =
      let d = demands_for (plan_in s).demand k in
      let w = number_of (shown_set (plan_in s) k) in
      digits_below elements activities w (in_bound (set_small (plan_in s).count (quotable k h).within (plan_order s) d))
      (λ i l. fails (bit w i) (λ t. absurd (omega (arith, (set_within (plan_in s).count (plan_order s) d (quotable k h) i t).0, said_of.few))))

  -- ---- the lowest overloaded kind

  kind_is : lowest_kind (plan_in s).count (plan_order s) (plan_in s).demand (plan_in s).available (plan_in s).kinds ≡ over_kind (plan_in s)
  unfolding over_kind
  kind_is =
      first_cong (plan_in s).kinds (exceeds (plan_in s).count (plan_order s) (plan_in s).demand (plan_in s).available)
      (λ k. ltb (available_for (plan_in s) k) (need_for (plan_in s) k))
      (λ k h. ap (λ (x : ℕ). ltb (available_for (plan_in s) k) x) (need_quoted k (omega (arith, kinds_few s))))

  pub lowest_none : is_overloaded (plan_in s) ≡ false
      → overload_in (plan_order s) (plan_in s) ≡ no_overload (plan_in s).kinds
  unfolding lowest_overload is_overloaded
  lowest_none e = cond_false _ (no_overload (plan_in s).kinds) (ap (λ (k : ℕ). ltb k (plan_in s).kinds) kind_is ∙ e)

  pub over_below : is_overloaded (plan_in s) ≡ true → over_kind (plan_in s) < (plan_in s).kinds
  unfolding is_overloaded
  over_below e = ltb-true (over_kind (plan_in s)) (plan_in s).kinds e

  pub lowest_found : is_overloaded (plan_in s) ≡ true
      → overload_in (plan_order s) (plan_in s) ≡ over_for (plan_in s)
  unfolding lowest_overload is_overloaded
  lowest_found e =
      cond_true _ (no_overload (plan_in s).kinds) (ap (λ (k : ℕ). ltb k (plan_in s).kinds) kind_is ∙ e)
      ∙ ap (λ (k : ℕ). record { kind = k; need = (quote_for (plan_in s).count (plan_order s) (plan_in s).demand k).need; set = shown_set (plan_in s) k }) kind_is
      ∙ ap (λ (x : ℕ). record { kind = over_kind (plan_in s); need = x; set = shown_set (plan_in s) (over_kind (plan_in s)) })
      (need_quoted (over_kind (plan_in s)) (omega (arith, over_below e, kinds_few s)))

-- ---- 7 IN ITS TURN, where an operation without a fault has a plan that opens

pub weighed : (s : List ℕ) → AreBytes s → (f : Fault) → (is_fine f ≡ true → Opens s)
    → or_found f (overload_in (plan_order s) (plan_in s)) (plan_in s).kinds ≡ or_overloaded f (plan_in s)
unfolding over_cause is_overloaded
weighed s small (Err c) opens = refl
weighed s small (Ok _) opens =
    by_test (is_overloaded (plan_in s))
    (λ e. rw (lowest_found s small (opens refl) e))
    (λ e. rw (lowest_none s small (opens refl) e, le-ltb (plan_in s).kinds (plan_in s).kinds (omega arith), e))

-- the same, from what a search gives: `v` is what it finds of the first n kinds
module _ (n : ℕ) (v : Overload) where
  pub weighed_none : None ≡ some_overload n v → Ok tt ≡ or_found (Ok tt) v n
  weighed_none e = rw (le-ltb v.kind n (none_told n v e))

  pub found_below : {w : Overload} → Some w ≡ some_overload n v → w.kind < n
  found_below e = let t = some_told n v e in rw t.0 t.1

  pub weighed_some : {w : Overload} → Some w ≡ some_overload n v
      → Err (Overloaded (w.kind + 1) w.need w.set) ≡ or_found (Ok tt) v n
  weighed_some e = let t = some_told n v e in rw (lt-ltb v.kind n t.1, t.0)

-- ---- of what the code holds: `o` is the plan that was opened

module _ (s : List ℕ) {o : Held} (held : o ≡ opened_of s) where
  pub opened_fits : Fits o.plan
  opened_fits = rw held (count_few s, kinds_few s)

  -- 7 in its turn, after a fault `before`
  pub weighed_held : AreBytes s → (before : Fault) {f : Fault} → (is_fine before ≡ true → Opens s) → f ≡ or_found before (overload_in o.order o.plan) o.plan.kinds
      → f ≡ or_overloaded before (plan_in s)
  weighed_held bytes before opens found =
      found ∙ ap (λ (x : Held). or_found before (overload_in x.order x.plan) x.plan.kinds) held
      ∙ weighed s bytes before opens
