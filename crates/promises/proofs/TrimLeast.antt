-- No plan made from a trimmed one by leaving out more is accepted. One pass over the arcs suffices, since an order with
-- fewer arcs has no smaller need (`need_fewer` of flow_math): an arc that had to stay in its turn has to stay in every
-- plan with no more arcs. So a trimmed plan that is trimmed again stays as it is.
use mathlib.Core.Path.{◌≡◌, refl, sym, ap, ◌∙◌, subst}
use mathlib.Core.Bool.{Bool, true, false, ◌&&◌, and-false}
use mathlib.Core.List.{List}
use mathlib.Core.Logic.{inl, inr, ⊎_elim}
use Prim.Native.Nat.{ℕ, zero, suc, ◌+◌, ◌-◌, ◌*◌}
use native.Mathlib.Omega.{arith}
use lib.Dec.{eqb}
use borrow.Author.Tests.{eqb-true}
use Rattle.words.proofs.Tests.{by_test, fails, clash, and_says}
use Rattle.records.specs.Bytes.{AreBytes}
use Rattle.order.specs.Stored.{elements}
use Rattle.order.specs.Before.{Acyclic}
use Rattle.order.specs.Rows.{after}
use Rattle.order.specs.Orders.{Direct, without_arc, joined_rows}
use Rattle.order.proofs.Orders.{direct_joined}
use Rattle.plan.specs.Meaning.{Readable, ExtraArc, FileArc, extra_wait}
use Rattle.plan.specs.Filtered.{filtered}
use Rattle.plan.specs.declared.Plan.{Plan}
use Rattle.plan.specs.model.ArcRows.{arc_rows, stays_by}
use Rattle.plan.specs.model.Plans.{with_extra}
use Rattle.plan.proofs.NamedArcs.{all_named}
use Rattle.plan.proofs.Said.{readable_faultless}
use Rattle.plan.proofs.Filtered.{stays_all}
use Rattle.planner.specs.Open.{plan_in, Opens}
use Rattle.planner.specs.Verdict.{is_accepted}
use Rattle.planner.specs.Trim.{pair_from, pair_to, may_go, trim_step, trim_up_to, trimmed_rows, trimmed_file}
use Rattle.planner.proofs.OpenLaws.{count_few}
use Rattle.planner.proofs.FileOrders.{opens_acyclic, opens_when}
use Rattle.planner.proofs.AcceptedLaws.{accepted_more}
use Rattle.planner.proofs.TrimPairs.{extra_is, extra_says, left_readable, left_bytes, step_stays, left_plan, left_acyclic}
use Rattle.planner.proofs.TrimTurns.{pair_of, rows_less, turns_fewer, turn_goes}
use Rattle.promises.specs.Ours.{ours}
use Rattle.promises.specs.Trim.{Overloads, LeavesOut, Gone}
use Rattle.promises.proofs.TrimVerdicts.{overloads_plan, plan_overloads, work_plan, leaves_acyclic}
use Rattle.promises.proofs.TrimChoices.{left, readable_t, extra_t, leaves}
use Rattle.promises.proofs.TrimmedPlans.{may, to_few, below, left_then, then_other, left_one, one_less}

module _ (s : List ℕ) (bytes : AreBytes s) (o : Opens s) where
  abbrev most : ℕ
  most = elements * (plan_in s).count

  abbrev t : List ℕ
  t = filtered (stays_by (trimmed_rows s) s) s

  -- ---- NO PLAN WITH FEWER ARCS IS ACCEPTED

  module _ (u : List ℕ) (f : Readable u) (lacks : LeavesOut t u) where
    plan_u : plan_in u ≡ with_extra (plan_in s) (arc_rows u 4)
    plan_u = work_plan t u (readable_t s bytes o) f lacks.work ∙ ap (λ (q : Plan). with_extra q (arc_rows u 4)) (left_plan s bytes o (trimmed_rows s) (left s bytes o))

    acyclic_u : Acyclic (FileArc u)
    acyclic_u = leaves_acyclic t u (leaves_acyclic s t (opens_acyclic s o) (leaves s bytes o)) lacks

    module _ (i j : ℕ) (gone : Gone t u i j) where
      arc : ExtraArc s i j
      arc = (leaves s bytes o).fewer i j gone.0

      zero_wait : extra_wait s i j ≡ 0
      zero_wait = (leaves s bytes o).waits i j gone.0 ∙ lacks.free i j gone.0 gone.1

      abbrev less : List ℕ
      less = rows_less s bytes o (pair_of i j)

      -- in its turn it had to stay
      refused_then : is_accepted (with_extra (plan_in s) less) ≡ false
      refused_then =
          fails (is_accepted (with_extra (plan_in s) less))
          (λ a. clash ((extra_t s bytes o i j).0 gone.0) (turn_goes s bytes o i j (to_few s bytes o i j arc zero_wait) (below s bytes o i j arc zero_wait) (may s bytes o i j arc zero_wait) a))

      -- and the plan then left had all these arcs
      more_then : (c d : ℕ) → Direct (joined_rows (plan_in s).job (arc_rows u 4)) c d → Direct (joined_rows (plan_in s).job less) c d
      unfolding trimmed_rows ExtraArc
      more_then c d h =
          (direct_joined (plan_in s).job less c d).1
          (⊎_elim (λ b. inl b)
          (λ b.
          let e = (all_named u (readable_faultless u f) 4 (omega arith) c d).0 b.drawn in
          let q : pair_of i j + (most - pair_of i j) ≡ most = omega (arith, below s bytes o i j arc zero_wait) in
          let now = turns_fewer s bytes o (pair_of i j) (most - pair_of i j) c d (omega arith)
          (subst (λ (n : ℕ). after (trim_up_to s n) c d ≡ true) (sym q) ((extra_t s bytes o c d).0 (lacks.fewer c d e))) in
          inr (record {
            from = b.from;
            to = b.to;
            drawn = then_other s bytes o i j arc zero_wait c d now (λ w. gone.1 (subst (λ (y : ℕ). ExtraArc u y j) w.0 (subst (λ (y : ℕ). ExtraArc u c y) w.1 e)));
          }))
          ((direct_joined (plan_in s).job (arc_rows u 4) c d).0 h))

      pub least : AreBytes u → Overloads ours u
      least small =
          plan_overloads u f small acyclic_u
          (ap is_accepted plan_u
          ∙ fails (is_accepted (with_extra (plan_in s) (arc_rows u 4)))
          (λ a. clash (accepted_more (plan_in s) less (arc_rows u 4) (count_few s) (left_acyclic s bytes o less (left_then s bytes o i j arc zero_wait)) more_then a) refused_then))

  -- ---- TRIMMED ALREADY: nothing more goes

  pub opens_t : Opens t
  opens_t = (opens_when t).1 (readable_t s bytes o, leaves_acyclic s t (opens_acyclic s o) (leaves s bytes o))

  pub bytes_t : AreBytes t
  bytes_t = left_bytes s bytes o (trimmed_rows s) (left s bytes o)

  stuck_here : (i j : ℕ) → may_go t i j ≡ true → is_accepted (with_extra (plan_in t) (without_arc (plan_in t).extra i j)) ≡ false
  unfolding may_go
  stuck_here i j m =
      let w = (and_says (after (plan_in t).extra i j) (eqb (extra_wait t i j) 0)).0 m in
      let a = (extra_says t bytes_t opens_t i j).0 w.0 in
      let z = eqb-true (extra_wait t i j) 0 w.1 in
      let L = left_one t bytes_t opens_t i j a z in
      let rows : List ℕ = without_arc (plan_in t).extra i j in
      let u : List ℕ = filtered (stays_by rows t) t in
      let r = left_readable t bytes_t opens_t rows L in
      let one = one_less t bytes_t opens_t i j a z in
      sym (ap is_accepted (left_plan t bytes_t opens_t rows L)) ∙ overloads_plan u r (least u r one.0 i j one.1 (left_bytes t bytes_t opens_t rows L))

  stuck : (n : ℕ) → trim_up_to t n ≡ (plan_in t).extra
  unfolding trim_up_to
  stuck zero = refl
  stuck (suc n) =
      let i : ℕ = pair_from n in
      let j : ℕ = pair_to n in
      let next = is_accepted (with_extra (plan_in t) (without_arc (plan_in t).extra i j)) in
      ap (trim_step t n) (stuck n)
      ∙ step_stays t bytes_t opens_t n (plan_in t).extra
      (by_test (may_go t i j) (λ m. ap (λ (b : Bool). may_go t i j && b) (stuck_here i j m) ∙ and-false (may_go t i j)) (λ m. ap (λ (b : Bool). b && next) m))

  pub again : trimmed_file t ≡ t
  unfolding trimmed_file trimmed_rows
  again = ap (λ (rows : List ℕ). filtered (stays_by rows t) t) (stuck (elements * (plan_in t).count) ∙ extra_is t bytes_t opens_t) ∙ stays_all t (readable_t s bytes o)
