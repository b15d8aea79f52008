-- CHANGE 6 OF DOCUMENT 02 HOLDS OF OURS: `added_keep`.
use mathlib.Core.Path.{◌≡◌, sym, ◌∙◌}
use mathlib.Core.List.{List}
use mathlib.Core.Logic.{⊎_elim, ◌↔◌}
use Prim.Native.Nat.{ℕ, suc, ◌+◌, ◌<◌}
use native.Mathlib.Numerals.{add-one}
use native.Mathlib.Omega.{arith}
use lib.ListN.{length, drop}
use Rattle.order.specs.Before.{Before, Joined, Acyclic}
use Rattle.order.specs.Orders.{is_before}
use Rattle.order.proofs.Before.{before_least, before_trans, before_joined}
use Rattle.records.specs.Bytes.{AreBytes}
use Rattle.plan.specs.Meaning.{Readable, JobArc, FileArc}
use Rattle.kinds.proofs.NodeUnits.{mark_most}
use Rattle.kinds.proofs.RecordsAscend.{Says, Given}
use Rattle.planner.specs.Open.{plan_in, job_order, Opens}
use Rattle.planner.specs.File.{NodeBefore, Added}
use Rattle.planner.specs.Flow.{flow_units, flow_mark, record_bytes, flow_out}
use Rattle.planner.proofs.FlowUnits.{record_given}
use Rattle.planner.proofs.MarkLaws.{mark_added, mark_job}
use Rattle.planner.proofs.FileOrders.{opens_when}
use Rattle.promises.specs.Ours.{ours}
use Rattle.promises.specs.AddedMarks.{Writes, AddedMarks, Marked, FullOrder, AddedSentence}
use Rattle.promises.proofs.AnswersWhen.{flow_left}
use Rattle.promises.proofs.PriceListHolds.{price_list, units_said}

module _ (s : List ℕ) (small : AreBytes s) (r : Readable s) (free : Acyclic (FileArc s)) where
  opens : Opens s
  opens = (opens_when s).1 (r, free)

  -- ---- a record that Flow writes, from u to v

  module _ {u v mark : ℕ} (w : Writes ours s u v mark) where
    abbrev k : ℕ
    k = w.kind

    -- is one of the plan's flow: units pass, and its mark is the pair's
    given : (0 < flow_units (plan_in s) k u v) × (mark ≡ flow_mark (plan_in s) u v)
    given =
        let left = flow_left s k w.lent w.count w.answers in
        let g : Says (Given (flow_units (plan_in s) k) (flow_mark (plan_in s))) (flow_out s (k + 1) w.lent) w.place =
        rw left.2 (record_given (plan_in s) k (drop (length (record_bytes (plan_in s) k)) w.lent) w.place (omega (arith, w.written, left.1))) in
        (rw (w.from_is, w.to_is) at g.some, sym w.mark_is ∙ (rw (w.from_is, w.to_is) at g.added))

    -- and passes along the plan order
    along : NodeBefore s u v
    along =
        ((price_list s small r free).meets k w.lent w.count w.answers).along u v
        (omega (arith, given.0, units_said s small opens k w.lent w.count w.answers u v))

    marked : (mark ≡ 1) ↔ Added s u v
    marked = ((λ e. (mark_added s r u v).0 (sym given.1 ∙ e)), (λ a. given.1 ∙ (mark_added s r u v).1 a))

    unmarked : (mark ≡ 0) ↔ (Added s u v → ⊥)
    unmarked = (
      (λ e a. omega (arith, e, marked.1 a)),
      (λ none.
          let not-one : mark ≡ 1 → ⊥ = λ e. none (marked.0 e) in
          omega (arith, given.1, mark_most (is_before (job_order s)) (plan_in s).count u v)),
    )

  pub added_marks : AddedMarks ours s
  added_marks =
      record {
        one = λ u v mark. marked;
        zero = λ u v mark. unmarked;
      }

  -- ---- between activities

  module _ (i j : ℕ) where
    marked_within : Marked ours s i j → Before (FileArc s) i j
    marked_within w =
        let a : Added s (suc i) (suc j) = rw (add-one i, add-one j) at ((marked w).0 (omega arith)) in
        let n : NodeBefore s (suc i) (suc j) = rw (add-one i, add-one j) at (along w) in
        ⊎_elim (λ e. absurd (omega (arith, e, a.1))) (λ b. b) n.1

    order_within : Joined (Before (JobArc s)) (Marked ours s) i j → Before (FileArc s) i j
    order_within = ⊎_elim before_joined marked_within

  pub full_order : FullOrder ours s
  full_order =
      record {
        within = order_within;
        feasible = λ i b. free i (before_least (Before (FileArc s)) order_within (λ x y z. before_trans) b);
        unmarked = λ i j k l w. mark_job s r i j k l (rw (add-one i, add-one j) at (sym (given w).1));
      }

pub added_keep : AddedSentence ours
added_keep s small r free = (added_marks s small r free, full_order s small r free)
