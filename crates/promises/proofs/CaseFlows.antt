-- The flows of the cases: what the solver hands over is computed once for each plan, and then the records.
use mathlib.Core.Path.{◌≡◌, refl, ap, ap₂, ◌∙◌}
use mathlib.Core.Bool.{not}
use mathlib.Core.List.{List}
use Prim.Native.Nat.{ℕ, ◌+◌}
use lib.ListN.{length, get_or, replicate, set}
use Rattle.words.specs.Bits.{digit, bit}
use Rattle.words.specs.model.Loops.{each, run, upto}
use Rattle.words.specs.Members.{first, count}
use Rattle.words.specs.Listing.{members}
use Rattle.words.specs.Sums.{sum, maximum}
use Rattle.words.specs.Tables.{table}
use Rattle.order.specs.Stored.{row, put_row, row_table, cells, number_of, set_of}
use Rattle.order.specs.Rows.{grow, arcs_from, arcs_in}
use Rattle.order.specs.Orders.{empty_order, extended, order_of, order_in, joined_rows, after_rows}
use Rattle.order.specs.declared.Order.{Order}
use Rattle.order.specs.model.Places.{nonzero}
use Rattle.records.specs.Records.{bytes, flow_record, joined as all_of}
use Rattle.flow_math.specs.Flow.{node_flow}
use Rattle.flow_math.specs.Handover.{row as handedBy, col as takenBy}
use Rattle.flow_math.specs.Heaviest.{heaviest, need_of}
use Rattle.solver.specs.model.Search.{advance}
use Rattle.solver.specs.model.Network.{wrap, cell, handed, giver, joined, shifted, handing}
use Rattle.solver.specs.model.Solve.{blanks, blank_rows, ranked, started, rounded, solved}
use Rattle.solver.specs.model.Quote.{unused, copied, outcome, flow_of, flow_in}
use Rattle.kinds.specs.Needs.{demands_for}
use Rattle.kinds.specs.Flows.{pair_bytes, row_bytes, flow_bytes}
use Rattle.plan.specs.declared.Plan.{Plan}
use Rattle.planner.specs.Faults.{Fault, or_cause, or_short}
use Rattle.planner.specs.Open.{order_for}
use Rattle.planner.specs.Output.{lent_after}
use Rattle.planner.specs.Need.{demand_for, available_for, need_for, over_kind, is_overloaded, over_cause, or_overloaded}
use Rattle.planner.specs.File.{flow_length}
use Rattle.planner.specs.Flow.{is_kind, flow_mark, flow_fault, flow_units, record_bytes, flow_out}
use Rattle.planner.specs.declared.Cause.TheVariants.{NoKind}
use Rattle.promises.specs.Ours.{ours}
use Rattle.promises.specs.Cases.{plan_a, plan_i_job, plan_i_extra, plan_i_both, flow_a, flow_i}
use Rattle.promises.proofs.CasePlans.{OpenedAs, all_opened, opened_as, in_a, in_i_job, in_i_extra, in_i_both}

-- what is handed over in a plan of kind 1, by an order, and by its own
abbrev handover_by : Order → Plan → List ℕ
handover_by o q = flow_of q.count o (demands_for q.demand 0)

abbrev handover : Plan → List ℕ
handover q = handover_by (order_for q) q

-- the records of kind 1, where f is handed over and x are needed
abbrev records_by : Plan → List ℕ → ℕ → List ℕ
records_by q f x = flow_bytes 1 (λ u v. node_flow q.count (demand_for q 0) (handed f) x (available_for q 0) u v) (flow_mark q) (q.count + 2)

abbrev left_by : Plan → Fault → List ℕ → ℕ → List ℕ → List ℕ
left_by q f h x out =
    lent_after (or_overloaded (or_short (or_cause f (not (is_kind 1 q.kinds)) (NoKind q.kinds)) (length out) (flow_length q.count)) q) (records_by q h x) out

module _ {s : List ℕ} {q : Plan} {f : Fault} (o : OpenedAs s q f) where
  flow_left : (h : List ℕ) (x : ℕ) (out : List ℕ) → handover q ≡ h → need_for q 0 ≡ x → (ours.flow 1).left s out ≡ left_by q f h x out
  unfolding flow_fault flow_out record_bytes flow_units
  flow_left h x out e n = opened_as (λ p g. left_by p g (handover p) (need_for p 0) out) o ∙ ap₂ (λ (y : List ℕ) (z : ℕ). left_by q f y z out) e n

-- 2 units more are handed over by i to j
abbrev with_two : List ℕ → ℕ → ℕ → List ℕ
with_two f i j = set f (cell i j) (wrap (get_or f (cell i j) 0 + 2))

-- in plan A from 2 to 4 and from 1 to 2, and in the plans I from 1 to 3. (`unused` is long, and stays shut until a record asks for one of its numbers.)
abbrev handed_a : List ℕ
handed_a = with_two (with_two unused 1 3) 0 1

abbrev handed_i : List ℕ
handed_i = with_two unused 0 2

-- what 1 hands over in the plans I, by the one order that they have
abbrev order_i : Order
order_i = extended (extended empty_order 1 2) 0 1

record AllOrdered : Type 0 where
  job : order_for in_i_job ≡ order_i
  extra : order_for in_i_extra ≡ order_i
  both : order_for in_i_both ≡ order_i

all_ordered : AllOrdered
unfolding digit bit table row row_table cells grow arcs_from arcs_in extended order_of order_in joined_rows
all_ordered = record { job = refl; extra = refl; both = refl }

record AllHanded : Type 0 where
  a : handover in_a ≡ handed_a
  i : handover_by order_i in_i_job ≡ handed_i

all_handed : AllHanded
unfolding digit bit each run upto first count members table row put_row row_table cells number_of set_of grow arcs_from arcs_in extended order_of order_in joined_rows after_rows nonzero advance giver joined shifted handing blanks blank_rows ranked started rounded solved copied outcome flow_in demands_for
all_handed = record { a = refl; i = refl }

-- all of them have the same activities
handed_i_lem : (q : Plan) → order_for q ≡ order_i → handover_by order_i q ≡ handover_by order_i in_i_job → handover q ≡ handed_i
handed_i_lem q e same = ap (λ (o : Order). handover_by o q) e ∙ same ∙ all_handed.i

pub record AllFlows : Type 0 where
  pub a : (ours.flow 1).left plan_a (replicate 360 9) ≡ flow_a
  pub i_job : (ours.flow 1).left plan_i_job (replicate 240 9) ≡ flow_i 0
  pub i_extra : (ours.flow 1).left plan_i_extra (replicate 240 9) ≡ flow_i 1
  pub i_both : (ours.flow 1).left plan_i_both (replicate 240 9) ≡ flow_i 0

pub all_flows : AllFlows
unfolding digit bit first count members sum maximum table row put_row row_table cells number_of set_of grow arcs_from arcs_in extended order_of order_in joined_rows bytes flow_record all_of handedBy takenBy heaviest need_of demands_for pair_bytes row_bytes flow_bytes lent_after need_for over_kind is_overloaded over_cause flow_length unused
all_flows =
    record {
      a = flow_left all_opened.a handed_a 4 (replicate 360 9) all_handed.a refl;
      i_job = flow_left all_opened.i_job handed_i 2 (replicate 240 9) (handed_i_lem in_i_job all_ordered.job refl) refl;
      i_extra = flow_left all_opened.i_extra handed_i 2 (replicate 240 9) (handed_i_lem in_i_extra all_ordered.extra refl) refl;
      i_both = flow_left all_opened.i_both handed_i 2 (replicate 240 9) (handed_i_lem in_i_both all_ordered.both refl) refl;
    }
