-- The starred cases hold: each answer goes by the plan and the fault that CasePlans has computed,
-- and the rest is computed here.
use mathlib.Core.Path.{◌≡◌}
use mathlib.Core.List.{List, [], ◌∷◌}
use Prim.Native.Nat.{ℕ, ◌+◌}
use lib.ListN.{length, replicate}
use Rattle.std.specs.Prelude.{Err}
use Rattle.words.specs.Bits.{digit, bit}
use Rattle.words.specs.model.Loops.{each, run, upto}
use Rattle.words.specs.Members.{first, count, some}
use Rattle.words.specs.Listing.{members}
use Rattle.words.specs.Sums.{sum, maximum}
use Rattle.words.specs.Tables.{table}
use Rattle.order.specs.Stored.{row, put_row, row_table, cells, number_of, set_of}
use Rattle.order.specs.Rows.{grow, arcs_from, arcs_in}
use Rattle.order.specs.Orders.{extended, order_of, order_in, joined_rows, after_rows}
use Rattle.records.specs.Records.{bytes, overload_record}
use Rattle.plan.specs.Causes.{answer_of}
use Rattle.records.specs.Bytes.{field}
use Rattle.plan.specs.Meaning.{wait_up_to, job_wait, extra_wait}
use Rattle.plan.specs.declared.Plan.{Plan}
use Rattle.schedule.specs.Starts.{asked, rounds, earliest_of, end_of}
use Rattle.schedule.specs.Checks.{broken_to, broken_from, lowest_kind, last_finish, quiet, first_period, check_of}
use Rattle.schedule.specs.Lists.{at}
use Rattle.schedule.specs.model.Arrays.{starts_of, crew_net, work_of}
use Rattle.flow_math.specs.Heaviest.{heaviest, need_of}
use Rattle.flow_math.specs.Crew.{occupied}
use Rattle.solver.specs.model.Search.{advance}
use Rattle.order.specs.model.Places.{nonzero}
use Rattle.solver.specs.model.Network.{giver, joined, shifted, handing}
use Rattle.solver.specs.model.Solve.{blanks, blank_rows, ranked, started, rounded, solved}
use Rattle.solver.specs.model.Quote.{unused, copied, outcome, amount, quote_in}
use Rattle.kinds.specs.Needs.{demands_for}
use Rattle.planner.specs.Faults.{Fault, or_cause, or_short}
use Rattle.planner.specs.Results.{CrewChecked}
use Rattle.planner.specs.Answers.{unread_numbers, verdict_numbers, output_numbers, crew_check_numbers}
use Rattle.planner.specs.Open.{rows_for, fault_of}
use Rattle.planner.specs.Output.{output_of, lent_after}
use Rattle.planner.specs.Need.{need_for, over_kind, is_overloaded, over_cause, or_overloaded}
use Rattle.planner.specs.Times.{arc_weight}
use Rattle.planner.specs.Verdict.{verdict_fault, verdict_of}
use Rattle.planner.specs.Needs.{needs_fault, need_numbers, needs_out}
use Rattle.planner.specs.Starts.{starts_fault, starts_out, start_numbers, with_end}
use Rattle.planner.specs.Overload.{overload_fault, over_count, over_bytes, overload_out}
use Rattle.planner.specs.CrewCheck.{some_misworked, bad_lists, crew_check_fault, crew_found, checked_of}
use Rattle.plan.specs.declared.Cause.{Cause as Unread}
use Rattle.planner.specs.declared.Cause.TheVariants.{Lists}
use Rattle.promises.specs.Ours.{ours}
use Rattle.promises.specs.Cases.{Cases, plan_g, plan_a_pasted, plan_a_spare, plan_e_pasted, plan_c_thrice, plan_a_wait_pasted, plan_a_wait_spare}
use Rattle.promises.proofs.RefusalsHold.{unreadables}
use Rattle.promises.proofs.CasePlans.{OpenedAs, all_opened, all_refused, opened_as}
use Rattle.promises.proofs.CaseFlows.{all_flows}

-- ---- what ours says of a file that is opened so

-- the starts of a plan, by the arcs of its file, and the end
abbrev starting : List ℕ → Plan → List ℕ
starting s q =
    let starts = starts_of (rows_for q) (arc_weight s (at q.duration)) in
    with_end q.count starts (end_of q.count (at starts) (at q.duration))

abbrev checking : List ℕ → Plan → Fault → List ℕ → List ℕ → CrewChecked
checking s q f starts worked =
    checked_of (or_cause f (bad_lists q.count q.duration starts worked) (Lists q.count))
    (check_of (crew_net (rows_for q) (arc_weight s (at worked)) starts) (work_of q.demand q.available starts worked))

module _ {s : List ℕ} {q : Plan} {f : Fault} (o : OpenedAs s q f) where
  verdict_as : verdict_numbers (ours.verdict s) ≡ verdict_numbers (verdict_of (or_overloaded f q) q.count q.kinds)
  unfolding verdict_fault fault_of
  verdict_as = opened_as (λ p g. verdict_numbers (verdict_of (or_overloaded g p) p.count p.kinds)) o

  needs_as : (n : ℕ) → output_numbers (ours.needs.answer s n) ≡ output_numbers (output_of (or_short f n q.kinds) q.kinds)
  unfolding needs_fault
  needs_as n = opened_as (λ p g. output_numbers (output_of (or_short g n p.kinds) p.kinds)) o

  pub needs_left : (out : List ℕ) → ours.needs.left s out ≡ lent_after (or_short f (length out) q.kinds) (table q.kinds (need_for q)) out
  unfolding needs_fault need_numbers needs_out
  needs_left out = opened_as (λ p g. lent_after (or_short g (length out) p.kinds) (table p.kinds (need_for p)) out) o

  starts_as : (n : ℕ) → output_numbers (ours.starts.answer s n) ≡ output_numbers (output_of (or_short f n (q.count + 1)) (q.count + 1))
  unfolding starts_fault
  starts_as n = opened_as (λ p g. output_numbers (output_of (or_short g n (p.count + 1)) (p.count + 1))) o

  starts_left : (out : List ℕ) → ours.starts.left s out ≡ lent_after (or_short f (length out) (q.count + 1)) (starting s q) out
  unfolding starts_fault start_numbers starts_out
  starts_left out = opened_as (λ p g. lent_after (or_short g (length out) (p.count + 1)) (starting s p) out) o

  overload_as : (n : ℕ) → output_numbers (ours.overload.answer s n) ≡ output_numbers (output_of (or_short f n 24) (over_count q))
  unfolding overload_fault
  overload_as n = opened_as (λ p g. output_numbers (output_of (or_short g n 24) (over_count p))) o

  overload_left : (out : List ℕ) → ours.overload.left s out ≡ lent_after (or_short f (length out) 24) (over_bytes q) out
  unfolding overload_fault overload_out
  overload_left out = opened_as (λ p g. lent_after (or_short g (length out) 24) (over_bytes p) out) o

  crew_as : (starts worked : List ℕ) → crew_check_numbers (ours.crew_check s starts worked) ≡ crew_check_numbers (checking s q f starts worked)
  unfolding crew_check_fault crew_found
  crew_as starts worked = opened_as (λ p g. crew_check_numbers (checking s p g starts worked)) o

-- and of one that is refused
verdict_refused : (s : List ℕ) {u : Unread} → answer_of s ≡ Err u → verdict_numbers (ours.verdict s) ≡ unread_numbers u
verdict_refused s {u} e = ((unreadables s).every u e).verdict

pub cases : Cases ours
unfolding field wait_up_to job_wait extra_wait row put_row row_table cells number_of set_of digit bit each run upto first some members count sum maximum table grow arcs_from arcs_in extended order_of order_in joined_rows after_rows bytes overload_record asked rounds earliest_of end_of broken_to broken_from occupied lowest_kind last_finish quiet first_period check_of starts_of heaviest need_of advance giver nonzero joined shifted handing blanks blank_rows ranked started rounded solved unused copied outcome amount quote_in demands_for lent_after need_for over_kind is_overloaded over_cause with_end over_count over_bytes some_misworked bad_lists
cases =
    record {
      a_accepted = verdict_as all_opened.a;
      a_need = needs_left all_opened.a (9 ∷ 9 ∷ []);
      b_overloaded = verdict_as all_opened.b;
      b_need = needs_left all_opened.b (9 ∷ []);
      c_overloaded = verdict_as all_opened.c;
      c_need = needs_left all_opened.c (9 ∷ []);
      c_record = overload_left all_opened.c (replicate 25 9);
      d_accepted = verdict_as all_opened.d;
      d_need = needs_left all_opened.d (9 ∷ []);
      d_none = overload_as all_opened.d 24;
      e_extra = verdict_as all_opened.e;
      e_job = verdict_as all_opened.e_job;
      e_starts = starts_as all_opened.e 5;
      e_needs = needs_as all_opened.e_job 0;
      f_accepted = verdict_as all_opened.f4;
      f_overloaded = verdict_as all_opened.f5;
      a_starts = starts_left all_opened.a (9 ∷ 9 ∷ 9 ∷ 9 ∷ 9 ∷ 9 ∷ []);
      a_short = starts_as all_opened.a 4;
      a_fits = crew_as all_opened.a (0 ∷ 1 ∷ 0 ∷ 3 ∷ []) (1 ∷ 2 ∷ 3 ∷ 1 ∷ []);
      a_breaks = crew_as all_opened.a (0 ∷ 1 ∷ 0 ∷ 2 ∷ []) (1 ∷ 2 ∷ 3 ∷ 1 ∷ []);
      a_idle = crew_as all_opened.a (0 ∷ 1 ∷ 0 ∷ 2 ∷ []) (1 ∷ 2 ∷ 0 ∷ 1 ∷ []);
      c_at_once = crew_as all_opened.c (0 ∷ 0 ∷ 0 ∷ 0 ∷ []) (1 ∷ 1 ∷ 1 ∷ 1 ∷ []);
      c_two_by_two = crew_as all_opened.c (0 ∷ 0 ∷ 1 ∷ 1 ∷ []) (1 ∷ 1 ∷ 1 ∷ 1 ∷ []);
      c_longer = crew_as all_opened.c (0 ∷ 0 ∷ 1 ∷ 1 ∷ []) (2 ∷ 2 ∷ 1 ∷ 1 ∷ []);
      c_false_turn = crew_as all_opened.c (0 ∷ 0 ∷ 2 ∷ 1 ∷ []) (1 ∷ 2 ∷ 3 ∷ 1 ∷ []);
      g_read = verdict_as all_opened.g;
      g_refused = verdict_refused (plan_g 1) all_refused.g;
      h_accepted = verdict_as all_opened.h;
      h_need = needs_left all_opened.h (9 ∷ []);
      h_starts = starts_left all_opened.h (9 ∷ 9 ∷ 9 ∷ 9 ∷ 9 ∷ 9 ∷ 9 ∷ []);
      h_fits = crew_as all_opened.h (0 ∷ 0 ∷ 2 ∷ 2 ∷ 2 ∷ []) (1 ∷ 2 ∷ 0 ∷ 3 ∷ 1 ∷ []);
      h_worked = crew_as all_opened.h (0 ∷ 0 ∷ 2 ∷ 3 ∷ 3 ∷ []) (1 ∷ 2 ∷ 1 ∷ 3 ∷ 1 ∷ []);
      h_idle = crew_as all_opened.h (0 ∷ 0 ∷ 2 ∷ 2 ∷ 2 ∷ []) (1 ∷ 0 ∷ 0 ∷ 3 ∷ 1 ∷ []);
      a_both = verdict_as all_opened.a_both;
      a_pasted = verdict_refused plan_a_pasted all_refused.a_pasted;
      a_spare = verdict_refused plan_a_spare all_refused.a_spare;
      e_pasted = verdict_refused plan_e_pasted all_refused.e_pasted;
      c_thrice = verdict_refused plan_c_thrice all_refused.c_thrice;
      w_accepted = verdict_as all_opened.w;
      w_need = needs_left all_opened.w (9 ∷ []);
      w_starts = starts_left all_opened.w (9 ∷ 9 ∷ 9 ∷ 9 ∷ 9 ∷ 9 ∷ []);
      w_fits = crew_as all_opened.w (0 ∷ 4 ∷ 0 ∷ 6 ∷ []) (1 ∷ 2 ∷ 3 ∷ 1 ∷ []);
      w_breaks = crew_as all_opened.w (0 ∷ 3 ∷ 0 ∷ 6 ∷ []) (1 ∷ 2 ∷ 3 ∷ 1 ∷ []);
      w_job_starts = starts_left all_opened.w_job (9 ∷ 9 ∷ 9 ∷ 9 ∷ 9 ∷ []);
      w_extra_starts = starts_left all_opened.w_extra (9 ∷ 9 ∷ 9 ∷ 9 ∷ 9 ∷ []);
      w_extra_breaks = crew_as all_opened.w_extra (0 ∷ 256 ∷ 0 ∷ 259 ∷ []) (1 ∷ 2 ∷ 3 ∷ 1 ∷ []);
      w_spare = verdict_refused plan_a_wait_spare all_refused.w_spare;
      w_pasted = verdict_refused plan_a_wait_pasted all_refused.w_pasted;
      a_flow = all_flows.a;
      i_job = all_flows.i_job;
      i_extra = all_flows.i_extra;
      i_both = all_flows.i_both;
    }
