-- The plans A to I and what is made of them, opened: what their bytes are read as, and which fault they have. Each is
-- computed once, here; what an operation makes of a plan goes by these two alone (`opened_as`).
use mathlib.Core.Path.{◌≡◌, refl, ap, ◌∙◌}
use mathlib.Core.List.{List, [], ◌∷◌, ◌++◌}
use Prim.Native.Nat.{ℕ, ◌-◌, ◌*◌}
use lib.ListN.{length, get_or, replicate}
use Rattle.std.specs.Prelude.{Ok, Err}
use Rattle.words.specs.Bits.{digit, bit}
use Rattle.words.specs.Members.{first, some}
use Rattle.words.specs.Tables.{table}
use Rattle.order.specs.Stored.{elements, row, put_row, row_table, cells}
use Rattle.order.specs.Rows.{grow, arcs_from, arcs_in, circle_in}
use Rattle.order.specs.Orders.{extended, circle_of, order_of, order_in, joined_rows}
use Rattle.records.specs.Bytes.{field, zeros}
use Rattle.plan.specs.Records.{leading, activity_fields, demands_some, crew_fields, arc_fields, arc_repeats, demands_of}
use Rattle.plan.specs.Meaning.{file_duration, file_demand, file_kinds, file_available}
use Rattle.plan.specs.model.ArcRows.{with_arc, picked_up_to}
use Rattle.plan.specs.model.Plans.{durations_of, demand_table, available_of, plan_of}
use Rattle.plan.specs.Causes.{rule, activity_cause, crew_cause, arc_cause, cause_at, first_refusal, records_cause, is_length, answer_of, is_readable}
use Rattle.plan.specs.declared.Plan.{Plan}
use Rattle.plan.specs.declared.Cause.TheVariants.{MilestoneDemand, Spare, RepeatedArc}
use Rattle.planner.specs.Faults.{Fault}
use Rattle.planner.specs.Open.{plan_in, order_for, read_fault, or_circles, fault_of}
use Rattle.planner.specs.declared.Cause.TheVariants.{JobCircle, PlanCircle}
use Rattle.planner.proofs.OpenLaws.{plan_in_lem}
use Rattle.promises.specs.Cases.{plan_a, plan_b, plan_c, plan_d, plan_e, plan_e_job, plan_f, plan_g, plan_h, plan_a_both, plan_a_pasted, plan_a_spare, plan_e_pasted, plan_c_thrice, plan_a_wait, plan_a_job_waits, plan_a_extra_waits, plan_a_wait_pasted, plan_a_wait_spare, plan_i_job, plan_i_extra, plan_i_both}

-- ---- the plans as tables

-- n numbers: these, and 0 from there on
abbrev padded : ℕ → List ℕ → List ℕ
padded n xs = xs ++ replicate (n - length xs) 0

-- a plan of one kind: how many are available, durations, demands, and the sets that its rows of job arcs and of extra arcs are
abbrev plan_on : ℕ → List ℕ → List ℕ → List ℕ → List ℕ → Plan
plan_on available duration demand job extra =
    record {
      count = length duration;
      kinds = 1;
      duration = padded elements duration;
      demand = padded (8 * elements) demand;
      available = padded 8 (available ∷ []);
      job = row_table elements (λ i. get_or job i 0);
      extra = row_table elements (λ i. get_or extra i 0);
    }

-- with 4 available
abbrev plan_with : List ℕ → List ℕ → List ℕ → List ℕ → Plan
plan_with = plan_on 4

-- the plans A to E
abbrev four_with : List ℕ → List ℕ → Plan
four_with job extra = plan_with (1 ∷ 2 ∷ 3 ∷ 1 ∷ []) (2 ∷ 2 ∷ 2 ∷ 2 ∷ []) job extra

abbrev pub in_a : Plan
in_a = four_with [] (2 ∷ 8 ∷ [])

abbrev pub in_a_both : Plan
in_a_both = four_with (2 ∷ []) (2 ∷ 8 ∷ [])

abbrev pub in_b : Plan
in_b = four_with [] (14 ∷ [])

abbrev pub in_c : Plan
in_c = four_with [] []

abbrev pub in_d : Plan
in_d = four_with [] (12 ∷ 12 ∷ [])

abbrev pub in_e : Plan
in_e = four_with [] (2 ∷ 1 ∷ [])

abbrev pub in_e_job : Plan
in_e_job = four_with (2 ∷ 1 ∷ []) []

abbrev pub in_f : ℕ → Plan
in_f demand = plan_with (1 ∷ []) (demand ∷ []) [] []

abbrev pub in_g : Plan
in_g = plan_with (0 ∷ []) [] [] []

abbrev pub in_h : Plan
in_h = plan_with (1 ∷ 2 ∷ 0 ∷ 3 ∷ 1 ∷ []) (2 ∷ 2 ∷ 0 ∷ 2 ∷ 2 ∷ []) [] (4 ∷ 4 ∷ 24 ∷ [])

-- the plans I
abbrev three_with : List ℕ → List ℕ → Plan
three_with job extra = plan_on 2 (1 ∷ 1 ∷ 1 ∷ []) (2 ∷ 0 ∷ 2 ∷ []) job extra

abbrev pub in_i_job : Plan
in_i_job = three_with (2 ∷ 4 ∷ []) []

abbrev pub in_i_extra : Plan
in_i_extra = three_with (2 ∷ []) (0 ∷ 4 ∷ [])

abbrev pub in_i_both : Plan
in_i_both = three_with (2 ∷ 4 ∷ []) (4 ∷ [])

-- ---- so they are read

-- (its answer and its plan apart: `read_of` would have the answer computed twice)
record Reads (s : List ℕ) (q : Plan) : Type 0 where
  answers : answer_of s ≡ Ok tt
  says : plan_of s ≡ q

record AllRead : Type 0 where
  a : Reads plan_a in_a
  a_both : Reads plan_a_both in_a_both
  b : Reads plan_b in_b
  c : Reads plan_c in_c
  d : Reads plan_d in_d
  e : Reads plan_e in_e
  e_job : Reads plan_e_job in_e_job
  f4 : Reads (plan_f 4) (in_f 4)
  f5 : Reads (plan_f 5) (in_f 5)
  g : Reads (plan_g 0) in_g
  h : Reads plan_h in_h
  w : Reads plan_a_wait in_a
  w_job : Reads plan_a_job_waits in_a_both
  w_extra : Reads plan_a_extra_waits in_a_both
  i_job : Reads plan_i_job in_i_job
  i_extra : Reads plan_i_extra in_i_extra
  i_both : Reads plan_i_both in_i_both

all_read : AllRead
unfolding digit bit first some table row put_row row_table cells field zeros leading activity_fields demands_some crew_fields arc_fields arc_repeats demands_of file_duration file_demand file_kinds file_available with_arc picked_up_to durations_of demand_table available_of plan_of rule activity_cause crew_cause arc_cause cause_at first_refusal records_cause is_length answer_of
all_read =
    record {
      a = record { answers = refl; says = refl };
      a_both = record { answers = refl; says = refl };
      b = record { answers = refl; says = refl };
      c = record { answers = refl; says = refl };
      d = record { answers = refl; says = refl };
      e = record { answers = refl; says = refl };
      e_job = record { answers = refl; says = refl };
      f4 = record { answers = refl; says = refl };
      f5 = record { answers = refl; says = refl };
      g = record { answers = refl; says = refl };
      h = record { answers = refl; says = refl };
      w = record { answers = refl; says = refl };
      w_job = record { answers = refl; says = refl };
      w_extra = record { answers = refl; says = refl };
      i_job = record { answers = refl; says = refl };
      i_extra = record { answers = refl; says = refl };
      i_both = record { answers = refl; says = refl };
    }

-- and these are not
pub record AllRefused : Type 0 where
  pub g : answer_of (plan_g 1) ≡ Err (MilestoneDemand 0)
  pub a_pasted : answer_of plan_a_pasted ≡ Err (RepeatedArc 7)
  pub a_spare : answer_of plan_a_spare ≡ Err (Spare 7)
  pub e_pasted : answer_of plan_e_pasted ≡ Err (RepeatedArc 7)
  pub c_thrice : answer_of plan_c_thrice ≡ Err (RepeatedArc 6)
  pub w_pasted : answer_of plan_a_wait_pasted ≡ Err (RepeatedArc 7)
  pub w_spare : answer_of plan_a_wait_spare ≡ Err (Spare 7)

pub all_refused : AllRefused
unfolding first some table field zeros leading activity_fields demands_some crew_fields arc_fields arc_repeats demands_of rule activity_cause crew_cause arc_cause cause_at first_refusal records_cause is_length answer_of
all_refused = record { g = refl; a_pasted = refl; a_spare = refl; e_pasted = refl; c_thrice = refl; w_pasted = refl; w_spare = refl }

-- ---- and so they are opened

-- the plan and the fault of a file
pub record OpenedAs (s : List ℕ) (q : Plan) (f : Fault) : Type 0 where
  pub plan : plan_in s ≡ q
  pub fault : fault_of s ≡ f

reads_as : {s : List ℕ} {q : Plan} {f : Fault} → Reads s q → or_circles (Ok tt) (order_in q.job) (order_for q) ≡ f → OpenedAs s q f
unfolding fault_of read_fault
reads_as {s} {q} r e =
    let plan : plan_in s ≡ q = plan_in_lem s (ap is_readable r.answers) ∙ r.says in
    record { plan = plan; fault = rw (r.answers, plan) e }

pub record AllOpened : Type 0 where
  pub a : OpenedAs plan_a in_a (Ok tt)
  pub a_both : OpenedAs plan_a_both in_a_both (Ok tt)
  pub b : OpenedAs plan_b in_b (Ok tt)
  pub c : OpenedAs plan_c in_c (Ok tt)
  pub d : OpenedAs plan_d in_d (Ok tt)
  pub e : OpenedAs plan_e in_e (Err (PlanCircle 1))
  pub e_job : OpenedAs plan_e_job in_e_job (Err (JobCircle 1))
  pub f4 : OpenedAs (plan_f 4) (in_f 4) (Ok tt)
  pub f5 : OpenedAs (plan_f 5) (in_f 5) (Ok tt)
  pub g : OpenedAs (plan_g 0) in_g (Ok tt)
  pub h : OpenedAs plan_h in_h (Ok tt)
  pub w : OpenedAs plan_a_wait in_a (Ok tt)
  pub w_job : OpenedAs plan_a_job_waits in_a_both (Ok tt)
  pub w_extra : OpenedAs plan_a_extra_waits in_a_both (Ok tt)
  pub i_job : OpenedAs plan_i_job in_i_job (Ok tt)
  pub i_extra : OpenedAs plan_i_extra in_i_extra (Ok tt)
  pub i_both : OpenedAs plan_i_both in_i_both (Ok tt)

pub all_opened : AllOpened
unfolding digit bit first table row row_table cells grow arcs_from arcs_in circle_in extended circle_of order_of order_in joined_rows
all_opened =
    record {
      a = reads_as all_read.a refl;
      a_both = reads_as all_read.a_both refl;
      b = reads_as all_read.b refl;
      c = reads_as all_read.c refl;
      d = reads_as all_read.d refl;
      e = reads_as all_read.e refl;
      e_job = reads_as all_read.e_job refl;
      f4 = reads_as all_read.f4 refl;
      f5 = reads_as all_read.f5 refl;
      g = reads_as all_read.g refl;
      h = reads_as all_read.h refl;
      w = reads_as all_read.w refl;
      w_job = reads_as all_read.w_job refl;
      w_extra = reads_as all_read.w_extra refl;
      i_job = reads_as all_read.i_job refl;
      i_extra = reads_as all_read.i_extra refl;
      i_both = reads_as all_read.i_both refl;
    }

-- what goes by the plan and the fault of a file
pub opened_as : {A : Type 0} {s : List ℕ} {q : Plan} {f : Fault} (of : Plan → Fault → A) → OpenedAs s q f → of (plan_in s) (fault_of s) ≡ of q f
opened_as {s = s} {q = q} of o = ap (λ (x : Plan). of x (fault_of s)) o.plan ∙ ap (λ (x : Fault). of q x) o.fault
