-- The cases of Trim, by computation: pair after pair, those that are no extra arc of the plan passed over, and each
-- extra arc by the plan without it.
use mathlib.Core.Path.{◌≡◌, refl, ap, ◌∙◌}
use mathlib.Core.Bool.{Bool, false, cond, ◌&&◌}
use mathlib.Core.List.{List, [], ◌∷◌}
use Prim.Native.Nat.{ℕ, zero, suc, ◌+◌, ◌*◌, ◌<◌}
use native.Mathlib.Nat.{add-zero, add-suc}
use native.Mathlib.Omega.{arith}
use lib.Dec.{eqb}
use lib.ListN.{length, get_or, replicate}
use Rattle.words.specs.Bits.{digit, bit}
use Rattle.words.specs.Members.{first, some, count}
use Rattle.words.specs.Tables.{table}
use Rattle.words.proofs.Firsts.{some_here}
use Rattle.words.proofs.Tests.{fails, clash, cond_false}
use Rattle.order.specs.Stored.{elements, row, put_row, row_table, cells, number_of, set_of}
use Rattle.order.specs.Rows.{after, grow, arcs_from, arcs_in, circle_in}
use Rattle.order.specs.Orders.{extended, circle_of, order_of, order_in, joined_rows, without_arc}
use Rattle.records.specs.Bytes.{field}
use Rattle.records.specs.Records.{joined}
use Rattle.plan.specs.Records.{record_count}
use Rattle.plan.specs.Meaning.{extra_wait, wait_up_to}
use Rattle.plan.specs.Filtered.{filtered}
use Rattle.plan.specs.model.ArcRows.{stays_by}
use Rattle.plan.specs.model.Plans.{with_extra}
use Rattle.plan.specs.declared.Plan.{Plan}
use Rattle.flow_math.specs.Heaviest.{heaviest, need_of}
use Rattle.kinds.specs.Needs.{demands_for}
use Rattle.planner.specs.Faults.{Fault, or_short}
use Rattle.planner.specs.Open.{plan_in}
use Rattle.planner.specs.Need.{need_for, over_kind, is_overloaded, over_cause, or_overloaded}
use Rattle.planner.specs.Output.{output_of, lent_after}
use Rattle.planner.specs.Answers.{output_numbers}
use Rattle.planner.specs.Verdict.{is_accepted}
use Rattle.planner.specs.Trim.{pair_from, pair_to, may_go, trim_step, trim_up_to, trimmed_rows, trimmed_file, trim_fault, trim_out}
use Rattle.promises.specs.Ours.{our_trim}
use Rattle.promises.specs.Cases.{plan_d, plan_a_both, plan_a_job_waits, TrimCases}
use Rattle.promises.proofs.CasePlans.{in_a_both, in_d, OpenedAs, all_opened}

module _ (s : List ℕ) (q : Plan) where
  -- the pair x is an extra arc of the plan
  abbrev drawn : ℕ → Bool
  drawn x = after q.extra (pair_from x) (pair_to x)

  -- what becomes of pair x, by the plan
  abbrev turned : ℕ → List ℕ → List ℕ
  turned x rows =
      let less = without_arc rows (pair_from x) (pair_to x) in
      cond ((drawn x && eqb (extra_wait s (pair_from x) (pair_to x)) 0) && is_accepted (with_extra q less)) less rows

module _ (s : List ℕ) (q : Plan) (e : plan_in s ≡ q) where
  step_is : (x : ℕ) (rows : List ℕ) → trim_step s x rows ≡ turned s q x rows
  unfolding trim_step may_go
  step_is x rows = rw e

  -- the next pair, from rows to rows
  next : (x : ℕ) {rows left : List ℕ} → trim_up_to s x ≡ rows → turned s q x rows ≡ left → trim_up_to s (suc x) ≡ left
  unfolding trim_up_to
  next x {rows} h t = ap (trim_step s x) h ∙ step_is x rows ∙ t

  -- n pairs that are none
  past : (a n : ℕ) → some n (λ k. drawn s q (a + k)) ≡ false → trim_up_to s (a + n) ≡ trim_up_to s a
  past a n none = go n (λ k l. fails (drawn s q (a + k)) (λ t. clash (some_here n (λ k. drawn s q (a + k)) k l t) none))
    where
      go : (k : ℕ) → ((i : ℕ) → i < k → drawn s q (a + i) ≡ false) → trim_up_to s (a + k) ≡ trim_up_to s a
      go zero h = ap (trim_up_to s) (add-zero a)
      go (suc k) h =
          ap (trim_up_to s) (add-suc a k)
          ∙ next (a + k) (go k (λ i l. h i (omega arith)))
          (cond_false (without_arc (trim_up_to s a) (pair_from (a + k)) (pair_to (a + k))) (trim_up_to s a)
          (ap (λ (b : Bool). (b && eqb (extra_wait s (pair_from (a + k)) (pair_to (a + k))) 0) && is_accepted (with_extra q (without_arc (trim_up_to s a) (pair_from (a + k)) (pair_to (a + k))))) (h k (omega arith))))

  begin : trim_up_to s 0 ≡ q.extra
  unfolding trim_up_to
  begin = ap (λ (x : Plan). x.extra) e

-- rows of four elements
abbrev four : List ℕ → List ℕ
four sets = row_table elements (λ i. get_or sets i 0)

-- ---- the rows that are left

d_rows : trimmed_rows plan_d ≡ four (8 ∷ 4 ∷ [])
unfolding trimmed_rows digit bit first some count table row put_row row_table cells number_of set_of grow arcs_from arcs_in circle_in extended circle_of order_of order_in joined_rows without_arc field extra_wait wait_up_to heaviest need_of demands_for need_for over_kind is_overloaded over_cause is_accepted
d_rows =
    let e : plan_in plan_d ≡ in_d = all_opened.d.plan in
    let a : trim_up_to plan_d 3 ≡ four (8 ∷ 12 ∷ []) = next plan_d in_d e 2 (past plan_d in_d e 0 2 refl ∙ begin plan_d in_d e) refl in
    let b : trim_up_to plan_d 4 ≡ four (8 ∷ 12 ∷ []) = next plan_d in_d e 3 a refl in
    let c : trim_up_to plan_d 67 ≡ four (8 ∷ 12 ∷ []) = next plan_d in_d e 66 (past plan_d in_d e 4 62 refl ∙ b) refl in
    let d : trim_up_to plan_d 68 ≡ four (8 ∷ 4 ∷ []) = next plan_d in_d e 67 c refl in
    ap (λ (x : Plan). trim_up_to plan_d (elements * x.count)) e ∙ past plan_d in_d e 68 188 refl ∙ d

both_rows : trimmed_rows plan_a_both ≡ four (0 ∷ 8 ∷ [])
unfolding trimmed_rows digit bit first some count table row put_row row_table cells number_of set_of grow arcs_from arcs_in circle_in extended circle_of order_of order_in joined_rows without_arc field extra_wait wait_up_to heaviest need_of demands_for need_for over_kind is_overloaded over_cause is_accepted
both_rows =
    let e : plan_in plan_a_both ≡ in_a_both = all_opened.a_both.plan in
    let a : trim_up_to plan_a_both 2 ≡ four (0 ∷ 8 ∷ []) = next plan_a_both in_a_both e 1 (past plan_a_both in_a_both e 0 1 refl ∙ begin plan_a_both in_a_both e) refl in
    let b : trim_up_to plan_a_both 68 ≡ four (0 ∷ 8 ∷ []) = next plan_a_both in_a_both e 67 (past plan_a_both in_a_both e 2 65 refl ∙ a) refl in
    ap (λ (x : Plan). trim_up_to plan_a_both (elements * x.count)) e ∙ past plan_a_both in_a_both e 68 188 refl ∙ b

wait_rows : trimmed_rows plan_a_job_waits ≡ four (2 ∷ 8 ∷ [])
unfolding trimmed_rows digit bit first some count table row put_row row_table cells number_of set_of grow arcs_from arcs_in circle_in extended circle_of order_of order_in joined_rows without_arc field extra_wait wait_up_to heaviest need_of demands_for need_for over_kind is_overloaded over_cause is_accepted
wait_rows =
    let e : plan_in plan_a_job_waits ≡ in_a_both = all_opened.w_job.plan in
    let a : trim_up_to plan_a_job_waits 2 ≡ four (2 ∷ 8 ∷ []) = next plan_a_job_waits in_a_both e 1 (past plan_a_job_waits in_a_both e 0 1 refl ∙ begin plan_a_job_waits in_a_both e) refl in
    let b : trim_up_to plan_a_job_waits 68 ≡ four (2 ∷ 8 ∷ []) = next plan_a_job_waits in_a_both e 67 (past plan_a_job_waits in_a_both e 2 65 refl ∙ a) refl in
    ap (λ (x : Plan). trim_up_to plan_a_job_waits (elements * x.count)) e ∙ past plan_a_job_waits in_a_both e 68 188 refl ∙ b

-- ---- what is answered and left, by the plan and the rows

module _ {s : List ℕ} {q : Plan} {f : Fault} (o : OpenedAs s q f) where
  answer_as : (n : ℕ) → output_numbers (our_trim.answer s n) ≡ output_numbers (output_of (or_overloaded (or_short f n (length s)) q) (record_count (trimmed_file s)))
  unfolding trim_fault
  answer_as n = rw (o.fault, o.plan)

  module _ {rows : List ℕ} (r : trimmed_rows s ≡ rows) where
    count_as : (n : ℕ) → output_numbers (our_trim.answer s n) ≡ output_numbers (output_of (or_overloaded (or_short f n (length s)) q) (record_count (filtered (stays_by rows s) s)))
    unfolding trimmed_file
    count_as n = answer_as n ∙ ap (λ (x : List ℕ). output_numbers (output_of (or_overloaded (or_short f n (length s)) q) (record_count (filtered (stays_by x s) s)))) r

    left_as : (out : List ℕ) → our_trim.left s out ≡ lent_after (or_overloaded (or_short f (length out) (length s)) q) (filtered (stays_by rows s) s) out
    unfolding trim_fault trim_out trimmed_file
    left_as out = rw (o.fault, o.plan, r)

pub trim_cases : TrimCases our_trim
unfolding digit bit first some count table row row_table cells number_of set_of grow arcs_from arcs_in extended order_of order_in joined_rows joined filtered heaviest need_of demands_for need_for over_kind is_overloaded over_cause lent_after
trim_cases =
    record {
      d_count = count_as all_opened.d d_rows 216;
      d_left = left_as all_opened.d d_rows (replicate 216 9);
      both_left = left_as all_opened.a_both both_rows (replicate 192 9);
      wait_left = left_as all_opened.w_job wait_rows (replicate 192 9);
      d_short = answer_as all_opened.d 215;
      e_circle = answer_as all_opened.e 0;
      b_short = answer_as all_opened.b 191;
    }
