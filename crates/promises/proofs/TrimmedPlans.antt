-- A file without some of its extra arcs of wait 0: what it says, and, of the trimmed one, why its arcs stay.
use mathlib.Core.Path.{◌≡◌, refl, sym, ap, ap₂, ◌∙◌}
use mathlib.Core.Bool.{Bool, true, false, not, ◌&&◌, and-false}
use mathlib.Core.List.{List}
use mathlib.Core.Logic.{◌↔◌}
use Prim.Native.Nat.{ℕ, ◌*◌, ◌<◌}
use native.Mathlib.Omega.{arith}
use lib.Dec.{eqb}
use borrow.Author.Tests.{eq-eqb, eqb-true}
use Rattle.words.proofs.Tests.{by_test, fails, holds, clash, and_says, and_both, not_of_false, false_of_not}
use Rattle.records.specs.Bytes.{AreBytes}
use Rattle.order.specs.Stored.{elements}
use Rattle.order.specs.Rows.{after}
use Rattle.order.specs.Orders.{without_arc}
use Rattle.order.proofs.Lacking.{after_without}
use Rattle.plan.specs.Meaning.{Readable, JobArc, ExtraArc, job_wait, extra_wait}
use Rattle.plan.specs.Filtered.{Selected, filtered}
use Rattle.plan.specs.model.ArcRows.{arc_rows, stays_by}
use Rattle.plan.proofs.NamedArcs.{all_named}
use Rattle.plan.proofs.Said.{readable_faultless}
use Rattle.plan.proofs.Waits.{no_job_wait}
use Rattle.plan.proofs.Selected.{selected_count, selected_kinds, selected_duration, selected_demand, selected_available, selected_job_wait, selected_extra_wait}
use Rattle.plan.proofs.Filtered.{filtered_selected, stays_arcs, stays_job, stays_extra}
use Rattle.planner.specs.Open.{plan_in, Opens}
use Rattle.planner.specs.Trim.{pair_from, pair_to, may_go, trim_up_to}
use Rattle.planner.proofs.OpenLaws.{count_few, said_in, opens_readable}
use Rattle.planner.proofs.TrimPairs.{Left, extra_says, left_less, left_at, from_few}
use Rattle.planner.proofs.TrimTurns.{pair_of, rows_less, less_is}
use Rattle.promises.specs.Same.{SameWork}
use Rattle.promises.specs.Trim.{LeavesOut, Gone}

module _ (s : List ℕ) (bytes : AreBytes s) (o : Opens s) where
  readable : Readable s
  readable = opens_readable s o

  -- ---- the file with some of the extra arcs

  module _ (rows : List ℕ) (L : Left s bytes o rows) where
    abbrev t : List ℕ
    t = filtered (stays_by rows s) s

    pub with_selected : Selected s (filtered (stays_by rows s) s)
    with_selected = filtered_selected (stays_by rows s) s readable (stays_arcs s readable rows)

    pub with_extra_lem : (i j : ℕ) → ExtraArc (filtered (stays_by rows s) s) i j ↔ (after rows i j ≡ true)
    with_extra_lem i j =
        let w = stays_extra s readable rows i j in
        ((λ h. (w.0 h).1), (λ h. w.1 ((extra_says s bytes o i j).0 (L.fewer i j h), h)))

    pub with_work : SameWork s (filtered (stays_by rows s) s)
    with_work =
        let S = with_selected in
        record {
          count = sym (selected_count s t readable S);
          duration = λ i l. sym (selected_duration s t readable S i l);
          demand = λ k i h l. sym (selected_demand s t readable S k i h l);
          kinds = sym (selected_kinds s t readable S);
          available = λ k l. sym (selected_available s t readable S k l);
          job = λ i j. ((stays_job s readable rows i j).1, (stays_job s readable rows i j).0);
        }

    -- the job arcs have their waits
    with_jobs : (i j : ℕ) → job_wait s i j ≡ job_wait t i j
    unfolding JobArc
    with_jobs i j =
        let says = all_named s (readable_faultless s readable) 3 (omega arith) i j in
        by_test (after (arc_rows s 3) i j)
        (λ a. sym (selected_job_wait s t readable with_selected i j ((stays_job s readable rows i j).1 (says.0 a))))
        (λ a.
        let none : JobArc s i j → ⊥ = λ h. clash (says.1 h) a in
        no_job_wait s i j none ∙ sym (no_job_wait t i j (λ h. none ((stays_job s readable rows i j).0 h))))

    -- WHERE ALL THAT IS LACKING MAY GO, only extra arcs of wait 0 are left out
    pub with_leaves : ((i j : ℕ) → may_go s i j ≡ false → after (plan_in s).extra i j ≡ true → after rows i j ≡ true) → LeavesOut s (filtered (stays_by rows s) s)
    unfolding may_go
    with_leaves held =
        record {
          work = with_work;
          job_waits = with_jobs;
          fewer = λ i j h. ((stays_extra s readable rows i j).0 h).0;
          waits = λ i j h. sym (selected_extra_wait s t readable with_selected i j h);
          free = λ i j a none.
              let here = (extra_says s bytes o i j).1 a in
              eqb-true (extra_wait s i j) 0
              (holds (eqb (extra_wait s i j) 0) (λ e. none ((with_extra_lem i j).1 (held i j (ap (λ (b : Bool). after (plan_in s).extra i j && b) e ∙ and-false (after (plan_in s).extra i j)) here))));
        }

  -- ---- an extra arc of wait 0, in its turn

  module _ (i j : ℕ) (a : ExtraArc s i j) (z : extra_wait s i j ≡ 0) where
    pub may : may_go s i j ≡ true
    unfolding may_go
    may = and_both (after (plan_in s).extra i j) (eqb (extra_wait s i j) 0) ((extra_says s bytes o i j).1 a) (eq-eqb (extra_wait s i j) 0 z)

    -- its ends are activities
    ends : (i < (plan_in s).count) × (j < (plan_in s).count)
    ends = (said_in s readable).extra.within i j a

    pub to_few : j < elements
    to_few = omega (arith, ends.1, count_few s)

    pub below : pair_of i j < elements * (plan_in s).count
    below = omega (arith, ends.0, to_few)

    abbrev x : ℕ
    x = pair_of i j

    -- the extra arcs of the plan then left
    pub left_then : Left s bytes o (rows_less s bytes o x)
    left_then = left_less s bytes o (trim_up_to s x) (left_at s bytes o x (omega (arith, below))) (pair_from x) (pair_to x) (from_few s bytes o x below)

    -- an arc of the rows so far is one of them, unless it is this one; and the other way round
    pub then_other : (c d : ℕ) → after (trim_up_to s x) c d ≡ true → ((c ≡ i) × (d ≡ j) → ⊥) → after (rows_less s bytes o x) c d ≡ true
    then_other c d t ne =
        less_is s bytes o x below c d
        ∙ and_both (after (trim_up_to s x) c d) (not (eqb c (pair_from x) && eqb d (pair_to x))) t
        (not_of_false (eqb c (pair_from x) && eqb d (pair_to x))
        (fails (eqb c (pair_from x) && eqb d (pair_to x))
        (λ e.
        let w = (and_says (eqb c (pair_from x)) (eqb d (pair_to x))).0 e in
        ne (omega (arith, eqb-true c (pair_from x) w.0, to_few), omega (arith, eqb-true d (pair_to x) w.1, to_few)))))

    pub then_back : (c d : ℕ) → after (rows_less s bytes o x) c d ≡ true → (after (trim_up_to s x) c d ≡ true) × ((c ≡ i) × (d ≡ j) → ⊥)
    then_back c d t =
        let w = (and_says (after (trim_up_to s x) c d) (not (eqb c (pair_from x) && eqb d (pair_to x)))).0 (sym (less_is s bytes o x below c d) ∙ t) in (
          w.0,
          (λ e.
              clash
              (and_both (eqb c (pair_from x)) (eqb d (pair_to x)) (eq-eqb c (pair_from x) (omega (arith, e.0, to_few))) (eq-eqb d (pair_to x) (omega (arith, e.1, to_few))))
              (false_of_not (eqb c (pair_from x) && eqb d (pair_to x)) w.1)),
        )

  -- ---- THE FILE WITHOUT THIS ARC ALONE

  module _ (i j : ℕ) (a : ExtraArc s i j) (z : extra_wait s i j ≡ 0) where
    abbrev pub without_one : List ℕ
    without_one = without_arc (plan_in s).extra i j

    whole : Left s bytes o (plan_in s).extra
    unfolding trim_up_to
    whole = left_at s bytes o 0 (omega arith)

    from_few_one : i < elements
    from_few_one = omega (arith, (ends i j a z).0, count_few s)

    without_is : (c d : ℕ) → after without_one c d ≡ after (plan_in s).extra c d && not (eqb c i && eqb d j)
    without_is = after_without (plan_in s).extra i j whole.long from_few_one

    pub left_one : Left s bytes o (without_arc (plan_in s).extra i j)
    left_one = left_less s bytes o (plan_in s).extra whole i j from_few_one

    pub one_less : LeavesOut s (filtered (stays_by (without_arc (plan_in s).extra i j) s) s) × Gone s (filtered (stays_by (without_arc (plan_in s).extra i j) s) s) i j
    one_less = (
      with_leaves without_one left_one
          (λ c d m t.
          without_is c d
          ∙ and_both (after (plan_in s).extra c d) (not (eqb c i && eqb d j)) t
          (not_of_false (eqb c i && eqb d j)
          (fails (eqb c i && eqb d j) (λ e. let w = (and_says (eqb c i) (eqb d j)).0 e in clash (ap₂ (may_go s) (eqb-true c i w.0) (eqb-true d j w.1) ∙ may i j a z) m)))),
      (
        a,
        (λ h.
            clash ((with_extra_lem without_one left_one i j).0 h)
            (without_is i j
            ∙ ap (λ (b : Bool). after (plan_in s).extra i j && not b) (and_both (eqb i i) (eqb j j) (eq-eqb i i refl) (eq-eqb j j refl))
            ∙ and-false (after (plan_in s).extra i j))),
      ),
    )
