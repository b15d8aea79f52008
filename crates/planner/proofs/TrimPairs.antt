-- Trim, pair by pair: what is left of the extra arcs of an accepted plan is a plan of its own, which a file says, and
-- is accepted; what the code makes of a pair is what the definition says.
use mathlib.Core.Path.{◌≡◌, sym, ap, ◌∙◌, subst}
use mathlib.Core.Bool.{Bool, true, false, cond, ◌&&◌, ◌||◌}
use mathlib.Core.List.{List}
use mathlib.Core.Logic.{inl, inr, ⊎_elim, ◌↔◌}
use Prim.Native.Nat.{ℕ, zero, suc, ◌+◌, ◌*◌, ◌/◌, ◌%◌, ◌≤◌, ◌<◌}
use native.Mathlib.Numerals.{add-one}
use native.Mathlib.Omega.{arith}
use lib.Dec.{eqb}
use lib.ListN.{length}
use borrow.Author.Tests.{eq-eqb, eqb-true}
use Rattle.words.proofs.Tests.{by_test, test_same, and_says, and_left, and_both, cond_true, cond_false}
use Rattle.records.specs.Bytes.{AreBytes}
use Rattle.order.specs.Stored.{elements, cells, RowsFit}
use Rattle.order.specs.Before.{Acyclic}
use Rattle.order.specs.Rows.{after}
use Rattle.order.specs.Orders.{after_rows, Direct, order_in, without_arc, joined_rows}
use Rattle.order.specs.declared.Order.{Order}
use Rattle.order.proofs.Before.{before_map}
use Rattle.order.proofs.Orders.{direct_joined}
use Rattle.order.proofs.Lacking.{length_without, after_without, fit_without}
use Rattle.plan.specs.Records.{record_count}
use Rattle.plan.specs.Meaning.{Readable, ExtraArc, extra_wait}
use Rattle.plan.specs.Filtered.{filtered}
use Rattle.plan.specs.model.ArcRows.{arc_rows, stays_by, free_rows}
use Rattle.plan.specs.model.Plans.{plan_of, with_extra}
use Rattle.plan.specs.declared.Plan.{Plan}
use Rattle.plan.proofs.Arcs.{length_arcs}
use Rattle.plan.proofs.NamedArcs.{all_named, rows_fit}
use Rattle.plan.proofs.Said.{readable_faultless}
use Rattle.plan.proofs.Selected.{selected_readable, selected_bytes}
use Rattle.plan.proofs.Filtered.{filtered_selected, stays_arcs, stays_plan}
use Rattle.plan.proofs.FreeArcs.{free_says}
use Rattle.planner.specs.Open.{plan_in, rows_for, rows_of, order_for, plan_order, Opens}
use Rattle.planner.specs.Verdict.{is_accepted}
use Rattle.planner.specs.Trim.{pair_from, pair_to, may_go, trim_step, trim_up_to, trimmed_rows}
use Rattle.planner.specs.model.Opening.{Fits}
use Rattle.planner.specs.model.Trimming.{follows_in, fits_by, extra_left, OrderHeld}
use Rattle.planner.proofs.OpenLaws.{plan_in_lem, count_few, opens_readable, opens_plan}
use Rattle.planner.proofs.QuotedNeeds.{kinds_few}
use Rattle.planner.proofs.AcceptedLaws.{accepted_fits}
use Rattle.planner.proofs.TrimSteps.{follows_order}

module _ (s : List ℕ) (bytes : AreBytes s) (o : Opens s) where
  abbrev q : Plan
  q = plan_in s

  readable : Readable s
  readable = opens_readable s o

  -- ---- some of the extra arcs, and the file that has no others

  pub record Left (rows : List ℕ) : Type 0 where
    pub long : length rows ≡ cells elements
    pub fit : RowsFit elements rows
    pub fewer : (i j : ℕ) → after rows i j ≡ true → after (plan_in s).extra i j ≡ true

  abbrev pub file_with : List ℕ → List ℕ
  file_with rows = filtered (stays_by rows s) s

  -- the file's own extra arcs, as rows
  pub extra_is : (plan_in s).extra ≡ arc_rows s 4
  unfolding plan_of
  extra_is = ap (λ (x : Plan). x.extra) (plan_in_lem s readable)

  pub extra_says : (i j : ℕ) → (after (plan_in s).extra i j ≡ true) ↔ ExtraArc s i j
  unfolding ExtraArc
  extra_says i j = subst (λ (rows : List ℕ). (after rows i j ≡ true) ↔ ExtraArc s i j) (sym extra_is) (all_named s (readable_faultless s readable) 4 (omega arith) i j)

  all_left : Left (plan_in s).extra
  all_left =
      record {
        long = ap length extra_is ∙ length_arcs s 4 (record_count s);
        fit = subst (RowsFit elements) (sym extra_is) (rows_fit s (readable_faultless s readable) 4 (omega arith));
        fewer = λ i j t. t;
      }

  -- the arcs may go that are free
  pub may_free : (i j : ℕ) → after (free_rows s) i j ≡ may_go s i j
  unfolding may_go
  may_free i j =
      let f = free_says s readable i j in
      let m = and_says (after (plan_in s).extra i j) (eqb (extra_wait s i j) 0) in
      test_same (after (free_rows s) i j) (after (plan_in s).extra i j && eqb (extra_wait s i j) 0) (
        (λ t. m.1 ((extra_says i j).1 (f.0 t).0, eq-eqb (extra_wait s i j) 0 (f.0 t).1)),
        (λ t. f.1 ((extra_says i j).0 (m.0 t).0, eqb-true (extra_wait s i j) 0 (m.0 t).1)),
      )

  module _ (rows : List ℕ) (L : Left rows) where
    pub left_readable : Readable (file_with rows)
    left_readable = selected_readable s (file_with rows) readable (filtered_selected (stays_by rows s) s readable (stays_arcs s readable rows))

    pub left_bytes : AreBytes (file_with rows)
    left_bytes = selected_bytes s (file_with rows) readable (filtered_selected (stays_by rows s) s readable (stays_arcs s readable rows)) bytes

    pub left_plan : plan_in (file_with rows) ≡ with_extra (plan_in s) rows
    left_plan =
        plan_in_lem (file_with rows) left_readable
        ∙ stays_plan s readable rows L.long L.fit (λ i j t. subst (λ (x : List ℕ). after x i j ≡ true) extra_is (L.fewer i j t))
        ∙ ap (λ (x : Plan). with_extra x rows) (sym (plan_in_lem s readable))

    left_fewer : (i j : ℕ) → Direct (joined_rows q.job rows) i j → Direct (rows_of s) i j
    left_fewer i j d =
        (direct_joined q.job q.extra i j).1
        (⊎_elim (λ a. inl a) (λ b. inr (record { from = b.from; to = b.to; drawn = L.fewer i j b.drawn })) ((direct_joined q.job rows i j).0 d))

    pub left_acyclic : Acyclic (Direct (joined_rows (plan_in s).job rows))
    left_acyclic i b = opens_plan s o i (before_map left_fewer b)

    pub left_fits : is_accepted (with_extra (plan_in s) rows) ≡ fits_by (plan_in s).count (order_in (joined_rows (plan_in s).job rows)) (plan_in s).demand (plan_in s).available (plan_in s).kinds
    left_fits =
        subst (λ (x : Plan). Acyclic (Direct (rows_for x)) → is_accepted x ≡ fits_by x.count (order_for x) x.demand x.available x.kinds) left_plan
        (accepted_fits (file_with rows) left_bytes left_readable) left_acyclic

    -- one arc less
    pub left_less : (i j : ℕ) → i < elements → Left (without_arc rows i j)
    left_less i j h =
        record {
          long = length_without rows i j ∙ L.long;
          fit = fit_without rows i j L.long h L.fit;
          fewer = λ a b t. L.fewer a b (and_left (after rows a b) _ (sym (after_without rows i j L.long h a b) ∙ t));
        }

  -- ---- the pairs, one after another

  -- pair x of the first ones is from an activity
  pub from_few : (x : ℕ) → x < elements * (plan_in s).count → pair_from x < elements
  from_few x h = omega (arith, h, count_few s)

  module _ (x : ℕ) (rows : List ℕ) where
    abbrev i : ℕ
    i = pair_from x

    abbrev j : ℕ
    j = pair_to x

    abbrev less : List ℕ
    less = without_arc rows i j

    pub step_goes : may_go s i j ≡ true → is_accepted (with_extra (plan_in s) less) ≡ true → trim_step s x rows ≡ less
    unfolding trim_step
    step_goes m a = cond_true less rows (and_both (may_go s i j) (is_accepted (with_extra (plan_in s) less)) m a)

    pub step_stays : may_go s i j && is_accepted (with_extra (plan_in s) less) ≡ false → trim_step s x rows ≡ rows
    unfolding trim_step
    step_stays e = cond_false less rows e

    -- a property of rows that less have too
    pub step_keeps : (P : List ℕ → Type 0) → P rows → (may_go s i j ≡ true → is_accepted (with_extra (plan_in s) less) ≡ true → P less) → P (trim_step s x rows)
    step_keeps P h g =
        by_test (may_go s i j && is_accepted (with_extra (plan_in s) less))
        (λ t. let w = (and_says (may_go s i j) (is_accepted (with_extra (plan_in s) less))).0 t in subst P (sym (step_goes w.0 w.1)) (g w.0 w.1))
        (λ t. subst P (sym (step_stays t)) h)

    -- WHAT THE CODE MAKES OF A PAIR
    module _ (L : Left rows) (accepted : is_accepted (with_extra (plan_in s) rows) ≡ true) (hi : i < elements) (afters : List ℕ) (held : afters ≡ after_rows (order_in (joined_rows (plan_in s).job rows))) where
      abbrev weighed : Bool
      weighed = fits_by q.count (order_in (joined_rows q.job less)) q.demand q.available q.kinds

      -- where its pair follows, the order is the same, so the plan that is left is accepted too
      follows_fits : follows_in q.job rows afters i j ≡ true → weighed ≡ true
      follows_fits e =
          let same = follows_order q.job rows afters i j hi (omega arith) (L.long, held, left_acyclic rows L) e in
          ap (λ (a : Order). fits_by q.count a q.demand q.available q.kinds) same ∙ sym (left_fits rows L) ∙ accepted

      pub considered : extra_left (plan_in s).count (plan_in s).job (plan_in s).demand (plan_in s).available (plan_in s).kinds (free_rows s) afters rows i j ≡ trim_step s x rows
      unfolding extra_left trim_step
      considered =
          let fits = left_fits less (left_less rows L i j hi) in
          ap (λ (b : Bool). cond b less rows)
          (ap (λ (b : Bool). b && (follows_in q.job rows afters i j || weighed)) (may_free i j)
          ∙ ap (λ (b : Bool). may_go s i j && b)
          (by_test (follows_in q.job rows afters i j) (λ t. ap (λ (b : Bool). b || weighed) t ∙ sym (fits ∙ follows_fits t)) (λ t. ap (λ (b : Bool). b || weighed) t ∙ sym fits)))

  -- what is left after n pairs
  pub left_at : (n : ℕ) → n ≤ elements * (plan_in s).count → Left (trim_up_to s n)
  unfolding trim_up_to
  left_at zero h = all_left
  left_at (suc n) h =
      let L = left_at n (omega arith) in
      step_keeps n (trim_up_to s n) Left L (λ m a. left_less (trim_up_to s n) L (pair_from n) (pair_to n) (from_few n (omega arith)))

  pub accepted_at : is_accepted (plan_in s) ≡ true → (n : ℕ) → is_accepted (with_extra (plan_in s) (trim_up_to s n)) ≡ true
  unfolding trim_up_to
  accepted_at t zero = t
  accepted_at t (suc n) = step_keeps n (trim_up_to s n) (λ rows. is_accepted (with_extra (plan_in s) rows) ≡ true) (accepted_at t n) (λ m a. a)

  -- ---- what the code holds: `q` is the plan, and n pairs have been considered

  pub record Considered (n : ℕ) (extra afters : List ℕ) : Type 0 where
    pub extra_left_lem : extra ≡ trim_up_to s n
    pub afters_left : afters ≡ after_rows (order_in (joined_rows (plan_in s).job extra))

  module _ {r : Plan} (held : r ≡ plan_in s) (accepted : is_accepted r ≡ true) where
    pub trim_none : {w : Order} {afters : List ℕ} → w ≡ plan_order s → afters ≡ after_rows w → Considered 0 r.extra afters
    unfolding trim_up_to
    trim_none e f = record { extra_left_lem = ap (λ (x : Plan). x.extra) held; afters_left = f ∙ ap after_rows e ∙ ap (λ (x : Plan). after_rows (order_in (joined_rows q.job x.extra))) (sym held) }

    -- pair x is that from i to j
    module _ (x i j : ℕ) (from : x / elements ≡ i) (to : x % elements ≡ j)
        (below : x < elements * r.count) {extra afters : List ℕ} (C : Considered x extra afters) where
      few : x < elements * (plan_in s).count
      few = subst (λ (y : Plan). x < elements * y.count) held below

      left_now : Left extra
      left_now = subst Left (sym C.extra_left_lem) (left_at x (omega (arith, few)))

      pub trim_asked : (i < elements) × (j < elements) × Fits r × OrderHeld r.job extra afters
      trim_asked =
          subst (λ (y : Plan). (i < elements) × (j < elements) × Fits y × OrderHeld y.job extra afters) (sym held) (
            omega (arith, from, from_few x few),
            omega (arith, to),
            (count_few s, kinds_few s),
            (left_now.long, C.afters_left, left_acyclic extra left_now),
          )

      pub trim_again : {free extra' afters' : List ℕ} → free ≡ free_rows s
          → extra' ≡ extra_left r.count r.job r.demand r.available r.kinds free afters extra i j
          → afters' ≡ after_rows (order_in (joined_rows r.job extra')) → Considered (x + 1) extra' afters'
      unfolding trim_up_to
      trim_again {free} {extra'} f e a =
          record {
            extra_left_lem =
                e
                ∙ ap (λ (y : Plan). extra_left y.count y.job y.demand y.available y.kinds free afters extra i j) held
                ∙ ap (λ (z : List ℕ). extra_left q.count q.job q.demand q.available q.kinds z afters extra i j) f
                ∙ rw (← from, ← to) (considered x extra left_now accepted_now (from_few x few) afters C.afters_left)
                ∙ ap (trim_step s x) C.extra_left_lem
                ∙ ap (trim_up_to s) (sym (add-one x));
            afters_left = a ∙ ap (λ (y : Plan). after_rows (order_in (joined_rows y.job extra'))) held;
          }
        where
          accepted_now : is_accepted (with_extra q extra) ≡ true
          accepted_now = subst (λ (z : List ℕ). is_accepted (with_extra q z) ≡ true) (sym C.extra_left_lem) (accepted_at (subst (λ (y : Plan). is_accepted y ≡ true) held accepted) x)

    pub trim_all : (x : ℕ) {extra afters : List ℕ} → x ≡ elements * r.count → Considered x extra afters → extra ≡ trimmed_rows s
    unfolding trimmed_rows
    trim_all x e C = C.extra_left_lem ∙ ap (trim_up_to s) (e ∙ ap (λ (y : Plan). elements * y.count) held)
