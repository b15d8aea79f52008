-- Which arcs Trim takes out: an extra arc of wait 0 goes exactly where the plan then left,
-- whichever file says it, is accepted.
use mathlib.Core.Path.{◌≡◌, refl, sym, ap, ◌∙◌, subst}
use mathlib.Core.Bool.{true}
use mathlib.Core.List.{List}
use mathlib.Core.Logic.{◌⊎◌, inl, inr, ⊎_elim, ◌↔◌}
use Prim.Native.Nat.{ℕ, ◌*◌, ◌≤◌, ◌<◌}
use native.Mathlib.Decide.{dec_lt}
use native.Mathlib.Omega.{arith}
use Rattle.words.proofs.Tests.{clash}
use Rattle.records.specs.Bytes.{AreBytes}
use Rattle.order.specs.Stored.{elements}
use Rattle.order.specs.Rows.{after}
use Rattle.plan.specs.Meaning.{Readable, ExtraArc, extra_wait}
use Rattle.plan.specs.Filtered.{filtered}
use Rattle.plan.specs.model.ArcRows.{stays_by}
use Rattle.plan.specs.model.Plans.{with_extra}
use Rattle.plan.proofs.NamedArcs.{rows_named}
use Rattle.plan.proofs.Said.{readable_faultless}
use Rattle.planner.specs.Open.{plan_in, Opens}
use Rattle.planner.specs.Verdict.{is_accepted}
use Rattle.planner.specs.Trim.{trim_up_to, trimmed_rows}
use Rattle.planner.proofs.OpenLaws.{count_few, said_in, opens_readable}
use Rattle.planner.proofs.TrimPairs.{Left, extra_says, left_readable, left_bytes, left_at}
use Rattle.planner.proofs.TrimTurns.{pair_of, rows_less, pair_sooner, pair_later, turn_goes, turn_stays, turns_held}
use Rattle.promises.specs.Ours.{ours}
use Rattle.promises.specs.Trim.{Accepts, Overloads, LeavesOut, Sooner, ThenLeft}
use Rattle.promises.proofs.TrimVerdicts.{accepts_plan, overloads_plan, work_plan}
use Rattle.promises.proofs.TrimmedPlans.{with_extra_lem, with_work, with_leaves, may, to_few, below, left_then, then_other, then_back}

-- what comes sooner is another pair, and stands earlier among the pairs
apart : (a b i j : ℕ) → Sooner a b i j → (a ≡ i) × (b ≡ j) → ⊥
apart a b i j (inl l) e = omega (arith, e.0)
apart a b i j (inr w) e = omega (arith, w.1, e.1)

earlier : (a b i j : ℕ) → b < elements → Sooner a b i j → pair_of a b < pair_of i j
earlier a b i j h (inl l) = omega arith
earlier a b i j h (inr w) = omega (arith, w.0, w.1)

module _ (s : List ℕ) (bytes : AreBytes s) (o : Opens s) where
  readable : Readable s
  readable = opens_readable s o

  abbrev most : ℕ
  most = elements * (plan_in s).count

  abbrev t : List ℕ
  t = filtered (stays_by (trimmed_rows s) s) s

  pub left : Left s bytes o (trimmed_rows s)
  unfolding trimmed_rows
  left = left_at s bytes o most (omega arith)

  pub readable_t : Readable t
  readable_t = left_readable s bytes o (trimmed_rows s) left

  pub extra_t : (i j : ℕ) → ExtraArc t i j ↔ (after (trimmed_rows s) i j ≡ true)
  extra_t = with_extra_lem s bytes o (trimmed_rows s) left

  -- an extra arc's ends are elements
  pub few : (u : List ℕ) → Readable u → (c d : ℕ) → ExtraArc u c d → d < elements
  few u e c d h = omega (arith, ((said_in u e).extra.within c d h).1, count_few u)

  pub leaves : LeavesOut s t
  unfolding trimmed_rows
  leaves = with_leaves s bytes o (trimmed_rows s) left (λ i j m h. turns_held s bytes o most i j (omega arith) h m)

  -- ---- AN ARC IN ITS TURN: u says the plan then left

  module _ (i j : ℕ) (a : ExtraArc s i j) (z : extra_wait s i j ≡ 0) (u : List ℕ) (f : Readable u) (T : ThenLeft s t i j u) where
    abbrev x : ℕ
    x = pair_of i j

    hj : j < elements
    hj = to_few s bytes o i j a z

    hx : pair_of i j < most
    hx = below s bytes o i j a z

    -- another pair comes sooner or later
    sooner_or_later : (c d : ℕ) → d < elements → ((c ≡ i) × (d ≡ j) → ⊥) → (Sooner c d i j × (pair_of c d < x)) ⊎ (Sooner i j c d × (x ≤ pair_of c d))
    sooner_or_later c d h ne = go (dec_lt c i) (dec_lt i c) (dec_lt d j)
      where
        go : Dec (c < i) → Dec (i < c) → Dec (d < j) → (Sooner c d i j × (pair_of c d < x)) ⊎ (Sooner i j c d × (x ≤ pair_of c d))
        go (yes l) p q = inl (inl l, omega (arith, hj))
        go (no n) (yes l) q = inr (inl l, omega (arith, hj))
        go (no n) (no p) (yes l) = inl (inr (omega arith, l), omega arith)
        go (no n) (no p) (no q) =
            let same : c ≡ i = omega arith in
            let other : d ≡ j → ⊥ = λ e. ne (same, e) in
            inr (inr (sym same, omega (arith, other)), omega arith)

    says : (c d : ℕ) → ExtraArc u c d ↔ (after (rows_less s bytes o x) c d ≡ true)
    says c d = (there, back)
      where
        there : ExtraArc u c d → after (rows_less s bytes o x) c d ≡ true
        there h =
            let ne : (c ≡ i) × (d ≡ j) → ⊥ = λ w. T.out (subst (λ (y : ℕ). ExtraArc u y j) w.0 (subst (λ (y : ℕ). ExtraArc u c y) w.1 h)) in
            let hd = few u f c d h in
            then_other s bytes o i j a z c d
            (⊎_elim
            (λ w. pair_sooner s bytes o x c d (omega (arith, hx)) hd w.1 ∙ (extra_t c d).0 ((T.sooner c d w.0).0 h))
            (λ w. pair_later s bytes o x c d (omega (arith, hx)) hd w.1 ∙ (extra_says s bytes o c d).1 ((T.later c d w.0).0 h))
            (sooner_or_later c d hd ne))
            ne

        back : after (rows_less s bytes o x) c d ≡ true → ExtraArc u c d
        back h =
            let w = then_back s bytes o i j a z c d h in
            let hd = few s readable c d ((extra_says s bytes o c d).0 ((left_then s bytes o i j a z).fewer c d h)) in
            ⊎_elim
            (λ v. (T.sooner c d v.0).1 ((extra_t c d).1 (sym (pair_sooner s bytes o x c d (omega (arith, hx)) hd v.1) ∙ w.0)))
            (λ v. (T.later c d v.0).1 ((extra_says s bytes o c d).0 (sym (pair_later s bytes o x c d (omega (arith, hx)) hd v.1) ∙ w.0)))
            (sooner_or_later c d hd w.1)

    plan_then : plan_in u ≡ with_extra (plan_in s) (rows_less s bytes o x)
    unfolding ExtraArc
    plan_then =
        let L = left_then s bytes o i j a z in
        work_plan s u readable f T.work ∙ ap (with_extra (plan_in s)) (rows_named u (readable_faultless u f) 4 (omega arith) (rows_less s bytes o x) L.long L.fit says)

    pub goes : Accepts ours u → ExtraArc t i j → ⊥
    goes h e = clash ((extra_t i j).0 e) (turn_goes s bytes o i j hj hx (may s bytes o i j a z) (sym (ap is_accepted plan_then) ∙ accepts_plan u f h))

    pub stays : Overloads ours u → ExtraArc t i j
    stays h = (extra_t i j).1 (turn_stays s bytes o i j hj hx (may s bytes o i j a z) (sym (ap is_accepted plan_then) ∙ overloads_plan u f h))

  -- ---- THE PLAN THEN LEFT, as a file

  module _ (i j : ℕ) (a : ExtraArc s i j) (z : extra_wait s i j ≡ 0) where
    abbrev rows : List ℕ
    rows = rows_less s bytes o (pair_of i j)

    there_left : Left s bytes o rows
    there_left = left_then s bytes o i j a z

    u_extra : (c d : ℕ) → ExtraArc (filtered (stays_by rows s) s) c d ↔ (after rows c d ≡ true)
    u_extra = with_extra_lem s bytes o rows there_left

    -- the rows so far, of a pair that comes sooner, and of one that comes later
    rows_sooner : (c d : ℕ) → d < elements → Sooner c d i j → after (trim_up_to s (pair_of i j)) c d ≡ after (trimmed_rows s) c d
    rows_sooner c d h q = pair_sooner s bytes o (pair_of i j) c d (omega (arith, below s bytes o i j a z)) h (earlier c d i j h q)

    rows_later : (c d : ℕ) → d < elements → Sooner i j c d → after (trim_up_to s (pair_of i j)) c d ≡ after (plan_in s).extra c d
    rows_later c d h q = pair_later s bytes o (pair_of i j) c d (omega (arith, below s bytes o i j a z)) h (omega (arith, earlier i j c d (to_few s bytes o i j a z) q))

    -- an arc of these rows is one of the file
    own : (c d : ℕ) → after rows c d ≡ true → ExtraArc s c d
    own c d t = (extra_says s bytes o c d).0 (there_left.fewer c d t)

    pub then_left : (u : List ℕ) × AreBytes u × Readable u × ThenLeft s t i j u
    then_left = (
      filtered (stays_by rows s) s,
      left_bytes s bytes o rows there_left,
      left_readable s bytes o rows there_left,
      record {
        work = with_work s bytes o rows there_left;
        sooner = λ c d q. (
          (λ h. let r = (u_extra c d).0 h in (extra_t c d).1 (sym (rows_sooner c d (few s readable c d (own c d r)) q) ∙ (then_back s bytes o i j a z c d r).0)),
          (λ h. (u_extra c d).1 (then_other s bytes o i j a z c d (rows_sooner c d (few t readable_t c d h) q ∙ (extra_t c d).0 h) (apart c d i j q))),
        );
        out = λ h. (then_back s bytes o i j a z i j ((u_extra i j).0 h)).1 (refl, refl);
        later = λ c d q. (
          (λ h. own c d ((u_extra c d).0 h)),
          (λ h. (u_extra c d).1 (then_other s bytes o i j a z c d (rows_later c d (few s readable c d h) q ∙ (extra_says s bytes o c d).1 h) (λ e. apart i j c d q (sym e.0, sym e.1)))),
        );
      },
    )
