-- What the crew check's answer is, and what each answer means.
use mathlib.Core.Path.{◌≡◌, refl, sym, ◌∙◌, ap, ap₂, subst, subst₂}
use mathlib.Core.Logic.{◌↔◌}
use Prim.Native.Nat.{ℕ, ◌+◌, ◌≤◌, ◌<◌}
use native.Mathlib.Decide.{dec_lt}
use native.Mathlib.Omega.{arith}
use lib.Dec.{ltb}
use borrow.Author.Tests.{ltb-true, ltb-false, lt-ltb, le-ltb}
use Rattle.words.proofs.Tests.{by_test}
use Rattle.flow_math.specs.Breaks.{FirstBroken}
use Rattle.schedule.specs.Network.{Network, Arc, Keeps}
use Rattle.schedule.specs.Checks.{broken_to, broken_from, Work, occupied, lowest_kind, first_period, check_of, Enough, FirstOver}
use Rattle.schedule.specs.declared.Checked.TheVariants.{Fits, Broken, Overload}
use Rattle.schedule.proofs.Arcs.{none_broken, found_broken}
use Rattle.schedule.proofs.Periods.{not_exceeded, lowest_first, over_exceeds, period_none, period_over, period_first}

-- ---- there is one first broken arc, and one first overload

-- what is not before another, nor that before it, is it
same_by : (i x : ℕ) → (i < x → ⊥) → (x < i → ⊥) → i ≡ x
same_by i x p q = go (dec_lt i x) (dec_lt x i)
  where
    go : Dec (i < x) → Dec (x < i) → i ≡ x
    go (yes l) d = absurd (p l)
    go (no m) (yes l) = absurd (q l)
    go (no m) (no n) = omega arith

broken_once : {A : ℕ → ℕ → Type 0} (s : ℕ → ℕ) (w : ℕ → ℕ → ℕ) (i j x y : ℕ) → FirstBroken A s w i j → FirstBroken A s w x y → (i ≡ x) × (j ≡ y)
broken_once {A} s w i j x y F G = (from, same_by j y (λ l. omega (arith, G'.rest j F.there l, F.late)) (λ l. omega (arith, F.rest y G'.there l, G'.late)))
  where
    from : i ≡ x
    from = same_by i x (λ l. omega (arith, G.kept i j F.there l, F.late)) (λ l. omega (arith, F.kept x y G.there l, G.late))

    G' : FirstBroken A s w i y
    G' = subst (λ (z : ℕ). FirstBroken A s w z y) (sym from) G

over_once : (c : Work) (t k u x : ℕ) → FirstOver c t k → FirstOver c u x → (t ≡ u) × (k ≡ x)
over_once c t k u x F G = (period, same_by k x (λ l. omega (arith, G'.lowest k l, F.over)) (λ l. omega (arith, F.lowest x l, G'.over)))
  where
    period : t ≡ u
    period = same_by t u (λ l. omega (arith, G.quiet t l k F.kind, F.over)) (λ l. omega (arith, F.quiet u l x G.kind, G.over))

    G' : FirstOver c t x
    G' = subst (λ (z : ℕ). FirstOver c z x) (sym period) G

module _ (g : Network) (c : Work) where
  -- ---- the answer, from what the code found

  pub check_broken : (f t : ℕ) → f ≡ broken_from g c.start → f < g.elements → t ≡ broken_to g c.start f → Broken (f + 1) (t + 1) ≡ check_of g c
  unfolding check_of
  check_broken f t e l d =
      let h : broken_from g c.start < g.elements = omega arith in
      rw (lt-ltb (broken_from g c.start) g.elements h) (ap₂ (λ (x y : ℕ). Broken (x + 1) (y + 1)) e (d ∙ ap (λ (x : ℕ). broken_to g c.start x) e))

  pub check_over : (f p k : ℕ) → f ≡ broken_from g c.start → g.elements ≤ f → p ≡ first_period c → 0 < p → k ≡ lowest_kind c p → Overload p (k + 1) ≡ check_of g c
  unfolding check_of
  check_over f p k e l d h j =
      let m : g.elements ≤ broken_from g c.start = omega arith in
      let n : 0 < first_period c = omega arith in
      rw (le-ltb (broken_from g c.start) g.elements m, lt-ltb 0 (first_period c) n) (ap₂ (λ (x y : ℕ). Overload x (y + 1)) d (j ∙ ap (λ (x : ℕ). lowest_kind c x) d))

  pub check_fits : (f p : ℕ) → f ≡ broken_from g c.start → g.elements ≤ f → p ≡ first_period c → p ≤ 0 → Fits ≡ check_of g c
  unfolding check_of
  check_fits f p e l d h =
      let m : g.elements ≤ broken_from g c.start = omega arith in
      let n : first_period c ≤ 0 = omega arith in
      rw (le-ltb (broken_from g c.start) g.elements m, le-ltb 0 (first_period c) n)

  -- ---- what an answer means

  -- by which answer there is
  by_answer :
      {C : Type 0}
      → (broken_from g c.start < g.elements → Broken (broken_from g c.start + 1) (broken_to g c.start (broken_from g c.start) + 1) ≡ check_of g c → C)
      → (g.elements ≤ broken_from g c.start → 0 < first_period c → Overload (first_period c) (lowest_kind c (first_period c) + 1) ≡ check_of g c → C)
      → (g.elements ≤ broken_from g c.start → first_period c ≡ 0 → Fits ≡ check_of g c → C)
      → C
  by_answer b o f =
      by_test (ltb (broken_from g c.start) g.elements)
      (λ y. let l : broken_from g c.start < g.elements = ltb-true (broken_from g c.start) g.elements y in b l (check_broken _ _ refl l refl))
      (λ n.
      let l : g.elements ≤ broken_from g c.start = ltb-false (broken_from g c.start) g.elements n in
      by_test (ltb 0 (first_period c))
      (λ y. let h : 0 < first_period c = ltb-true 0 (first_period c) y in o l h (check_over _ _ _ refl l refl h refl))
      (λ z. let h : first_period c ≤ 0 = ltb-false 0 (first_period c) z in f l (omega arith) (check_fits _ _ refl l refl h)))

  -- IT FITS: every arc is kept, and in no period at all is more of a kind occupied than there is
  fits_means : check_of g c ≡ Fits → Keeps g c.start × Enough c
  fits_means e =
      by_answer
      (λ l h. let z : ◌≡◌ {A = ℕ} 0 1 = cc in absurd (omega arith))
      (λ l m h. let z : ◌≡◌ {A = ℕ} 0 1 = cc in absurd (omega arith))
      (λ l m h. (none_broken g c.start l, λ t k. not_exceeded c t (period_none c m t) k))

  -- A BROKEN ARC: it is the first, by from and then to
  broken_means : (i j : ℕ) → check_of g c ≡ Broken (i + 1) (j + 1) → FirstBroken (Arc g) c.start g.weight i j
  broken_means i j e =
      by_answer
      (λ l h.
      let p' : broken_from g c.start + 1 ≡ i + 1 = cc in
      let q' : broken_to g c.start (broken_from g c.start) + 1 ≡ j + 1 = cc in
      let p : broken_from g c.start ≡ i = omega arith in
      let q : broken_to g c.start (broken_from g c.start) ≡ j = omega arith in
      subst₂ (λ (x y : ℕ). FirstBroken (Arc g) c.start g.weight x y) p q (found_broken g c.start l))
      (λ l m h. let z : ◌≡◌ {A = ℕ} 0 1 = cc in absurd (omega arith))
      (λ l m h. let z : ◌≡◌ {A = ℕ} 0 1 = cc in absurd (omega arith))

  over_first : 0 < first_period c → FirstOver c (first_period c) (lowest_kind c (first_period c))
  over_first h =
      let t = first_period c in
      let o : lowest_kind c t < c.kinds = ltb-true (lowest_kind c t) c.kinds (period_over c h) in
      record {
        kind = o;
        over = ltb-true (c.available (lowest_kind c t)) (occupied c t (lowest_kind c t)) (over_exceeds c t (period_over c h));
        quiet = λ u l k m. not_exceeded c u (period_first c u l) k m;
        lowest = λ k l. ltb-false (c.available k) (occupied c t k) ((lowest_first c t).before k l);
      }

  -- AN OVERLOAD: every arc is kept, the period is the first, and the kind the lowest in it
  over_means : (t k : ℕ) → check_of g c ≡ Overload t (k + 1) → Keeps g c.start × FirstOver c t k
  over_means t k e =
      by_answer
      (λ l h. let z : ◌≡◌ {A = ℕ} 0 1 = cc in absurd (omega arith))
      (λ l m h.
      let p : first_period c ≡ t = cc in
      let q' : lowest_kind c (first_period c) + 1 ≡ k + 1 = cc in
      let q : lowest_kind c (first_period c) ≡ k = omega arith in
      (none_broken g c.start l, subst₂ (λ (x y : ℕ). FirstOver c x y) p q (over_first m)))
      (λ l m h. let z : ◌≡◌ {A = ℕ} 0 1 = cc in absurd (omega arith))

  -- ---- and each meaning has its answer

  not_kept : {P : Type 0} → broken_from g c.start < g.elements → Keeps g c.start → P
  not_kept l k =
      let F = found_broken g c.start l in
      absurd (omega (arith, k (broken_from g c.start) (broken_to g c.start (broken_from g c.start)) F.there, F.late))

  means_fits : Keeps g c.start → Enough c → check_of g c ≡ Fits
  means_fits k n =
      by_answer
      (λ l h. not_kept l k)
      (λ l m h. let o = over_first m in absurd (omega (arith, o.over, n (first_period c) (lowest_kind c (first_period c)) o.kind)))
      (λ l m h. sym h)

  means_broken : (i j : ℕ) → FirstBroken (Arc g) c.start g.weight i j → check_of g c ≡ Broken (i + 1) (j + 1)
  means_broken i j F =
      by_answer
      (λ l h. let e = broken_once c.start g.weight _ _ i j (found_broken g c.start l) F in sym h ∙ ap₂ (λ (x y : ℕ). Broken (x + 1) (y + 1)) e.0 e.1)
      (λ l m h. absurd (omega (arith, none_broken g c.start l i j F.there, F.late)))
      (λ l m h. absurd (omega (arith, none_broken g c.start l i j F.there, F.late)))

  means_over : (t k : ℕ) → Keeps g c.start → FirstOver c t k → check_of g c ≡ Overload t (k + 1)
  means_over t k keeps F =
      by_answer
      (λ l h. not_kept l keeps)
      (λ l m h. let e = over_once c _ _ t k (over_first m) F in sym h ∙ ap₂ (λ (x y : ℕ). Overload x (y + 1)) e.0 e.1)
      (λ l m h. absurd (omega (arith, not_exceeded c t (period_none c m t) k F.kind, F.over)))

  -- so each answer is given exactly where it is what it means
  pub fits_says : (check_of g c ≡ Fits) ↔ (Keeps g c.start × Enough c)
  fits_says = (fits_means, λ w. means_fits w.0 w.1)

  pub broken_says : (i j : ℕ) → (check_of g c ≡ Broken (i + 1) (j + 1)) ↔ FirstBroken (Arc g) c.start g.weight i j
  broken_says i j = (broken_means i j, means_broken i j)

  pub over_says : (t k : ℕ) → (check_of g c ≡ Overload t (k + 1)) ↔ (Keeps g c.start × FirstOver c t k)
  over_says t k = (over_means t k, λ w. means_over t k w.0 w.1)
