-- The rounds end: each round whose search found something leaves fewer units, so that with a round for each unit
-- the last search finds nothing.
use Rattle.std.proofs.Common.{◌≡◌, ℕ, zero, suc, ◌+◌, ◌-◌, ◌*◌, ◌<◌, ◌≤◌, min, true, false, cond, ltb, List, get_or, set, refl, ap, ◌∙◌, arith, get_or-set_other, get_or-set_same, ltb-false, ltb-true, le-ltb, lt-ltb, le-leb, leb-false, leb-true}
use borrow.Author.Tests.{lt-leb}
use Rattle.words.specs.Bits.{digit}
use Rattle.words.specs.model.Loops.{run}
use Rattle.words.specs.Sums.{sum}
use Rattle.words.proofs.Kept.{run_ends}
use Rattle.words.proofs.Sums.{sum_bound}
use Rattle.words.proofs.Tests.{by_test, cond_false, cond_has, cond_true}
use Rattle.order.specs.Stored.{elements}
use Rattle.solver.specs.model.Search.{Reached}
use Rattle.order.specs.model.Places.{positive}
use Rattle.solver.specs.model.Network.{Network, Walk, at_root, augmented, back, cell, joined, parent, rooted, shifted, source, walk, wrap}
use Rattle.solver.specs.model.Solve.{Round, next, round, rounded, settle, settled, solved, sought, started}
use Rattle.solver.proofs.Stores.{sum_in}
use Rattle.solver.proofs.Balance.{Balanced, moving, shifted_balanced, slack_plain, spent, spent_wide}
use Rattle.solver.proofs.Linked.{Linked}
use Rattle.solver.proofs.Positive.{positive_is}
use Rattle.solver.proofs.Tree.{Tree}
use Rattle.solver.proofs.WayBack.{parent_reached, source_is, source_lt, source_seen}
use Rattle.solver.proofs.Depth.{Depth, sought_depth}
use Rattle.solver.proofs.Consistent.{Consistent, round_consistent, start_consistent}

-- what all elements have left
abbrev pub leftover : Network → ℕ
leftover s = sum elements (λ i. get_or s.left i 0)

-- what a shift touches
shifted_left : (s : Network) (i k j : ℕ) → (shifted s i k j).left ≡ s.left
unfolding shifted
shifted_left s i k j = refl

shifted_row : (s : Network) (i k j : ℕ) → k < elements → j < elements → (p r : ℕ) → r < elements → (p ≡ i → ⊥) → get_or (shifted s i k j).flow (cell p r) 0 ≡ get_or s.flow (cell p r) 0
unfolding shifted
shifted_row s i k j hk hj p r hr n =
    let d = min (get_or s.right j 0) (get_or s.flow (cell i k) 0) in
    let m = get_or s.flow (cell i k) 0 - d in
    let f = set s.flow (cell i k) m in
    get_or-set_other f (cell i j) (cell p r) (wrap (get_or f (cell i j) 0 + d)) 0 (λ e. n (omega arith))
    ∙ get_or-set_other s.flow (cell i k) (cell p r) m 0 (λ e. n (omega arith))

module _ (d : ℕ → ℕ) (small : (p : ℕ) → p < elements → d p ≤ 65535) (s : Network) (b : Balanced d s) where
  -- where the taker j can take more, and i hands over to k, k can take more after the shift
  shifted_slack : (i k j : ℕ) → i < elements → k < elements → j < elements → 0 < get_or s.right j 0 → 0 < get_or s.flow (cell i k) 0 → 0 < get_or (shifted s i k j).right k 0
  unfolding shifted
  shifted_slack i k j hi hk hj x y =
      omega (
        arith,
        get_or-set_same (spent d small s b i k j hi hk hj) k
            (wrap (get_or (spent d small s b i k j hi hk hj) k 0 + moving d small s b i k j hi hk hj)) 0
            (omega (arith, spent_wide d small s b i k j hi hk hj)),
        slack_plain d small s b i k j hi hk hj,
      )

  -- where i has units left and j can take more, less is left after the join
  joined_less : (i j : ℕ) → i < elements → 0 < get_or s.left i 0 → 0 < get_or s.right j 0 → leftover (joined s i j) < leftover s
  unfolding joined
  joined_less i j hi x y =
      omega (arith, sum_in s.left i (get_or s.left i 0 - min (get_or s.left i 0) (get_or s.right j 0)) (λ p. p) elements i hi refl (omega (arith, b.lefts)) (λ p h e. e))

module _ (m : ℕ) (d : ℕ → ℕ) (small : (p : ℕ) → p < elements → d p ≤ 65535) (rows : List ℕ) (s : Network) (l : Linked s) (q : Reached)
    (t : Tree rows s.givers q) (D : Depth (positive m s.left) (positive m s.right) q) where
  -- a walk back from where the search ended: there is slack where it is, and the rows to come are as the search saw them
  record Walking (w : Walk) : Type 0 where
    at_lt : w.at < elements
    there : digit q.search.right w.at ≡ 1
    balanced : Balanced d w.now
    slack : 0 < get_or w.now.right w.at 0
    same_left : w.now.left ≡ s.left
    same_rows : (i : ℕ) → i < elements → D.of_left i < D.of_right w.at → (k : ℕ) → k < elements → get_or w.now.flow (cell i k) 0 ≡ get_or s.flow (cell i k) 0

  module _ (w : Walk) (W : Walking w) where
    abbrev i : ℕ
    i = source q.rights w

    abbrev k : ℕ
    k = parent q.lefts q.rights w

    i_lt : i < elements
    i_lt = source_lt rows s.givers q t w W.at_lt W.there

    i_seen : digit q.search.left i ≡ 1
    i_seen = source_seen rows s.givers q t w W.at_lt W.there

    earlier : D.of_left i < D.of_right w.at
    earlier = rw (source_is rows s.givers q t w W.at_lt W.there) (D.came w.at W.at_lt W.there)

    nearer : k < elements → D.of_right k ≤ D.of_left i
    nearer hk = D.led i i_lt i_seen hk

    gives : k < elements → 0 < get_or w.now.flow (cell i k) 0
    gives hk =
        omega (arith, W.same_rows i i_lt earlier k hk, (l.says i k i_lt hk).0 (parent_reached rows s.givers q t w W.at_lt W.there hk).1)

    walking_back : k < elements → Walking (back q.lefts q.rights w)
    walking_back hk =
        record {
          at_lt = hk;
          there = (parent_reached rows s.givers q t w W.at_lt W.there hk).0;
          balanced = shifted_balanced d small w.now W.balanced i k w.at i_lt hk W.at_lt;
          slack = shifted_slack d small w.now W.balanced i k w.at i_lt hk W.at_lt W.slack (gives hk);
          same_left = shifted_left w.now i k w.at ∙ W.same_left;
          same_rows = λ p hp e r hr.
              shifted_row w.now i k w.at hk W.at_lt p r hr (λ x. omega (arith, ap D.of_left x, nearer hk))
              ∙ W.same_rows p hp (omega (arith, nearer hk, earlier)) r hr;
        }

    root_slack : elements ≤ k → 0 < get_or w.now.left i 0
    root_slack h = rw W.same_left (positive_is m s.left i (D.root i i_lt i_seen h))

    walking_root : elements ≤ k → leftover (at_root q.rights w) < leftover s
    walking_root h =
        let e : leftover w.now ≡ leftover s = ap (λ (x : List ℕ). sum elements (λ y. get_or x y 0)) W.same_left in
        omega (arith, e, joined_less d small w.now W.balanced i w.at i_lt (root_slack h) W.slack)

  abbrev Less : Network → Type 0
  Less x = leftover x < leftover s

  walk_less : (n : ℕ) (w : Walk) → Walking w → D.of_right w.at ≤ n → Less (augmented n q.lefts q.rights w)
  unfolding run
  walk_less zero w W h = absurd (omega (arith, earlier w W))
  walk_less (suc n) w W h =
      cond_has Less (rooted q.lefts q.rights w) (at_root q.rights w) (augmented n q.lefts q.rights (back q.lefts q.rights w))
      (λ e. walking_root w W (leb-true elements (parent q.lefts q.rights w) e))
      (λ e.
      let hk = leb-false elements (parent q.lefts q.rights w) e in
      walk_less n (back q.lefts q.rights w) (walking_back w W hk) (omega (arith, nearer w W hk, earlier w W)))

  pub augmented_less : Balanced d s → q.search.at < elements → leftover (augmented elements q.lefts q.rights (walk s q.search.at)) < leftover s
  augmented_less b h =
      walk_less elements (walk s q.search.at)
      (record {
        at_lt = h;
        there = t.goal h;
        balanced = b;
        slack = positive_is m s.right q.search.at (D.goal h);
        same_left = refl;
        same_rows = λ i hi e k hk. refl;
      })
      (omega (arith, D.right_le q.search.at h (t.goal h), D.fits))

-- a round whose search found something, and one whose search found nothing
pub round_found : (m : ℕ) (rows : List ℕ) (s : Network) → (sought m rows s).search.at < elements
    → rounded m rows s ≡ round (augmented elements (sought m rows s).lefts (sought m rows s).rights (walk s (sought m rows s).search.at)) (sought m rows s).search
unfolding rounded
round_found m rows s h = ap (λ (x : Network). round x (sought m rows s).search) (cond_true _ s (lt-ltb (sought m rows s).search.at elements h))

pub round_stays : (m : ℕ) (rows : List ℕ) (s : Network) → elements ≤ (sought m rows s).search.at → rounded m rows s ≡ round s (sought m rows s).search
unfolding rounded
round_stays m rows s h = ap (λ (x : Network). round x (sought m rows s).search) (cond_false _ s (le-ltb (sought m rows s).search.at elements h))

-- what is left, and 1 more where another round follows
unfoldable ahead : Round → ℕ
ahead x = leftover x.now + cond (settled x) 0 1

ahead_stop : (x : Round) → settled x ≡ true → ahead x ≡ leftover x.now
unfolding ahead
ahead_stop x e = omega (arith, cond_true {A = ℕ} 0 1 e)

ahead_on : (x : Round) → settled x ≡ false → ahead x ≡ leftover x.now + 1
unfolding ahead
ahead_on x e = omega (arith, cond_false {A = ℕ} 0 1 e)

module _ (m : ℕ) (hm : m ≤ elements) (d : ℕ → ℕ) (small : (p : ℕ) → p < elements → d p ≤ 65535) (rows : List ℕ) where
  round_less : (s : Network) → Consistent d rows s → ahead (rounded m rows s) ≤ leftover s
  round_less s f =
      let q = sought m rows s in
      let r = sought_depth m hm rows s f.linked.fit in
      by_test (ltb q.search.at elements)
      (λ e.
      let h = ltb-true q.search.at elements e in
      rw (round_found m rows s h)
      (omega (
        arith,
        ahead_on (round (augmented elements q.lefts q.rights (walk s q.search.at)) q.search) (lt-leb elements q.search.at h),
        augmented_less m d small rows s f.linked q r.0 r.1 f.balanced h,
      )))
      (λ e.
      let h = ltb-false q.search.at elements e in
      rw (round_stays m rows s h) (omega (arith, ahead_stop (round s q.search) (le-leb elements q.search.at h))))

  settle_ends : (n : ℕ) (x : Round) → Consistent d rows x.now → ahead x ≤ n → settled (settle m n rows x) ≡ true
  settle_ends n x f h =
      (run_ends (λ y. Consistent d rows y.now) ahead settled (next m rows)
      (λ y e g. (round_consistent m hm d small rows y.now g, omega (arith, round_less y.now g, ahead_on y e)))
      (λ y g z. by_test (settled y) (λ e. e) (λ e. absurd (omega (arith, ahead_on y e))))
      n x f h).1

  pub left_le : (s : Network) → Consistent d rows s → leftover s ≤ (elements * 65535)
  left_le s f = sum_bound elements 65535 (λ i. get_or s.left i 0) (λ i l. omega (arith, f.balanced.rows i l, small i l))

  -- With a round for each unit that can be left, the last search finds nothing.
  pub solved_ends : (n : ℕ) (b : List ℕ) (s : Network) → Consistent d rows s → (elements * 65535) ≤ n → elements ≤ (solved m n rows b s).search.at
  unfolding solved
  solved_ends n b s f h =
      let g = start_consistent m hm d small rows b s f in
      leb-true elements (settle m n rows (rounded m rows (started rows b s))).search.at
      (settle_ends n (rounded m rows (started rows b s)) (round_consistent m hm d small rows (started rows b s) g)
      (omega (arith, round_less (started rows b s) g, left_le (started rows b s) g)))
