-- The turn at which a search discovered each giver and taker: along the parents it falls, so that
-- the way back comes to a root.
use Rattle.std.proofs.Common.{◌≡◌, ℕ, suc, ◌+◌, ◌<◌, ◌≤◌, Bool, true, false, cond, eqb, ◌⊎◌, List, length, get_or, refl, ◌∙◌, inl, inr, ⊎_elim, arith}
use lib.Bits.{bit_and, bit_or}
use borrow.Author.Tests.{eqb-false}
use Rattle.words.specs.Bits.{bit, digit, minus, rest}
use Rattle.words.specs.model.Loops.{each}
use Rattle.words.proofs.Bits.{bit_none, bit_one, digit_and, digit_lt, digit_minus, digit_none, digit_or, zero_or_one}
use Rattle.words.proofs.Kept.{each_keeps, run_keeps}
use Rattle.words.proofs.Members.{low_lt}
use Rattle.words.proofs.Tests.{cond_false, cond_true}
use Rattle.order.proofs.Stored.{in_bound}
use Rattle.order.specs.Stored.{bound, elements, row as set_at}
use Rattle.solver.specs.model.Search.{Reached, Seen, advance, begun, ended, found, fresh, low, marks, onward, reach, reached, seen, visit}
use Rattle.order.specs.model.Places.{positive}
use Rattle.solver.specs.model.Network.{Network, leaders}
use Rattle.solver.specs.model.Solve.{blanks, sought}
use Rattle.solver.proofs.Positive.{leads, positive_lt}
use Rattle.solver.proofs.Digits.{low_digit, or_sub}
use Rattle.solver.proofs.Certificate.{Closing, Fit, Going, Leads, advance_by, begins, begun_spare, going_on, onward_by, sees, spare}
use Rattle.solver.proofs.Tree.{Tree, begun_tree, marks_in, marks_length, marks_out, tree_turn}

-- what a turn does to the parent of the giver i: it keeps it where i was seen, and else it is a taker
module _ (givers : List ℕ) (i : ℕ) (hi : i < elements) where
  abbrev Stays : ℕ → Seen → Type 0
  Stays v s = (digit s.word i ≡ 1) × (get_or s.parents i 0 ≡ v)

  stays : (v : ℕ) (s : Seen) (j : ℕ) → Stays v s → Stays v (visit givers s j)
  stays v s j p =
      let back = minus (set_at givers j) s.word in
      let z : digit back i ≡ 0 = omega (arith, digit_minus (set_at givers j) s.word i, digit_lt (set_at givers j) i, p.0) in
      (or_sub s.word back i hi p.0, marks_out s.parents back j i z ∙ p.1)

  kept_parent : (s : Seen) (w : ℕ) → digit s.word i ≡ 1 → get_or (each elements (visit givers) s w).parents i 0 ≡ get_or s.parents i 0
  kept_parent s w e =
      (each_keeps (Stays (get_or s.parents i 0)) elements (visit givers) w (λ t j h m p. stays (get_or s.parents i 0) t j p) s (e, refl)).1

  abbrev Comes : Seen → Type 0
  Comes s = (length s.parents ≡ elements) × ((digit s.word i ≡ 0) ⊎ (get_or s.parents i 0 < elements))

  comes : (s : Seen) (j : ℕ) → j < elements → Comes s → Comes (visit givers s j)
  comes s j h p =
      let back = minus (set_at givers j) s.word in (
        marks_length s.parents back j ∙ p.0,
        ⊎_elim
            (λ o. ⊎_elim (λ z. inl (omega (arith, digit_or s.word back i))) (λ k. inr (rw (marks_out s.parents back j i o) k)) p.1)
            (λ o. inr (rw (marks_in s.parents back j i hi (omega (arith, p.0)) o) h))
            (zero_or_one back i),
      )

  new_parent : (s : Seen) (w : ℕ) → length s.parents ≡ elements → digit s.word i ≡ 0
      → digit (each elements (visit givers) s w).word i ≡ 1 → get_or (each elements (visit givers) s w).parents i 0 < elements
  new_parent s w l z e =
      ⊎_elim (λ o. absurd (omega arith)) (λ k. k) (each_keeps Comes elements (visit givers) w (λ t j h m p. comes t j h p) s (l, inl z)).1

-- a taker is discovered after the giver that led to it, and a giver not before the taker that led to it, unless it is a root
pub record Depth (roots slack : ℕ) (q : Reached) : Type 0 where
  pub turns : ℕ
  pub fits : turns + spare q.search ≤ elements
  pub of_left : ℕ → ℕ
  pub of_right : ℕ → ℕ
  pub left_le : (i : ℕ) → i < elements → digit q.search.left i ≡ 1 → of_left i ≤ turns
  pub right_le : (j : ℕ) → j < elements → digit q.search.right j ≡ 1 → of_right j ≤ turns
  pub came : (j : ℕ) → j < elements → digit q.search.right j ≡ 1 → of_left (get_or q.rights j 0) < of_right j
  pub led : (i : ℕ) → i < elements → digit q.search.left i ≡ 1 → get_or q.lefts i 0 < elements → of_right (get_or q.lefts i 0) ≤ of_left i
  pub root : (i : ℕ) → i < elements → digit q.search.left i ≡ 1 → elements ≤ get_or q.lefts i 0 → digit roots i ≡ 1
  pub goal : q.search.at < elements → digit slack q.search.at ≡ 1

-- the turn of the element i: the one that it has where it is a member of w, and else this one
unfoldable dated : ℕ → (ℕ → ℕ) → ℕ → ℕ → ℕ
dated w g n i = cond (bit w i) (g i) n

dated_old : (w : ℕ) (g : ℕ → ℕ) (n i : ℕ) → digit w i ≡ 1 → dated w g n i ≡ g i
unfolding dated
dated_old w g n i e = cond_true (g i) n (bit_one w i e)

dated_new : (w : ℕ) (g : ℕ → ℕ) (n i : ℕ) → digit w i ≡ 0 → dated w g n i ≡ n
unfolding dated
dated_new w g n i e = cond_false (g i) n (bit_none w i e)

dated_le : (w : ℕ) (g : ℕ → ℕ) (n i : ℕ) → (digit w i ≡ 1 → g i ≤ n) → dated w g (suc n) i ≤ suc n
dated_le w g n i h =
    ⊎_elim (λ z. omega (arith, dated_new w g (suc n) i z)) (λ e. omega (arith, dated_old w g (suc n) i e, h e)) (zero_or_one w i)

module _ (rows givers : List ℕ) (roots slack : ℕ) (fit : Fit givers) (q : Reached) (c : Closing rows givers roots slack q.search) (t : Tree rows givers q) (p : 0 < q.search.frontier)
    (D : Depth roots slack q) where
  abbrev i₀ : ℕ
  i₀ = low q.search.frontier

  abbrev new : ℕ
  new = fresh rows q.search

  abbrev right' : ℕ
  right' = bit_or q.search.right new

  abbrev rights' : List ℕ
  rights' = marks q.rights new i₀

  abbrev w : Seen
  w = sees rows givers q

  abbrev now : ℕ
  now = suc D.turns

  abbrev of_left' : ℕ → ℕ
  of_left' = dated q.search.left D.of_left now

  abbrev of_right' : ℕ → ℕ
  of_right' = dated q.search.right D.of_right now

  left_le' : (i : ℕ) → i < elements → of_left' i ≤ now
  left_le' i h = dated_le q.search.left D.of_left D.turns i (D.left_le i h)

  right_le' : (j : ℕ) → j < elements → of_right' j ≤ now
  right_le' j h = dated_le q.search.right D.of_right D.turns j (D.right_le j h)

  old_right : (j : ℕ) → digit right' j ≡ 1 → digit new j ≡ 0 → digit q.search.right j ≡ 1
  old_right j e o = omega (arith, digit_or q.search.right new j)

  new_right : (j : ℕ) → digit new j ≡ 1 → digit q.search.right j ≡ 0
  new_right j o = omega (arith, digit_minus (set_at rows i₀) q.search.right j, digit_lt (set_at rows i₀) j)

  first_lt : i₀ < elements
  first_lt = low_lt elements q.search.frontier p (in_bound c.small_frontier)

  first_left : digit q.search.left i₀ ≡ 1
  first_left = t.pending i₀ first_lt (low_digit q.search.frontier first_lt)

  came_old : (j k : ℕ) → j < elements → digit q.search.right j ≡ 1 → k ≡ get_or q.rights j 0 → of_left' k < of_right' j
  came_old j k h r v =
      rw v
      (omega (
        arith,
        dated_old q.search.left D.of_left now (get_or q.rights j 0) (t.came j h r).1,
        dated_old q.search.right D.of_right now j r,
        D.came j h r,
      ))

  came_new : (j k : ℕ) → digit q.search.right j ≡ 0 → k ≡ i₀ → of_left' k < of_right' j
  came_new j k r v =
      rw v
      (omega (
        arith,
        dated_old q.search.left D.of_left now i₀ first_left,
        dated_new q.search.right D.of_right now j r,
        D.left_le i₀ first_lt first_left,
      ))

  came' : (j : ℕ) → j < elements → digit right' j ≡ 1 → of_left' (get_or rights' j 0) < of_right' j
  came' j h e =
      ⊎_elim
      (λ o. came_old j (get_or rights' j 0) h (old_right j e o) (marks_out q.rights new i₀ j o))
      (λ o. came_new j (get_or rights' j 0) (new_right j o) (marks_in q.rights new i₀ j h (omega (arith, t.rights_long)) o))
      (zero_or_one new j)

  -- a giver that was seen before this turn
  led_old : (i k : ℕ) → i < elements → digit q.search.left i ≡ 1 → k ≡ get_or q.lefts i 0 → k < elements → of_right' k ≤ of_left' i
  led_old i k h e v l =
      ⊎_elim
      (λ x. absurd (omega arith))
      (λ x.
      rw v
      (omega (
        arith,
        dated_old q.search.left D.of_left now i e,
        dated_old q.search.right D.of_right now (get_or q.lefts i 0) x.1,
        D.led i h e x.0,
      )))
      (t.led i h e)

  kept : (i : ℕ) → i < elements → digit q.search.left i ≡ 1 → get_or w.parents i 0 ≡ get_or q.lefts i 0
  kept i h e = kept_parent givers i h (seen q.search.left q.lefts) new e

  led' : (i : ℕ) → i < elements → digit w.word i ≡ 1 → get_or w.parents i 0 < elements → of_right' (get_or w.parents i 0) ≤ of_left' i
  led' i h e l =
      ⊎_elim
      (λ z. omega (arith, dated_new q.search.left D.of_left now i z, right_le' (get_or w.parents i 0) l))
      (λ o. led_old i (get_or w.parents i 0) h o (kept i h o) l)
      (zero_or_one q.search.left i)

  root' : (i : ℕ) → i < elements → digit w.word i ≡ 1 → elements ≤ get_or w.parents i 0 → digit roots i ≡ 1
  root' i h e l =
      ⊎_elim
      (λ z. absurd (omega (arith, new_parent givers i h (seen q.search.left q.lefts) new t.lefts_long z e)))
      (λ o. D.root i h o (omega (arith, kept i h o)))
      (zero_or_one q.search.left i)

  goal' : low (bit_and new slack) < elements → digit slack (low (bit_and new slack)) ≡ 1
  goal' h =
      let k = low (bit_and new slack) in
      omega (arith, low_digit (bit_and new slack) h, digit_and new slack k, digit_lt slack k)

  depth_found : spare (found q.search new (bit_and new slack)) < spare q.search → Depth roots slack (reached (found q.search new (bit_and new slack)) q.lefts rights')
  depth_found f =
      record {
        turns = now;
        fits = omega (arith, D.fits);
        of_left = of_left';
        of_right = of_right';
        left_le = λ i h e. left_le' i h;
        right_le = λ j h e. right_le' j h;
        came = came';
        led = λ i h e l. led_old i (get_or q.lefts i 0) h e refl l;
        root = D.root;
        goal = goal';
      }

  depth_onward : spare (onward q.search new w.word) < spare q.search → Depth roots slack (reached (onward q.search new w.word) w.parents rights')
  depth_onward f = go (eqb (rest q.search.frontier) 0) f
    where
      go : (b : Bool) → spare (onward_by b q.search new w.word) < spare q.search → Depth roots slack (reached (onward_by b q.search new w.word) w.parents rights')
      go true x =
          record {
            turns = now;
            fits = omega (arith, D.fits);
            of_left = of_left';
            of_right = of_right';
            left_le = λ i h e. left_le' i h;
            right_le = λ j h e. right_le' j h;
            came = came';
            led = led';
            root = root';
            goal = λ h. absurd (omega arith);
          }
      go false x =
          record {
            turns = now;
            fits = omega (arith, D.fits);
            of_left = of_left';
            of_right = of_right';
            left_le = λ i h e. left_le' i h;
            right_le = λ j h e. right_le' j h;
            came = came';
            led = led';
            root = root';
            goal = λ h. absurd (omega arith);
          }

  depth_either : (b : Bool) → spare (advance_by b rows givers slack q).search < spare q.search → Depth roots slack (advance_by b rows givers slack q)
  depth_either true f = depth_onward f
  depth_either false f = depth_found f

  depth_turn : spare (advance rows givers slack q).search < spare q.search → Depth roots slack (advance rows givers slack q)
  unfolding advance
  depth_turn f = depth_either (eqb (bit_and new slack) 0) f

module _ (rows givers : List ℕ) (roots slack : ℕ) (fit : Fit givers) (few : slack < bound) where
  abbrev All : Reached → Type 0
  All q = Going rows givers roots slack q × Tree rows givers q × Depth roots slack q

  all_on : (q : Reached) → ended q ≡ false → All q → All (advance rows givers slack q)
  all_on q e b =
      let n = eqb-false q.search.frontier 0 e in
      let g = going_on rows givers roots slack fit few q e b.0 in (
        g.0,
        ⊎_elim (λ h. absurd (n h.0)) (λ c. tree_turn rows givers roots slack fit q c b.1 (omega arith)) b.0,
        ⊎_elim (λ h. absurd (n h.0)) (λ c. depth_turn rows givers roots slack fit q c b.1 (omega arith) b.2 g.1) b.0,
      )

  begun_depth : (able : ℕ) → roots < bound → Depth roots slack (reached (begun able roots) (blanks elements) (blanks 0))
  unfolding blanks
  begun_depth able l =
      record {
        turns = 0;
        fits = omega (arith, begun_spare able roots l);
        of_left = λ i. 0;
        of_right = λ j. 0;
        left_le = λ i h e. omega arith;
        right_le = λ j h e. omega arith;
        came = λ j h e. absurd (omega (arith, digit_none j));
        led = λ i h e m. omega arith;
        root = λ i h e m. e;
        goal = λ h. absurd (omega arith);
      }

  -- the parents that a search leaves, and when it discovered them
  reach_depth : (able : ℕ) → Leads rows able roots → (n : ℕ) → roots < bound
      → Tree rows givers (reach n rows givers slack (reached (begun able roots) (blanks elements) (blanks 0)))
      × Depth roots slack (reach n rows givers slack (reached (begun able roots) (blanks elements) (blanks 0)))
  reach_depth able o n l =
      run_keeps All (λ q. Tree rows givers q × Depth roots slack q) ended (λ x. x) (λ x. x) (advance rows givers slack) all_on (λ q e b. (b.1, b.2)) (λ q b. (b.1, b.2)) n
      (reached (begun able roots) (blanks elements) (blanks 0)) (inr (begins rows givers roots slack fit few able o l), begun_tree rows givers able roots, begun_depth able l)

-- so for the search of a round
pub sought_depth : (m : ℕ) → m ≤ elements → (rows : List ℕ) (s : Network) → Fit s.givers
    → Tree rows s.givers (sought m rows s) × Depth (positive m s.left) (positive m s.right) (sought m rows s)
sought_depth m hm rows s fit =
    reach_depth rows s.givers (positive m s.left) (positive m s.right) fit (positive_lt m s.right hm) (leaders m rows) (λ i h. leads m rows s.left i) elements
    (positive_lt m s.left hm)
