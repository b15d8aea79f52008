-- The certificate of a search that found nothing: no way leads out of the givers and takers that it reached.
use Rattle.std.proofs.Common.{◌≡◌, ℕ, ◌+◌, ◌-◌, ◌<◌, ◌≤◌, Bool, true, false, cond, eqb, ◌⊎◌, List, [], ◌∷◌, sym, refl, ap, ◌∙◌, inl, inr, ⊎_elim, lt_of_le_of_lt, arith, eq-eqb, eqb-true}
use lib.Bits.{and_le_l, and_le_r, bit_and, bit_or, or_lt}
use lib.Count.{ones, ones-le}
use borrow.Author.Tests.{eqb-false}
use Rattle.words.specs.Bits.{digit, minus, rest}
use Rattle.words.specs.model.Loops.{each, fold}
use Rattle.words.specs.Listing.{members}
use Rattle.words.proofs.Bits.{digit_and, digit_lt, digit_none, digit_minus, digit_or, zero_or_one}
use Rattle.words.proofs.Kept.{run_ends}
use Rattle.words.proofs.Members.{Has, digit_rest, low_lt, member_has}
use Rattle.words.proofs.Sizes.{ones_none, ones_or, ones_zero, ones_rest}
use Rattle.order.proofs.Stored.{in_bound, to_bound}
use Rattle.order.specs.Stored.{bound, elements, row as set_at}
use Rattle.solver.specs.model.Search.{Look}
use Rattle.solver.specs.model.Search.{Reached, Seen, advance, begun, ended, found, fresh, low, marks, onward, reach, reached, seen, visit}
use Rattle.solver.proofs.Digits.{Sub, join_lt, join_sub, ones_added, or_sub}

-- ---- a turn of a search, by what its tests say

-- the givers seen after a turn that goes on, and the takers with slack that it reached
abbrev pub sees : List ℕ → List ℕ → Reached → Seen
sees rows givers q = each elements (visit givers) (seen q.search.left q.lefts) (fresh rows q.search)

abbrev pub hits : List ℕ → ℕ → Reached → ℕ
hits rows slack q = bit_and (fresh rows q.search) slack

-- `onward`, by whether the frontier is done
abbrev pub onward_by : Bool → Look → ℕ → ℕ → Look
onward_by t s new left =
    cond t
    (record { frontier = bit_or s.next (minus left s.left); next = 0; left = left; right = bit_or s.right new; at = elements })
    (record { frontier = rest s.frontier; next = bit_or s.next (minus left s.left); left = left; right = bit_or s.right new; at = elements })

-- `advance`, by whether the search goes on
abbrev pub advance_by : Bool → List ℕ → List ℕ → ℕ → Reached → Reached
advance_by t rows givers slack q =
    let new = fresh rows q.search in
    let rights = marks q.rights new (low q.search.frontier) in
    let w = sees rows givers q in
    cond t (reached (onward q.search new w.word) w.parents rights) (reached (found q.search new (hits rows slack q)) q.lefts rights)

-- ---- the givers of takers are seen

-- the words of givers have elements digits
abbrev pub Fit : List ℕ → Type 0
Fit givers = (j : ℕ) → set_at givers j < bound

-- the givers of every taker of a list join
pub record Visited (givers : List ℕ) (bs : List ℕ) (old new : ℕ) : Type 0 where
  pub more : Sub old new
  pub all : (j : ℕ) → Has j bs → Sub (set_at givers j) new
  pub small : new < bound

visit_fold : (givers bs : List ℕ) → Fit givers → (s : Seen) → s.word < bound → Visited givers bs s.word (fold (visit givers) s bs).word
visit_fold givers [] f s l = record { more = λ i h e. e; all = λ j h. absurd h; small = l }
visit_fold givers (b ∷ bs) f s l =
    let t = visit_fold givers bs f (visit givers s b) (join_lt (set_at givers b) s.word (f b) l) in
    record {
      more = λ i h e. t.more i h (or_sub s.word (minus (set_at givers b) s.word) i h e);
      all = λ j m.
          ⊎_elim
          (λ q i h e. t.more i h (join_sub (set_at givers b) s.word i h (ap (λ (x : ℕ). digit (set_at givers x) i) (sym q) ∙ e)))
          (λ n. t.all j n)
          m;
      small = t.small;
    }

pub visit_each : (givers : List ℕ) → Fit givers → (s : Seen) (w : ℕ) → s.word < bound → Visited givers (members elements w) s.word (each elements (visit givers) s w).word
unfolding each
visit_each givers f s w l = visit_fold givers (members elements w) f s l

-- ---- a search that has found nothing yet

pub record Closing (rows givers : List ℕ) (roots slack : ℕ) (s : Look) : Type 0 where
  pub small_frontier : s.frontier < bound
  pub small_next : s.next < bound
  pub small_left : s.left < bound
  pub start : Sub roots s.left
  pub onto : (i : ℕ) → i < elements → digit s.left i ≡ 1 → digit s.frontier i ≡ 0 → digit s.next i ≡ 0 → Sub (set_at rows i) s.right
  pub back : (j : ℕ) → j < elements → digit s.right j ≡ 1 → Sub (set_at givers j) s.left
  pub tight : (j : ℕ) → j < elements → digit s.right j ≡ 1 → digit slack j ≡ 0
  pub level : s.frontier ≡ 0 → s.next ≡ 0

-- the turns that a search can still take: the givers that it has yet to go on from, with those that it has not seen
abbrev pub spare : Look → ℕ
spare s = ones s.frontier + ones s.next + (elements - ones s.left)

module _ (rows givers : List ℕ) (roots slack : ℕ) (s : Look) (c : Closing rows givers roots slack s) (p : 0 < s.frontier) (left' : ℕ)
    (w : Visited givers (members elements (fresh rows s)) s.left left') (z : bit_and (fresh rows s) slack ≡ 0) where
  abbrev right' : ℕ
  right' = bit_or s.right (fresh rows s)

  abbrev next' : ℕ
  next' = bit_or s.next (minus left' s.left)

  small_next' : next' < bound
  small_next' =
      let k : minus left' s.left < bound = omega (arith, w.small) in
      to_bound (or_lt elements s.next (minus left' s.left) (in_bound c.small_next) (in_bound k))

  onto' : (i : ℕ) → i < elements → digit left' i ≡ 1 → digit (rest s.frontier) i ≡ 0 → digit next' i ≡ 0 → Sub (set_at rows i) right'
  onto' i h e r n =
      ⊎_elim
      (λ l. absurd (omega (arith, digit_or s.next (minus left' s.left) i, digit_minus left' s.left i)))
      (λ l.
      ⊎_elim
      (λ f k m q. or_sub s.right (fresh rows s) k m (c.onto i h l f (omega (arith, digit_or s.next (minus left' s.left) i)) k m q))
      (λ f.
      ⊎_elim
      (λ q. absurd (omega arith))
      (λ q k m x. join_sub (set_at rows (low s.frontier)) s.right k m (ap (λ (y : ℕ). digit (set_at rows y) k) (sym q) ∙ x))
      (digit_rest elements s.frontier i (in_bound c.small_frontier) f))
      (zero_or_one s.frontier i))
      (zero_or_one s.left i)

  back' : (j : ℕ) → j < elements → digit right' j ≡ 1 → Sub (set_at givers j) left'
  back' j h e =
      ⊎_elim
      (λ r. w.all j (member_has elements (fresh rows s) j h (omega (arith, digit_or s.right (fresh rows s) j))))
      (λ r i l x. w.more i l (c.back j h r i l x))
      (zero_or_one s.right j)

  tight' : (j : ℕ) → j < elements → digit right' j ≡ 1 → digit slack j ≡ 0
  tight' j h e =
      ⊎_elim
      (λ r. omega (arith, digit_or s.right (fresh rows s) j, digit_and (fresh rows s) slack j, ap (λ (x : ℕ). digit x j) z, digit_none j))
      (λ r. c.tight j h r)
      (zero_or_one s.right j)

  start' : Sub roots left'
  start' i h e = w.more i h (c.start i h e)

  keep_last : rest s.frontier ≡ 0 → Closing rows givers roots slack (record { frontier = next'; next = 0; left = left'; right = right'; at = elements })
  keep_last l =
      record {
        small_frontier = small_next';
        small_next = omega arith;
        small_left = w.small;
        start = start';
        onto = λ i h e f n. onto' i h e (ap (λ (x : ℕ). digit x i) l ∙ digit_none i) f;
        back = back';
        tight = tight';
        level = λ e. refl;
      }

  keep_on : (rest s.frontier ≡ 0 → ⊥) → Closing rows givers roots slack (record { frontier = rest s.frontier; next = next'; left = left'; right = right'; at = elements })
  keep_on l =
      record {
        small_frontier = omega (arith, and_le_l s.frontier (s.frontier - 1), c.small_frontier);
        small_next = small_next';
        small_left = w.small;
        start = start';
        onto = onto';
        back = back';
        tight = tight';
        level = λ e. absurd (l e);
      }

  fewer : (ones (rest s.frontier) + ones next' + (elements - ones left')) < spare s
  fewer =
      let k : minus left' s.left < bound = omega (arith, w.small) in
      omega (
        arith,
        ones_rest elements s.frontier p (in_bound c.small_frontier),
        ones_or elements s.next (minus left' s.left) (in_bound c.small_next) (in_bound k),
        ones_added left' s.left w.small c.small_left w.more,
        ones-le elements left' (in_bound w.small),
      )

  abbrev Kept : Look → Type 0
  Kept t = Closing rows givers roots slack t × (spare t < spare s)

  keep_onward : Kept (onward s (fresh rows s) left')
  keep_onward = go (eqb (rest s.frontier) 0) refl
    where
      go : (t : Bool) → eqb (rest s.frontier) 0 ≡ t → Kept (onward_by t s (fresh rows s) left')
      go true e =
          let l = eqb-true (rest s.frontier) 0 e in
          (keep_last l, omega (arith, fewer, ones_zero))
      go false e = (keep_on (eqb-false (rest s.frontier) 0 e), fewer)

-- a search has ended at a taker with slack, or has found nothing yet
abbrev pub Going : List ℕ → List ℕ → ℕ → ℕ → Reached → Type 0
Going rows givers roots slack q = ((q.search.frontier ≡ 0) × (q.search.at < elements)) ⊎ Closing rows givers roots slack q.search

-- the roots that are not in `able` have none after them
abbrev pub Leads : List ℕ → ℕ → ℕ → Type 0
Leads rows able roots = (i : ℕ) → i < elements → digit roots i ≡ 1 → digit able i ≡ 0 → set_at rows i ≡ 0

-- it begins with no more turns than elements
pub begun_spare : (able roots : ℕ) → roots < bound → spare (begun able roots) ≤ elements
begun_spare able roots l =
    let k : bit_and roots able < bound = omega (arith, and_le_l roots able) in
    omega (
      arith,
      ones_zero,
      ones-le elements roots (in_bound l),
      ones_added roots (bit_and roots able) l k (λ i h e. omega (arith, digit_and roots able i, digit_lt roots i)),
    )

module _ (rows givers : List ℕ) (roots slack : ℕ) (fit : Fit givers) (few : slack < bound) where
  -- a turn keeps that, and leaves fewer turns
  abbrev Turned : Reached → Reached → Type 0
  Turned q r = Going rows givers roots slack r × (spare r.search < spare q.search)

  by_way : (q : Reached) → (q.search.frontier ≡ 0 → ⊥) → Closing rows givers roots slack q.search → (t : Bool) → eqb (hits rows slack q) 0 ≡ t
      → Turned q (advance_by t rows givers slack q)
  by_way q n c true e =
      let k =
      keep_onward rows givers roots slack q.search c (omega arith) (sees rows givers q).word
      (visit_each givers fit (seen q.search.left q.lefts) (fresh rows q.search) c.small_left) (eqb-true (hits rows slack q) 0 e) in
      (inr k.0, k.1)
  by_way q n c false e =
      let f = eqb-false (hits rows slack q) 0 e in (
        inl (refl, low_lt elements (hits rows slack q) (omega arith) (in_bound (lt_of_le_of_lt (and_le_r (fresh rows q.search) slack) few))),
        omega (arith, ones_zero, ones_rest elements q.search.frontier (omega arith) (in_bound c.small_frontier)),
      )

  after_turn : (q : Reached) → (q.search.frontier ≡ 0 → ⊥) → Closing rows givers roots slack q.search → Turned q (advance rows givers slack q)
  unfolding advance
  after_turn q n c = by_way q n c (eqb (hits rows slack q) 0) refl

  pub going_on : (q : Reached) → ended q ≡ false → Going rows givers roots slack q
      → Going rows givers roots slack (advance rows givers slack q) × (spare (advance rows givers slack q).search < spare q.search)
  going_on q e g =
      let n = eqb-false q.search.frontier 0 e in
      ⊎_elim (λ h. absurd (n h.0)) (λ c. after_turn q n c) g

  bottom : (q : Reached) → Going rows givers roots slack q → spare q.search ≡ 0 → ended q ≡ true
  bottom q g z = ⊎_elim (λ h. eq-eqb q.search.frontier 0 h.0) (λ c. eq-eqb q.search.frontier 0 (ones_none elements q.search.frontier (in_bound c.small_frontier) (omega arith))) g

  pub begins : (able : ℕ) → Leads rows able roots → roots < bound → Closing rows givers roots slack (begun able roots)
  begins able o l =
      record {
        small_frontier = lt_of_le_of_lt (and_le_l roots able) l;
        small_next = omega arith;
        small_left = l;
        start = λ i h e. e;
        onto = λ i h e f n j k x.
            absurd (omega (arith, ap (λ (y : ℕ). digit y j) (o i h e (omega (arith, digit_and roots able i))), digit_none j));
        back = λ j h e. absurd (omega (arith, digit_none j));
        tight = λ j h e. absurd (omega (arith, digit_none j));
        level = λ e. refl;
      }

  -- elements turns are enough
  pub reach_ends : (able : ℕ) → Leads rows able roots → (ls rs : List ℕ) → roots < bound
      → Going rows givers roots slack (reach elements rows givers slack (reached (begun able roots) ls rs))
      × (ended (reach elements rows givers slack (reached (begun able roots) ls rs)) ≡ true)
  reach_ends able o ls rs l =
      run_ends (Going rows givers roots slack) (λ q. spare q.search) ended (advance rows givers slack) going_on bottom elements (reached (begun able roots) ls rs)
      (inr (begins able o l)) (begun_spare able roots l)

-- ---- where it ends

-- the words of givers and of takers that no way leads out of: from the roots, along the order, and back along the flow; and no taker has slack
pub record Shut (rows givers : List ℕ) (roots slack left right : ℕ) : Type 0 where
  pub start : Sub roots left
  pub onto : (i : ℕ) → i < elements → digit left i ≡ 1 → Sub (set_at rows i) right
  pub back : (j : ℕ) → j < elements → digit right j ≡ 1 → Sub (set_at givers j) left
  pub tight : (j : ℕ) → j < elements → digit right j ≡ 1 → digit slack j ≡ 0

closed : {rows givers : List ℕ} {roots slack : ℕ} {s : Look} → s.frontier ≡ 0 → Closing rows givers roots slack s → Shut rows givers roots slack s.left s.right
closed z c =
    record {
      start = c.start;
      onto = λ i h e. c.onto i h e (ap (λ (x : ℕ). digit x i) z ∙ digit_none i) (ap (λ (x : ℕ). digit x i) (c.level z) ∙ digit_none i);
      back = c.back;
      tight = c.tight;
    }

-- a search that found nothing leaves such words
pub certificate : (rows givers : List ℕ) (able roots slack : ℕ) → Leads rows able roots → Fit givers → slack < bound → (ls rs : List ℕ) (q : Reached)
    → q ≡ reach elements rows givers slack (reached (begun able roots) ls rs) → roots < bound → elements ≤ q.search.at → Shut rows givers roots slack q.search.left q.search.right
certificate rows givers able roots slack o fit few ls rs q e l a =
    let g : Going rows givers roots slack q × (ended q ≡ true) = rw e (reach_ends rows givers roots slack fit few able o ls rs l) in
    ⊎_elim (λ h. absurd (omega arith)) (λ c. closed (eqb-true q.search.frontier 0 g.1) c) g.0
