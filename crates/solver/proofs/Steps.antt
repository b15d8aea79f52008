-- What the model comes to at each step, from the values that the code has in hand.
use Rattle.std.proofs.Common.{◌≡◌, true, false, le-leb, leb, Option, Some, None, is_some, MatchOption, ℕ, ◌+◌, ◌-◌, ◌*◌, ◌^◌, ◌<◌, ◌≤◌, min, List, get_or, set, sym, refl, ap, ◌∙◌, ap₂, add-one, arith, le-ltb, lt-ltb, eq-eqb, ne_eqb}
use borrow.Author.Tests.{lt-leb}
use lib.Bits.{bit_and, bit_or}
use Rattle.words.specs.Bits.{minus, with_bit, rest}
use Rattle.words.specs.model.Loops.{each}
use Rattle.words.proofs.Tests.{cond_true, cond_false}
use Rattle.order.specs.Stored.{elements, row as set_at, put_row, set_of}
use Rattle.solver.specs.model.Search.{Look}
use Rattle.solver.specs.declared.Quoted.{Quoted}
use Rattle.solver.specs.declared.Search.{Search}
use Rattle.solver.specs.model.Search.{ended_at, Found, low, marks, Seen, seen, visit, reached, fresh, found, onward, advance, begun, reach}
use Rattle.order.specs.model.Places.{positive}
use Rattle.solver.specs.model.Network.{Network, network, wrap, cell, giver, leaders, move, joined, shifted, walk, handing, augmented}
use Rattle.solver.specs.model.Solve.{blanks, Round, round, solved, rank_of, ranked_at, ranked, hand_rank, started, sought, rounded, settle}
use Rattle.solver.specs.model.Quote.{untouched, outcome, amount, told, quoted, quote_in}

-- ---- a search

-- the taker j adds those that give to it and were not seen before
pub visits : {row new word : ℕ} {marked : List ℕ} (givers : List ℕ) (s : Seen) (j : ℕ) → row ≡ set_at givers j → new ≡ minus row s.word
    → word ≡ bit_or s.word new → marked ≡ marks s.parents new j → seen word marked ≡ visit givers s j
visits givers s j f n u m =
    let e = n ∙ ap (λ (x : ℕ). minus x s.word) f in
    ap₂ seen (u ∙ ap (bit_or s.word) e) (m ∙ ap (λ (x : ℕ). marks s.parents x j) e)

-- what it has found is a taker, or it has found none
pub found_at : (s : Search) {j : ℕ} → s.at ≡ Some j → Found s → (ended_at s.at ≡ j) × (j < elements)
found_at s e h = (ap ended_at e, rw e at h)

pub found_none : (s : Search) → s.at ≡ None → ended_at s.at ≡ elements
found_none s e = ap ended_at e

pub settled_none : (o : Option ℕ) → is_some o ≡ false → leb elements (ended_at o) ≡ true
settled_none None e = le-leb elements elements (omega arith)
settled_none (Some j) e = absurd (cc)

pub settled_some : (o : Option ℕ) → is_some o ≡ true → MatchOption o (Unit {0}) (λ j. j < elements)
    → leb elements (ended_at o) ≡ false
settled_some None e h = absurd (cc)
settled_some (Some j) e h = lt-leb elements j h

-- where a search begins
pub begins : {none begin : ℕ} (able roots : ℕ) → none ≡ 0 → begin ≡ bit_and roots able
    → record { frontier = begin; next = none; left = roots; right = none; at = elements } ≡ begun able roots
begins able roots z e = ap₂ (λ (x y : ℕ). record { frontier = y; next = x; left = roots; right = x; at = elements }) z e

-- a turn at the giver i, which reaches the takers `new`

module _ (rows givers : List ℕ) (slack : ℕ) (s : Look) (lefts rights : List ℕ) where
  hit_at : (bit_and (fresh rows s) slack ≡ 0 → ⊥)
      → advance rows givers slack (reached s lefts rights)
      ≡ reached (found s (fresh rows s) (bit_and (fresh rows s) slack)) lefts (marks rights (fresh rows s) (low s.frontier))
  unfolding advance
  hit_at n = cond_false _ _ (ne_eqb _ _ n)

  miss_at : (w : Seen) → w ≡ each elements (visit givers) (seen s.left lefts) (fresh rows s) → bit_and (fresh rows s) slack ≡ 0
      → advance rows givers slack (reached s lefts rights)
      ≡ reached (onward s (fresh rows s) w.word) w.parents (marks rights (fresh rows s) (low s.frontier))
  unfolding advance
  miss_at w e z = rw e (cond_true _ _ (eq-eqb _ _ z))

  module _ (i : ℕ) (e : i ≡ low s.frontier) (new : ℕ) (n : new ≡ minus (set_at rows i) s.right) (marked : List ℕ)
      (m : marked ≡ marks rights new i) where
    same : new ≡ fresh rows s
    same = n ∙ ap (λ (x : ℕ). minus (set_at rows x) s.right) e

    same_marks : marked ≡ marks rights (fresh rows s) (low s.frontier)
    same_marks = m ∙ ap₂ (marks rights) same e

    pub turn_hit : {at : ℕ} → (bit_and new slack ≡ 0 → ⊥) → at ≡ low (bit_and new slack)
        → reached (record { frontier = 0; next = 0; left = s.left; right = bit_or s.right new; at = at }) lefts marked
        ≡ advance rows givers slack (reached s lefts rights)
    turn_hit h q = cc (same, same_marks, hit_at (λ z. h (ap (λ (x : ℕ). bit_and x slack) same ∙ z)))

    module _ {left r : ℕ} {lefts' : List ℕ} (o : r ≡ rest s.frontier)
        (w : seen left lefts' ≡ each elements (visit givers) (seen s.left lefts) new) (z : bit_and new slack ≡ 0) where
      missed : advance rows givers slack (reached s lefts rights)
          ≡ reached (onward s (fresh rows s) left) lefts' (marks rights (fresh rows s) (low s.frontier))
      missed =
          miss_at (seen left lefts') (w ∙ ap (each elements (visit givers) (seen s.left lefts)) same)
          (ap (λ (x : ℕ). bit_and x slack) (sym same) ∙ z)

      pub turn_last : r ≡ 0
          → reached (record { frontier = bit_or s.next (minus left s.left); next = 0; left = left; right = bit_or s.right new; at = elements }) lefts' marked
          ≡ advance rows givers slack (reached s lefts rights)
      turn_last l = cc (same, same_marks, missed, eq-eqb (rest s.frontier) 0 (sym o ∙ l))

      pub turn_on : (r ≡ 0 → ⊥)
          → reached (record { frontier = r; next = bit_or s.next (minus left s.left); left = left; right = bit_or s.right new; at = elements }) lefts' marked
          ≡ advance rows givers slack (reached s lefts rights)
      turn_on l = cc (same, same_marks, missed, ne_eqb (rest s.frontier) 0 (λ y. l (o ∙ y)))

-- the same turns, with the numbers of the sets that code has in hand
module _ (rows givers : List ℕ) (slack : ℕ) (s : Look) (lefts rights : List ℕ) (i : ℕ) (e : i ≡ low s.frontier) (row new : ℕ) (f : row ≡ set_at rows i)
    (n : new ≡ minus row s.right) (marked : List ℕ) (m : marked ≡ marks rights new i) (right hit : ℕ) (u : right ≡ bit_or s.right new)
    (x : hit ≡ bit_and new slack) where
  fetched : new ≡ minus (set_at rows i) s.right
  fetched = n ∙ ap (λ (w : ℕ). minus w s.right) f

  pub look_hit : {none at : ℕ} → none ≡ 0 → (hit ≡ 0 → ⊥) → at ≡ low hit
      → reached (record { frontier = none; next = none; left = s.left; right = right; at = at }) lefts marked ≡ advance rows givers slack (reached s lefts rights)
  look_hit z h q = cc (z, u) ∙ turn_hit rows givers slack s lefts rights i e new fetched marked m (λ y. h (x ∙ y)) (q ∙ ap low x)

  module _ {left r added next : ℕ} {lefts' : List ℕ} (o : r ≡ rest s.frontier) (w : seen left lefts' ≡ each elements (visit givers) (seen s.left lefts) new)
      (z : hit ≡ 0) (a : added ≡ minus left s.left) (b : next ≡ bit_or s.next added) where
    pub look_last : {none : ℕ} → none ≡ 0 → r ≡ 0
        → reached (record { frontier = next; next = none; left = left; right = right; at = elements }) lefts' marked ≡ advance rows givers slack (reached s lefts rights)
    look_last v l = cc (v, u, a, b) ∙ turn_last rows givers slack s lefts rights i e new fetched marked m o w (sym x ∙ z) l

    pub look_on : (r ≡ 0 → ⊥)
        → reached (record { frontier = r; next = next; left = left; right = right; at = elements }) lefts' marked ≡ advance rows givers slack (reached s lefts rights)
    look_on l = cc (u, a, b) ∙ turn_on rows givers slack s lefts rights i e new fetched marked m o w (sym x ∙ z) l

-- ---- the moves

pub given_none : {v : ℕ} (w i n : ℕ) → v ≡ minus w (2 ^ i) → n ≡ 0 → v ≡ giver w i n
unfolding giver
given_none w i n e z = e ∙ sym (cond_true (minus w (2 ^ i)) (with_bit w i) (eq-eqb n 0 z))

pub given_some : {v : ℕ} (w i n : ℕ) → v ≡ with_bit w i → (n ≡ 0 → ⊥) → v ≡ giver w i n
unfolding giver
given_some w i n e z = e ∙ sym (cond_false (minus w (2 ^ i)) (with_bit w i) (ne_eqb n 0 z))

pub joins : (s : Network) (i j : ℕ) {d : ℕ} → d ≡ min (get_or s.left i 0) (get_or s.right j 0)
    → move (network s.flow s.givers (set s.left i (get_or s.left i 0 - d))
    (set s.right j (get_or s.right j 0 - d))) i j (wrap (get_or s.flow (cell i j) 0 + d))
    ≡ joined s i j
unfolding joined
joins s i j e = rw e refl

pub shifts : (s : Network) (i k j : ℕ) {d : ℕ} {t u : Network}
    → d ≡ min (get_or s.right j 0) (get_or s.flow (cell i k) 0)
    → t ≡ move (network s.flow s.givers s.left
    (set (set s.right j (get_or s.right j 0 - d)) k
    (wrap (get_or (set s.right j (get_or s.right j 0 - d)) k 0 + d)))) i k (get_or s.flow (cell i k) 0 - d)
    → u ≡ move t i j (wrap (get_or t.flow (cell i j) 0 + d)) → u ≡ shifted s i k j
unfolding shifted
shifts s i k j {d} e p q = q ∙ ap (λ (x : Network). move x i j (wrap (get_or x.flow (cell i j) 0 + d))) p ∙ rw e refl

-- where one of the two has nothing left nothing is handed over
module _ (i : ℕ) (s : Network) where
  pub hands_none : (j : ℕ) {d : ℕ} → d ≡ min (get_or s.left i 0) (get_or s.right j 0) → d ≡ 0 → s ≡ handing i s j
  unfolding handing
  hands_none j e z = sym (cond_true s (joined s i j) (eq-eqb (min (get_or s.left i 0) (get_or s.right j 0)) 0 (sym e ∙ z)))

  pub hands_some : (j : ℕ) {d : ℕ} → d ≡ min (get_or s.left i 0) (get_or s.right j 0) → (d ≡ 0 → ⊥) → joined s i j ≡ handing i s j
  unfolding handing
  hands_some j e n = sym (cond_false s (joined s i j) (ne_eqb (min (get_or s.left i 0) (get_or s.right j 0)) 0 (λ z. n (e ∙ z))))

  pub hands_spent : get_or s.left i 0 ≡ 0 → (j : ℕ) → handing i s j ≡ s
  hands_spent z j = sym (hands_none j refl (omega arith))

pub rank_some : (row i : ℕ) (b : List ℕ) (c w : ℕ) → (row ≡ 0 → ⊥) → c ≡ rank_of row → w ≡ with_bit (set_at b c) i → put_row b c w ≡ ranked_at row i b
rank_some row i b c w z e q = cc (e, q) ∙ sym (cond_false _ _ (ne_eqb row 0 z))

-- ---- rounds

module _ (m : ℕ) (rows : List ℕ) (s : Network) (able roots slack : ℕ) (lefts₀ rights₀ lefts rights : List ℕ) (q : Look)
    (o : able ≡ leaders m rows) (a : roots ≡ positive m s.left) (b : slack ≡ positive m s.right) (el : lefts₀ ≡ blanks elements) (er : rights₀ ≡ blanks 0)
    (e : reached q lefts rights ≡ reach elements rows s.givers slack (reached (begun able roots) lefts₀ rights₀)) where
  seen_as : reached q lefts rights ≡ sought m rows s
  seen_as = cc

  pub round_found : (s' : Network) → q.at < elements → s' ≡ augmented elements lefts rights (walk s q.at) → round s' q ≡ rounded m rows s
  unfolding rounded
  round_found s' h t = rw (← seen_as) (ap (λ (x : Network). round x q) (t ∙ sym (cond_true _ _ (lt-ltb _ _ h))))

  pub round_none : elements ≤ q.at → round s q ≡ rounded m rows s
  unfolding rounded
  round_none h = rw (← seen_as) (ap (λ (x : Network). round x q) (sym (cond_false _ _ (le-ltb _ _ h))))

pub solves : {t : Network} {x : Round} (m n : ℕ) (rows b : List ℕ) (s : Network) {w : ℕ}
    → t ≡ each elements (hand_rank rows b) s w → w ≡ leaders elements b → x ≡ rounded m rows t → settle m n rows x ≡ solved m n rows b s
unfolding solved started
solves m n rows b s e l q = ap (settle m n rows) (q ∙ ap (rounded m rows) (e ∙ ap (each elements (hand_rank rows b) s) l))

-- ---- the quote

pub amount_none : (a : List ℕ) → 0 ≡ amount 0 a
unfolding amount
amount_none a = refl

pub amount_more : (a : List ℕ) (i t v : ℕ) → t ≡ amount i a → v ≡ wrap (t + get_or a i 0) → v ≡ amount (i + 1) a
unfolding amount
amount_more a i t v e q = q ∙ ap (λ (x : ℕ). wrap (x + get_or a i 0)) e ∙ ap (λ (x : ℕ). amount x a) (sym (add-one i))

pub tells : (m : ℕ) (l : List ℕ) (q : Look) (w : ℕ) {n v : ℕ} → n ≡ amount m l → v ≡ minus q.left q.right
    → ◌≡◌ {A = Quoted} (record { need = n; set = set_of (bit_and v w) }) (told m l q w)
tells m l q w a h = cc (a, h)

module _ (m : ℕ) (rows demand : List ℕ) {b : List ℕ} {s t : Network} {q : Look}
    (eb : b ≡ ranked m rows) (es : s ≡ untouched m demand) (e : round t q ≡ solved m (elements * 65535) rows b s) where
  ends_as : round t q ≡ outcome m rows demand
  unfolding outcome
  ends_as = cc

  pub ends_at : t ≡ (outcome m rows demand).now
  ends_at = ap (λ (x : Round). x.now) ends_as

  pub quotes : {x : Quoted} {w : ℕ} → x ≡ told m t.left q w → w ≡ positive m demand → x ≡ quote_in m rows demand
  unfolding quote_in
  quotes a b = a ∙ ap (told m t.left q) b ∙ ap (quoted m demand) ends_as
