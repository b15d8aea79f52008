-- The parents of a search: a taker that it reached has a giver before it that it saw, and a giver is a root or gives
-- to a taker that it reached.
use Rattle.std.proofs.Common.{◌≡◌, ℕ, ◌-◌, ◌<◌, Bool, true, false, eqb, ◌⊎◌, List, [], ◌∷◌, length, get_or, set, refl, ap, ◌∙◌, inl, inr, ⊎_elim, arith, length-set, get_or-set_other, get_or-set_same}
use lib.Bits.{bit_and, bit_or}
use lib.ListN.{get_or-replicate, length-replicate}
use Rattle.words.specs.Bits.{digit, minus, rest}
use Rattle.words.specs.model.Loops.{each, fold}
use Rattle.words.specs.Listing.{members}
use Rattle.words.proofs.Bits.{digit_and, digit_lt, digit_minus, digit_none, digit_or, zero_or_one}
use Rattle.words.proofs.Kept.{each_keeps}
use Rattle.words.proofs.Members.{Has, has_member, low_lt, member_has}
use Rattle.words.proofs.Tests.{same_or_not}
use Rattle.order.proofs.Stored.{in_bound}
use Rattle.order.specs.Stored.{elements, row as set_at}
use Rattle.solver.specs.model.Search.{Reached, Seen, advance, begun, found, fresh, low, marks, onward, put, reached, seen, visit}
use Rattle.solver.specs.model.Solve.{blanks}
use Rattle.solver.proofs.Digits.{Sub, digit_added, low_digit, none_sub, or_sub}
use Rattle.solver.proofs.Certificate.{Closing, Fit, advance_by, onward_by, sees, visit_each}

-- ---- the members of a word get a parent, and no others

put_kept : (v : ℕ) (bs ps : List ℕ) (b : ℕ) → b < length ps → get_or ps b 0 ≡ v → get_or (fold (put v) ps bs) b 0 ≡ v
put_kept v [] ps b l e = e
put_kept v (x ∷ bs) ps b l e =
    put_kept v bs (set ps x v) b (simp length-set l)
    (⊎_elim (λ q. ap (λ (y : ℕ). get_or (set ps x v) y 0) q ∙ get_or-set_same ps x v 0 (rw (← q) l)) (λ n. get_or-set_other ps x b v 0 n ∙ e) (same_or_not b x))

put_in : (v : ℕ) (bs ps : List ℕ) (b : ℕ) → b < length ps → Has b bs → get_or (fold (put v) ps bs) b 0 ≡ v
put_in v [] ps b l h = absurd h
put_in v (x ∷ bs) ps b l h =
    ⊎_elim
    (λ q. put_kept v bs (set ps x v) b (simp length-set l) (ap (λ (y : ℕ). get_or (set ps x v) y 0) q ∙ get_or-set_same ps x v 0 (rw (← q) l)))
    (λ m. put_in v bs (set ps x v) b (simp length-set l) m)
    h

put_out : (v : ℕ) (bs ps : List ℕ) (b : ℕ) → (Has b bs → ⊥) → get_or (fold (put v) ps bs) b 0 ≡ get_or ps b 0
put_out v [] ps b n = refl
put_out v (x ∷ bs) ps b n = put_out v bs (set ps x v) b (λ m. n (inr m)) ∙ get_or-set_other ps x b v 0 (λ q. n (inl q))

put_length : (v : ℕ) (bs ps : List ℕ) → length (fold (put v) ps bs) ≡ length ps
put_length v [] ps = refl
put_length v (x ∷ bs) ps = put_length v bs (set ps x v) ∙ length-set ps x v

pub marks_length : (ps : List ℕ) (w v : ℕ) → length (marks ps w v) ≡ length ps
unfolding each
marks_length ps w v = put_length v (members elements w) ps

pub marks_in : (ps : List ℕ) (w v b : ℕ) → b < elements → b < length ps → digit w b ≡ 1 → get_or (marks ps w v) b 0 ≡ v
unfolding each
marks_in ps w v b h l e = put_in v (members elements w) ps b l (member_has elements w b h e)

pub marks_out : (ps : List ℕ) (w v b : ℕ) → digit w b ≡ 0 → get_or (marks ps w v) b 0 ≡ get_or ps b 0
unfolding each
marks_out ps w v b e = put_out v (members elements w) ps b (λ m. absurd (omega (arith, (has_member elements w b m).0)))

-- ---- the parents of the givers

-- a giver i with the parent k: a root, or it gives to k, which was reached
abbrev pub Led : ℕ → List ℕ → ℕ → ℕ → Type 0
Led right givers i k = (k ≡ elements) ⊎ ((k < elements) × (digit right k ≡ 1) × (digit (set_at givers k) i ≡ 1))

pub record Grown (right : ℕ) (givers : List ℕ) (s : Seen) : Type 0 where
  pub long : length s.parents ≡ elements
  pub led : (i : ℕ) → i < elements → digit s.word i ≡ 1 → Led right givers i (get_or s.parents i 0)

visit_grown : (right : ℕ) (givers : List ℕ) (s : Seen) (j : ℕ) → j < elements → digit right j ≡ 1 → Grown right givers s → Grown right givers (visit givers s j)
visit_grown right givers s j hj r g =
    let back = minus (set_at givers j) s.word in
    record {
      long = marks_length s.parents back j ∙ g.long;
      led = λ i h e.
          ⊎_elim
          (λ o. rw (marks_out s.parents back j i o) (g.led i h (omega (arith, digit_or s.word back i))))
          (λ o.
          rw (marks_in s.parents back j i h (omega (arith, g.long)) o)
          (inr (hj, r, omega (arith, digit_minus (set_at givers j) s.word i, digit_lt (set_at givers j) i))))
          (zero_or_one back i);
    }

led_more : (right new : ℕ) (givers : List ℕ) (i k : ℕ) → Led right givers i k → Led (bit_or right new) givers i k
led_more right new givers i k h = ⊎_elim (λ e. inl e) (λ t. inr (t.0, or_sub right new k t.0 t.1, t.2)) h

-- ---- all parents

pub record Tree (rows givers : List ℕ) (q : Reached) : Type 0 where
  pub lefts_long : length q.lefts ≡ elements
  pub rights_long : length q.rights ≡ elements
  pub pending : Sub q.search.frontier q.search.left
  pub waiting : Sub q.search.next q.search.left
  pub came : (j : ℕ) → j < elements → digit q.search.right j ≡ 1
      → (get_or q.rights j 0 < elements) × (digit q.search.left (get_or q.rights j 0) ≡ 1) × (digit (set_at rows (get_or q.rights j 0)) j ≡ 1)
  pub led : (i : ℕ) → i < elements → digit q.search.left i ≡ 1 → Led q.search.right givers i (get_or q.lefts i 0)
  pub goal : q.search.at < elements → digit q.search.right q.search.at ≡ 1

module _ (rows givers : List ℕ) (roots slack : ℕ) (fit : Fit givers) (q : Reached) (c : Closing rows givers roots slack q.search) (t : Tree rows givers q)
    (p : 0 < q.search.frontier) where
  abbrev i₀ : ℕ
  i₀ = low q.search.frontier

  abbrev new : ℕ
  new = fresh rows q.search

  abbrev right' : ℕ
  right' = bit_or q.search.right new

  abbrev rights' : List ℕ
  rights' = marks q.rights new i₀

  abbrev w : Seen
  w = sees rows givers q

  first_lt : i₀ < elements
  first_lt = low_lt elements q.search.frontier p (in_bound c.small_frontier)

  came' : (left' : ℕ) → Sub q.search.left left' → (j : ℕ) → j < elements → digit right' j ≡ 1
      → (get_or rights' j 0 < elements) × (digit left' (get_or rights' j 0) ≡ 1) × (digit (set_at rows (get_or rights' j 0)) j ≡ 1)
  came' left' m j h e =
      ⊎_elim
      (λ o.
      let k = t.came j h (omega (arith, digit_or q.search.right new j)) in
      rw (marks_out q.rights new i₀ j o) (k.0, m (get_or q.rights j 0) k.0 k.1, k.2))
      (λ o.
      rw (marks_in q.rights new i₀ j h (omega (arith, t.rights_long)) o) (
        first_lt,
        m i₀ first_lt (t.pending i₀ first_lt (low_digit q.search.frontier first_lt)),
        omega (arith, digit_minus (set_at rows i₀) q.search.right j, digit_lt (set_at rows i₀) j),
      ))
      (zero_or_one new j)

  rights_long' : length rights' ≡ elements
  rights_long' = marks_length q.rights new i₀ ∙ t.rights_long

  found_bit : low (bit_and new slack) < elements → digit right' (low (bit_and new slack)) ≡ 1
  found_bit h =
      let k = low (bit_and new slack) in
      omega (arith, low_digit (bit_and new slack) h, digit_and new slack k, digit_or q.search.right new k, digit_lt q.search.right k, digit_lt new k)

  tree_found : Tree rows givers (reached (found q.search new (bit_and new slack)) q.lefts rights')
  tree_found =
      record {
        lefts_long = t.lefts_long;
        rights_long = rights_long';
        pending = none_sub q.search.left;
        waiting = none_sub q.search.left;
        came = came' q.search.left (λ i h e. e);
        led = λ i h e. led_more q.search.right new givers i (get_or q.lefts i 0) (t.led i h e);
        goal = found_bit;
      }

  grown : Grown right' givers w
  grown =
      each_keeps (Grown right' givers) elements (visit givers) new
      (λ s b h e g. visit_grown right' givers s b h (omega (arith, digit_or q.search.right new b, digit_lt q.search.right b)) g)
      (seen q.search.left q.lefts) (record { long = t.lefts_long; led = λ i h e. led_more q.search.right new givers i (get_or q.lefts i 0) (t.led i h e) })

  more : Sub q.search.left w.word
  more = (visit_each givers fit (seen q.search.left q.lefts) new c.small_left).more

  next_sub : Sub (bit_or q.search.next (minus w.word q.search.left)) w.word
  next_sub i h e =
      ⊎_elim
      (λ o. omega (arith, digit_or q.search.next (minus w.word q.search.left) i, digit_added w.word q.search.left i (more i h), digit_lt w.word i))
      (λ o. more i h (t.waiting i h o))
      (zero_or_one q.search.next i)

  rest_sub : Sub (rest q.search.frontier) w.word
  rest_sub i h e = more i h (t.pending i h (omega (arith, digit_and q.search.frontier (q.search.frontier - 1) i, digit_lt q.search.frontier i)))

  tree_onward : Tree rows givers (reached (onward q.search new w.word) w.parents rights')
  tree_onward = go (eqb (rest q.search.frontier) 0)
    where
      go : (b : Bool) → Tree rows givers (reached (onward_by b q.search new w.word) w.parents rights')
      go true =
          record {
            lefts_long = grown.long;
            rights_long = rights_long';
            pending = next_sub;
            waiting = none_sub w.word;
            came = came' w.word more;
            led = grown.led;
            goal = λ h. absurd (omega arith);
          }
      go false =
          record {
            lefts_long = grown.long;
            rights_long = rights_long';
            pending = rest_sub;
            waiting = next_sub;
            came = came' w.word more;
            led = grown.led;
            goal = λ h. absurd (omega arith);
          }

  tree_either : (b : Bool) → Tree rows givers (advance_by b rows givers slack q)
  tree_either true = tree_onward
  tree_either false = tree_found

  pub tree_turn : Tree rows givers (advance rows givers slack q)
  unfolding advance
  tree_turn = tree_either (eqb (bit_and new slack) 0)

pub begun_tree : (rows givers : List ℕ) (able roots : ℕ) → Tree rows givers (reached (begun able roots) (blanks elements) (blanks 0))
unfolding blanks
begun_tree rows givers able roots =
    record {
      lefts_long = length-replicate {A = ℕ} elements elements;
      rights_long = length-replicate {A = ℕ} elements 0;
      pending = λ i h e. omega (arith, digit_and roots able i, digit_lt roots i);
      waiting = none_sub roots;
      came = λ j h e. absurd (omega (arith, digit_none j));
      led = λ i h e. inl (get_or-replicate elements i elements 0 h);
      goal = λ h. absurd (omega arith);
    }
