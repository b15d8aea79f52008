-- Arcs without one of them: fewer arcs, and the same order where that arc's pair follows from the others.
use Rattle.std.proofs.Common.{◌≡◌, ℕ, ◌-◌, ◌^◌, ◌<◌, Bool, true, false, not, ◌&&◌, eqb, ◌⊎◌, ◌↔◌, List, [], ◌∷◌, length, sym, ap, ◌∙◌, inl, inr, ⊎_elim, arith, eq-eqb, ne_eqb}
use mathlib.Core.Bool.{and-true, and-false}
use native.Mathlib.Decide.{ℕ_discrete}
use lib.Bits.{bit_and}
use Rattle.words.specs.Bits.{bit, minus}
use Rattle.words.proofs.Bits.{bit_minus, bit_single, bit_zero}
use Rattle.words.proofs.Members.{low_member}
use Rattle.words.proofs.Firsts.{some_found, some_here, some_none, some_cong}
use Rattle.words.proofs.Tests.{clash, fails, and_says, and_left, and_right, and_both, or_cases, not_of_false, false_of_not, eqb_says}
use Rattle.order.specs.Before.{Before, last, Acyclic}
use Rattle.order.specs.Arcs.{With}
use Rattle.order.specs.Stored.{elements, number_of, set_of, cells, row, RowsFit}
use Rattle.order.specs.Sets.{member, without_element, union_of, lowest_of, listed}
use Rattle.order.specs.Rows.{after}
use Rattle.order.specs.Orders.{after_rows, some_before, Direct, order_in, without_arc, joined_rows}
use Rattle.order.specs.declared.Set.{Set}
use Rattle.order.proofs.Stored.{in_bound, row_put_same, row_put_other, length_put, row_fit, fit_put}
use Rattle.order.proofs.Sets.{member_set, member_union, member_without}
use Rattle.order.proofs.Listing.{Empty, listed_below, is_none, is_some}
use Rattle.order.proofs.Turns.{member_below, member_first, member_others, member_none}
use Rattle.order.proofs.Before.{before_map, before_least, before_trans, before_lacking}
use Rattle.order.proofs.Orders.{after_rows_lem, order_means, order_same, direct_order, direct_joined}

-- ---- a table without an arc

pub length_without : (arcs : List ℕ) (x y : ℕ) → length (without_arc arcs x y) ≡ length arcs
unfolding without_arc
length_without arcs x y = length_put arcs x (minus (row arcs x) (2 ^ y))

module _ (arcs : List ℕ) (x y : ℕ) (long : length arcs ≡ cells elements) (hx : x < elements) where
  after_here : (j : ℕ) → after (without_arc arcs x y) x j ≡ after arcs x j && not (eqb j y)
  unfolding without_arc
  after_here j =
      ap (λ (w : ℕ). bit w j) (row_put_same elements arcs x (minus (row arcs x) (2 ^ y)) long hx)
      ∙ bit_minus (row arcs x) (2 ^ y) j
      ∙ ap (λ (b : Bool). after arcs x j && not b) (bit_single y j)

  after_there : (i j : ℕ) → (i ≡ x → ⊥) → after (without_arc arcs x y) i j ≡ after arcs i j
  unfolding without_arc
  after_there i j d = ap (λ (w : ℕ). bit w j) (row_put_other arcs x i (minus (row arcs x) (2 ^ y)) d)

  pub after_without : (i j : ℕ) → after (without_arc arcs x y) i j ≡ after arcs i j && not (eqb i x && eqb j y)
  after_without i j = at (ℕ_discrete i x)
    where
      at : Dec (i ≡ x) → after (without_arc arcs x y) i j ≡ after arcs i j && not (eqb i x && eqb j y)
      at (yes e) = rw (eq-eqb i x e, e) (after_here j)
      at (no d) = rw (ne_eqb i x d) (after_there i j d ∙ sym (and-true (after arcs i j)))

  pub fit_without : RowsFit elements arcs → RowsFit elements (without_arc arcs x y)
  unfolding without_arc
  fit_without fit = fit_put elements arcs x (minus (row arcs x) (2 ^ y)) long hx fit (less (row arcs x) (bit_and (row arcs x) (2 ^ y)) (2 ^ elements) (row_fit elements arcs fit x))
    where
      less : (u v b : ℕ) → u < b → u - v < b
      less u v b h = omega arith

  -- the arcs but this one
  pub direct_without : (i j : ℕ) → Direct (without_arc arcs x y) i j ↔ (Direct arcs i j × ((i ≡ x) × (j ≡ y) → ⊥))
  direct_without i j = (
    (λ d. let e = sym (after_without i j) ∙ d.drawn in (
      record { from = d.from; to = d.to; drawn = and_left (after arcs i j) _ e },
      (λ q. clash (and_both (eqb i x) (eqb j y) ((eqb_says i x).1 q.0) ((eqb_says j y).1 q.1)) (false_of_not _ (and_right (after arcs i j) _ e))),
    )),
    (λ p. record {
      from = p.0.from;
      to = p.0.to;
      drawn = after_without i j ∙ and_both (after arcs i j) _ p.0.drawn (not_of_false _ (fails (eqb i x && eqb j y) (λ e. let q = (and_says (eqb i x) (eqb j y)).0 e in p.1 ((eqb_says i x).0 q.0, (eqb_says j y).0 q.1))));
    }),
  )

-- ---- two tables together, the second without an arc

module _ (a b : List ℕ) (x y : ℕ) (long : length b ≡ cells elements) (hx : x < elements) where
  abbrev Fewer : ℕ → ℕ → Type 0
  Fewer = Direct (joined_rows a (without_arc b x y))

  abbrev All : ℕ → ℕ → Type 0
  All = Direct (joined_rows a b)

  -- fewer arcs
  pub joined_lacking : (i j : ℕ) → Direct (joined_rows a (without_arc b x y)) i j → Direct (joined_rows a b) i j
  joined_lacking i j d =
      (direct_joined a b i j).1
      (⊎_elim (λ p. inl p) (λ p. inr ((direct_without b x y long hx i j).0 p).0) ((direct_joined a (without_arc b x y) i j).0 d))

  -- but at most this one
  lacks : (i j : ℕ) → ((i ≡ x) × (j ≡ y) → ⊥) → All i j → Fewer i j
  lacks i j other d =
      (direct_joined a (without_arc b x y) i j).1
      (⊎_elim (λ p. inl p) (λ p. inr ((direct_without b x y long hx i j).1 (p, other))) ((direct_joined a b i j).0 d))

  this? : (i j : ℕ) → ((i ≡ x) × (j ≡ y)) ⊎ ((i ≡ x) × (j ≡ y) → ⊥)
  this? i j = at (ℕ_discrete i x) (ℕ_discrete j y)
    where
      at : Dec (i ≡ x) → Dec (j ≡ y) → ((i ≡ x) × (j ≡ y)) ⊎ ((i ≡ x) × (j ≡ y) → ⊥)
      at (yes p) (yes q) = inl (p, q)
      at (yes p) (no d) = inr (λ e. d e.1)
      at (no d) q = inr (λ e. d e.0)

  lacks_with : (i j : ℕ) → All i j → With Fewer x y i j
  lacks_with i j d = ⊎_elim (λ e. inr e) (λ other. inl (lacks i j other d)) (this? i j)

  -- An arc whose pair follows from the other arcs changes no order when it is taken out. The set w has ends of other arcs from x: y itself, or one
  -- that is before y.
  pub follows_same : y < elements → Acyclic (Direct (joined_rows a b)) → (w : Set)
      → ((k : ℕ) → k < elements → member w k ≡ true → Direct (joined_rows a (without_arc b x y)) x k)
      → (member w y ≡ true) ⊎ (some_before (after_rows (order_in (joined_rows a b))) w y ≡ true)
      → order_in (joined_rows a (without_arc b x y)) ≡ order_in (joined_rows a b)
  unfolding some_before
  follows_same hy free w ends known =
      order_same (direct_order (joined_rows a (without_arc b x y))) (direct_order (joined_rows a b))
      (λ i j. (before_map joined_lacking, before_least (Before Fewer) kept (λ p q r u v. before_trans u v)))
    where
      drawn : All x y → (i j : ℕ) → With Fewer x y i j → All i j
      drawn d i j = ⊎_elim (joined_lacking i j) (λ e. rw (e.0, e.1) d)

      by_end : All x y → (k : ℕ) × (k < elements) × (member w k && after (after_rows (order_in (joined_rows a b))) k y ≡ true) → Before Fewer x y
      by_end d f =
          let p = (and_says (member w f.0) _).0 f.2 in
          before_lacking x y f.0 (λ i c. free i (before_map (drawn d) c)) (ends f.0 f.1 p.0)
          (before_map lacks_with ((order_means (direct_order (joined_rows a b)) f.0 y).0 (sym (after_rows_lem (order_in (joined_rows a b)) f.0 y) ∙ p.1)))

      found : All x y → Before Fewer x y
      found d = ⊎_elim (λ e. last (ends y hy e)) (λ e. by_end d (some_found elements _ e)) known

      kept : (i j : ℕ) → All i j → Before Fewer i j
      kept i j d = ⊎_elim (λ e. rw (e.0, e.1) (found (rw (e.0, e.1) at d))) (λ other. last (lacks i j other d)) (this? i j)

  -- such a set: all ends of other arcs from x
  pub follows_members : (k : ℕ) → k < elements → member (union_of (set_of (row a x)) (without_element (set_of (row b x)) y)) k ≡ true
      → Direct (joined_rows a (without_arc b x y)) x k
  follows_members k h e =
      or_cases (member (set_of (row a x)) k) (member (without_element (set_of (row b x)) y) k)
      (sym (member_union (set_of (row a x)) (without_element (set_of (row b x)) y) k) ∙ e)
      (λ p. (direct_joined a (without_arc b x y) x k).1 (inl (record { from = hx; to = h; drawn = sym (member_set (row a x) k) ∙ p })))
      (λ p. let q = (and_says (member (set_of (row b x)) k) (not (eqb k y))).0 (sym (member_without (set_of (row b x)) y k) ∙ p) in
      lacks x k (λ u. clash ((eqb_says k y).1 u.1) (false_of_not (eqb k y) q.1))
      ((direct_joined a b x k).1 (inr (record { from = hx; to = h; drawn = sym (member_set (row b x) k) ∙ q.0 }))))

-- ---- whether a member of a set is before j: what a loop over the members goes by. Each law takes what those of Turns
-- take.

module _ (rows : List ℕ) (j : ℕ) (w v : Set) {k : ℕ} (e : listed w ≡ k ∷ listed v) where
  -- the lowest is
  pub some_before_first : after rows k j ≡ true → some_before rows w j ≡ true
  unfolding some_before
  some_before_first here =
      some_here elements (λ i. member w i && after rows i j) k (member_below w v e)
      (and_both (member w k) (after rows k j) (member_first w v e) here)

  -- the lowest is not: the others tell
  pub some_before_rest : after rows k j ≡ false → some_before rows v j ≡ some_before rows w j
  unfolding some_before
  some_before_rest none =
      some_cong elements (λ i. member v i && after rows i j) (λ i. member w i && after rows i j)
      (λ i h. ap (λ (b : Bool). b && after rows i j) (member_others w v e i h) ∙ at i (ℕ_discrete i k))
    where
      at : (i : ℕ) → Dec (i ≡ k) → (member w i && not (eqb i k)) && after rows i j ≡ member w i && after rows i j
      at i (yes p) = rw (p, none, and-false (member w k), and-false (member w k && not (eqb k k)))
      at i (no d) = rw (ne_eqb i k d, and-true (member w i))

-- none is left
pub some_before_end : (rows : List ℕ) (j : ℕ) (w : Set) → listed w ≡ [] → some_before rows w j ≡ false
unfolding some_before
some_before_end rows j w e =
    some_none elements (λ i. member w i && after rows i j)
    (λ k l. ap (λ (b : Bool). b && after rows k j) (member_none w e k l))

-- by hand. Each law takes what those of Listing take.
module _ (rows : List ℕ) (j : ℕ) (w : Set) (t : Bool) (empty : Empty w t) where
  -- the lowest is before j
  pub some_before_here : (k : ℕ) → t ≡ false → k ≡ lowest_of w → after rows k j ≡ true → some_before rows w j ≡ true
  unfolding some_before
  some_before_here k h q e =
      let l = listed_below w t empty h q in
      let n = is_some w t empty h in
      let lowest = low_member elements (number_of w) (omega arith) (in_bound empty.1) in
      some_here elements (λ i. member w i && after rows i j) k l
      (and_both (member w k) (after rows k j) (ap (member w) q ∙ lowest) e)

  -- none is left
  pub some_before_none : t ≡ true → some_before rows w j ≡ false
  unfolding some_before
  some_before_none h =
      some_none elements (λ i. member w i && after rows i j)
      (λ k l. ap (λ (b : Bool). b && after rows k j) (ap (λ (v : ℕ). bit v k) (is_none w t empty h) ∙ bit_zero k))
