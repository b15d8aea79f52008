-- Trim, one pass: an extra arc that may go is left exactly where the plan without it was refused in its turn, by then
-- with the sooner arcs as they are in the end, and the later ones as they were.
use mathlib.Core.Path.{◌≡◌, refl, sym, ap, ap₂, ◌∙◌, subst}
use mathlib.Core.Bool.{Bool, true, false, not, ◌&&◌, and-true, and-false}
use mathlib.Core.List.{List}
use Prim.Native.Nat.{ℕ, zero, suc, ◌+◌, ◌-◌, ◌*◌, ◌≤◌, ◌<◌}
use native.Mathlib.Nat.{add-zero, add-suc}
use native.Mathlib.Omega.{arith}
use lib.Dec.{eqb}
use borrow.Author.Tests.{eq-eqb, eqb-true}
use Rattle.words.proofs.Tests.{fails, clash, and_says, and_left, and_both, not_of_false}
use Rattle.records.specs.Bytes.{AreBytes}
use Rattle.order.specs.Stored.{elements}
use Rattle.order.specs.Rows.{after}
use Rattle.order.specs.Orders.{without_arc}
use Rattle.order.proofs.Lacking.{after_without}
use Rattle.plan.specs.Meaning.{extra_wait}
use Rattle.plan.specs.model.Plans.{with_extra}
use Rattle.planner.specs.Open.{plan_in, Opens}
use Rattle.planner.specs.Verdict.{is_accepted}
use Rattle.planner.specs.Trim.{pair_from, pair_to, may_go, trim_up_to, trimmed_rows}
use Rattle.planner.proofs.TrimPairs.{from_few, left_at, step_goes, step_stays, step_keeps}

-- where the pair i, j stands among the pairs
abbrev pub pair_of : ℕ → ℕ → ℕ
pair_of i j = elements * i + j

module _ (s : List ℕ) (bytes : AreBytes s) (o : Opens s) where
  abbrev most : ℕ
  most = elements * (plan_in s).count

  -- the rows without the arc of pair x
  abbrev pub rows_less : ℕ → List ℕ
  rows_less x = without_arc (trim_up_to s x) (pair_from x) (pair_to x)

  -- the arc from a to b, after pair x
  module _ (x : ℕ) (h : x < most) (a b : ℕ) where
    pub less_is : after (rows_less x) a b ≡ after (trim_up_to s x) a b && not (eqb a (pair_from x) && eqb b (pair_to x))
    less_is = after_without (trim_up_to s x) (pair_from x) (pair_to x) (left_at s bytes o x (omega (arith, h))).long (from_few s bytes o x h) a b

    -- no other pair's arc goes
    pub turn_other : ((a ≡ pair_from x) × (b ≡ pair_to x) → ⊥) → after (trim_up_to s (suc x)) a b ≡ after (trim_up_to s x) a b
    unfolding trim_up_to
    turn_other ne =
        step_keeps s bytes o x (trim_up_to s x) (λ rows. after rows a b ≡ after (trim_up_to s x) a b) refl
        (λ m t.
        less_is
        ∙ ap (λ (c : Bool). after (trim_up_to s x) a b && not c)
        (fails (eqb a (pair_from x) && eqb b (pair_to x)) (λ e. let w = (and_says (eqb a (pair_from x)) (eqb b (pair_to x))).0 e in ne (eqb-true a (pair_from x) w.0, eqb-true b (pair_to x) w.1)))
        ∙ and-true (after (trim_up_to s x) a b))

    -- no arc comes back
    turn_fewer : after (trim_up_to s (suc x)) a b ≡ true → after (trim_up_to s x) a b ≡ true
    unfolding trim_up_to
    turn_fewer =
        step_keeps s bytes o x (trim_up_to s x) (λ rows. after rows a b ≡ true → after (trim_up_to s x) a b ≡ true) (λ t. t)
        (λ m t e. and_left (after (trim_up_to s x) a b) (not (eqb a (pair_from x) && eqb b (pair_to x))) (sym less_is ∙ e))

  -- over several pairs
  pub turns_fewer : (x k a b : ℕ) → x + k ≤ most → after (trim_up_to s (x + k)) a b ≡ true → after (trim_up_to s x) a b ≡ true
  turns_fewer x zero a b h t = subst (λ (y : ℕ). after (trim_up_to s y) a b ≡ true) (add-zero x) t
  turns_fewer x (suc k) a b h t =
      turns_fewer x k a b (omega arith) (turn_fewer (x + k) (omega arith) a b (subst (λ (y : ℕ). after (trim_up_to s y) a b ≡ true) (add-suc x k) t))

  turns_other : (x k a b : ℕ) → x + k ≤ most → ((y : ℕ) → x ≤ y → y < x + k → (a ≡ pair_from y) × (b ≡ pair_to y) → ⊥) → after (trim_up_to s (x + k)) a b ≡ after (trim_up_to s x) a b
  turns_other x zero a b h ne = ap (λ (y : ℕ). after (trim_up_to s y) a b) (add-zero x)
  turns_other x (suc k) a b h ne =
      ap (λ (y : ℕ). after (trim_up_to s y) a b) (add-suc x k)
      ∙ turn_other (x + k) (omega arith) a b (ne (x + k) (omega arith) (omega arith))
      ∙ turns_other x k a b (omega arith) (λ y l m. ne y l (omega arith))

  -- ---- the arc from a to b, whose pair comes before the first n, or not before them

  -- it has been considered: it is as it is in the end
  pub pair_sooner : (n a b : ℕ) → n ≤ most → b < elements → pair_of a b < n → after (trim_up_to s n) a b ≡ after (trimmed_rows s) a b
  unfolding trimmed_rows
  pair_sooner n a b h hb l =
      let q : n + (most - n) ≡ most = omega arith in
      sym (ap (λ (y : ℕ). after (trim_up_to s y) a b) (sym q) ∙ turns_other n (most - n) a b (omega arith) (λ y p r e. omega (arith, e.0, e.1)))

  -- it has not: it is as it was
  pub pair_later : (n a b : ℕ) → n ≤ most → b < elements → n ≤ pair_of a b → after (trim_up_to s n) a b ≡ after (plan_in s).extra a b
  unfolding trim_up_to
  pair_later n a b h hb l =
      let q : 0 + n ≡ n = omega arith in
      ap (λ (y : ℕ). after (trim_up_to s y) a b) (sym q) ∙ turns_other 0 n a b (omega arith) (λ y p r e. omega (arith, e.0, e.1))

  -- ---- ITS OWN TURN: where it may go, it is left in the end exactly where the plan without it was not accepted

  module _ (i j : ℕ) (hj : j < elements) (h : pair_of i j < most) (may : may_go s i j ≡ true) where
    abbrev x : ℕ
    x = pair_of i j

    from_is : pair_from x ≡ i
    from_is = omega arith

    to_is : pair_to x ≡ j
    to_is = omega arith

    may_here : may_go s (pair_from x) (pair_to x) ≡ true
    may_here = ap₂ (may_go s) from_is to_is ∙ may

    end_is : after (trim_up_to s (suc x)) i j ≡ after (trimmed_rows s) i j
    end_is = pair_sooner (suc x) i j h hj (omega arith)

    pub turn_goes : is_accepted (with_extra (plan_in s) (rows_less x)) ≡ true → after (trimmed_rows s) i j ≡ false
    unfolding trim_up_to
    turn_goes a =
        sym end_is
        ∙ ap (λ (rows : List ℕ). after rows i j) (step_goes s bytes o x (trim_up_to s x) may_here a)
        ∙ less_is x h i j
        ∙ ap (λ (c : Bool). after (trim_up_to s x) i j && not c) (and_both (eqb i (pair_from x)) (eqb j (pair_to x)) (eq-eqb i (pair_from x) (sym from_is)) (eq-eqb j (pair_to x) (sym to_is)))
        ∙ and-false (after (trim_up_to s x) i j)

    pub turn_stays : is_accepted (with_extra (plan_in s) (rows_less x)) ≡ false → after (trimmed_rows s) i j ≡ true
    unfolding trim_up_to may_go
    turn_stays a =
        sym end_is
        ∙ ap (λ (rows : List ℕ). after rows i j) (step_stays s bytes o x (trim_up_to s x) (ap (λ (c : Bool). may_go s (pair_from x) (pair_to x) && c) a ∙ and-false (may_go s (pair_from x) (pair_to x))))
        ∙ pair_later x i j (omega (arith, h)) hj (omega arith)
        ∙ and_left (after (plan_in s).extra i j) (eqb (extra_wait s i j) 0) may

  -- an arc that may not go is left
  pub turns_held : (n i j : ℕ) → n ≤ most → after (plan_in s).extra i j ≡ true → may_go s i j ≡ false → after (trim_up_to s n) i j ≡ true
  unfolding trim_up_to
  turns_held zero i j h t m = t
  turns_held (suc n) i j h t m =
      let ih = turns_held n i j (omega arith) t m in
      step_keeps s bytes o n (trim_up_to s n) (λ rows. after rows i j ≡ true) ih
      (λ may a.
      less_is n (omega arith) i j
      ∙ and_both (after (trim_up_to s n) i j) (not (eqb i (pair_from n) && eqb j (pair_to n))) ih
      (not_of_false (eqb i (pair_from n) && eqb j (pair_to n))
      (fails (eqb i (pair_from n) && eqb j (pair_to n))
      (λ e.
      let w = (and_says (eqb i (pair_from n)) (eqb j (pair_to n))).0 e in
      clash (ap₂ (may_go s) (eqb-true i (pair_from n) w.0) (eqb-true j (pair_to n) w.1) ∙ may) m))))
