-- How Trim considers an extra arc: what is left of the extra arcs, and of the order.
use mathlib.Core.Path.{◌≡◌, sym, ap, ◌∙◌}
use mathlib.Core.Bool.{Bool, true, false, not, ◌&&◌, ◌||◌}
use mathlib.Core.List.{List}
use Prim.Native.Nat.{ℕ, ◌<◌}
use lib.Dec.{ltb}
use Rattle.std.specs.Prelude.{is_some}
use Rattle.words.proofs.Tests.{by_test, cond_true, cond_false, and_both, or_says, or_left, or_right}
use Rattle.order.specs.Stored.{elements}
use Rattle.order.specs.Rows.{after}
use Rattle.order.specs.Sets.{member}
use Rattle.order.specs.Orders.{after_rows, some_before, order_in, without_arc, joined_rows}
use Rattle.order.specs.declared.Order.{Order}
use Rattle.order.proofs.Lacking.{follows_same, follows_members}
use Rattle.kinds.specs.Needs.{lowest_overload, some_overload}
use Rattle.kinds.specs.declared.Overload.{Overload}
use Rattle.planner.specs.model.Trimming.{others_of, follows_in, fits_by, extra_left, OrderHeld}

-- ---- a pair that follows

module _ (job extra afters : List ℕ) (i j : ℕ) where
  pub follows_there : {b : Bool} → b ≡ member (others_of job extra i j) j → b ≡ true → follows_in job extra afters i j ≡ true
  unfolding follows_in
  follows_there e t = or_left (member (others_of job extra i j) j) (some_before afters (others_of job extra i j) j) (sym e ∙ t)

  pub follows_or : {b : Bool} → b ≡ member (others_of job extra i j) j → b ≡ false → some_before afters (others_of job extra i j) j ≡ follows_in job extra afters i j
  unfolding follows_in
  follows_or e t = ap (λ (x : Bool). x || some_before afters (others_of job extra i j) j) (sym (sym e ∙ t))

  -- without its arc the order is the same
  module _ (hi : i < elements) (hj : j < elements) (H : OrderHeld job extra afters) (e : follows_in job extra afters i j ≡ true) where
    pub follows_order : order_in (joined_rows job (without_arc extra i j)) ≡ order_in (joined_rows job extra)
    unfolding follows_in
    follows_order =
        follows_same job extra i j H.0 hi hj H.2 (others_of job extra i j) (follows_members job extra i j H.0 hi)
        ((or_says (member (others_of job extra i j) j) (some_before (after_rows (order_in (joined_rows job extra))) (others_of job extra i j) j)).0
        (ap (λ (a : List ℕ). member (others_of job extra i j) j || some_before a (others_of job extra i j) j) (sym H.1) ∙ e))

    pub follows_held : after_rows (order_in (joined_rows job (without_arc extra i j))) ≡ afters
    follows_held = ap after_rows follows_order ∙ sym H.1

-- ---- what is left of the extra arcs

-- a search finds an overload exactly where its kind is one of the n
some_below : (n : ℕ) (v : Overload) → is_some (some_overload n v) ≡ ltb v.kind n
unfolding some_overload
some_below n v = by_test (ltb v.kind n) (λ t. rw t) (λ t. rw t)

module _ (m : ℕ) (job demand available : List ℕ) (n : ℕ) (free afters extra : List ℕ) (i j : ℕ) where
  abbrev less : List ℕ
  less = without_arc extra i j

  abbrev fits : Bool
  fits = fits_by m (order_in (joined_rows job less)) demand available n

  abbrev left : List ℕ
  left = extra_left m job demand available n free afters extra i j

  -- the arc may not go
  pub left_held : after free i j ≡ false → extra ≡ left
  unfolding extra_left
  left_held e = sym (cond_false less extra (ap (λ (b : Bool). b && (follows_in job extra afters i j || fits)) e))

  module _ (may : after free i j ≡ true) where
    left_gone : follows_in job extra afters i j || fits ≡ true → less ≡ left
    unfolding extra_left
    left_gone e = sym (cond_true less extra (and_both (after free i j) (follows_in job extra afters i j || fits) may e))

    pub left_follows : follows_in job extra afters i j ≡ true → less ≡ left
    left_follows e = left_gone (or_left (follows_in job extra afters i j) fits e)

    -- what was weighed: `rows` are the arcs without it, `o` is their order, and b says whether a search finds one by that
    module _ {rows : List ℕ} {o : Order} {b : Bool} (joins : rows ≡ joined_rows job less) (closes : o ≡ order_in rows)
        (weighs : b ≡ is_some (some_overload n (lowest_overload m o demand available n))) where
      found : b ≡ ltb (lowest_overload m (order_in (joined_rows job less)) demand available n).kind n
      found =
          weighs
          ∙ some_below n (lowest_overload m o demand available n)
          ∙ ap (λ (x : Order). ltb (lowest_overload m x demand available n).kind n) (closes ∙ ap order_in joins)

      pub left_fits : b ≡ false → less ≡ left
      unfolding fits_by
      left_fits e = left_gone (or_right (follows_in job extra afters i j) fits (ap not (sym found ∙ e)))

      pub left_stays : follows_in job extra afters i j ≡ false → b ≡ true → extra ≡ left
      unfolding extra_left fits_by
      left_stays e h =
          let fit : fits ≡ false = ap not (sym found ∙ h) in
          sym (cond_false less extra (ap (λ (b : Bool). b && (follows_in job extra afters i j || fits)) may ∙ ap (λ (b : Bool). b || fits) e ∙ fit))
