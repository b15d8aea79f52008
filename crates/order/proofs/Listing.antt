-- What a test `if w.is_empty()` says, and what a loop over the members of a set goes by that is made by hand, `while
-- !w.is_empty() { let b = w.lowest(); ..; w = w.without_lowest(); }`: its invariant is `each elements f s (number_of w)
-- ≡ r`, with r the run from the start, and its measure `number_of w`. Each law takes what `is_empty` ensures, the test
-- of the loop, and what `lowest` and `without_lowest` ensure.
use Rattle.std.proofs.Common.{◌≡◌, ℕ, ◌<◌, Bool, true, false, eqb, sym, ◌∙◌, eqb-true}
use borrow.Author.Tests.{eqb-false}
use Rattle.words.specs.model.Loops.{each}
use Rattle.words.proofs.Loops.{each_again, each_end, each_still}
use Rattle.words.proofs.Members.{low_place, rest_less}
use Rattle.order.specs.Stored.{elements, bound, number_of}
use Rattle.order.specs.Sets.{lowest_of, without_lowest}
use Rattle.order.specs.declared.Set.{Set}
use Rattle.order.proofs.Stored.{number_of_lem, in_bound}

-- what `w.is_empty()` ensures of its answer
abbrev pub Empty : Set → Bool → Type 0
Empty w t = (t ≡ eqb (number_of w) 0) × (number_of w < bound)

module _ (w : Set) (t : Bool) (e : Empty w t) where
  -- what a test `if w.is_empty()` says
  pub is_none : t ≡ true → number_of w ≡ 0
  is_none h = eqb-true (number_of w) 0 (sym e.0 ∙ h)

  pub is_some : t ≡ false → number_of w ≡ 0 → ⊥
  is_some h = eqb-false (number_of w) 0 (sym e.0 ∙ h)

  -- in a turn there is a member, and after the loop there is none
  pub listed_below : {b : ℕ} → t ≡ false → b ≡ lowest_of w → b < elements
  listed_below h q = low_place elements (number_of w) (is_some h) (in_bound e.1) q

  pub listing_less : (v : Set) → t ≡ false → v ≡ without_lowest w → number_of v < number_of w
  listing_less v h q = rest_less (number_of w) (is_some h) (number_of_lem v q)

  module _ {S : Type 0} (f : S → ℕ → S) (s : S) {r : S} (run : each elements f s (number_of w) ≡ r) where
    pub listing_again : (b : ℕ) (v : Set) {s' : S} → t ≡ false → b ≡ lowest_of w → s' ≡ f s b → v ≡ without_lowest w
        → each elements f s' (number_of v) ≡ r
    listing_again b v h q p x =
        (each_again elements f s (number_of w) b (is_some h) (run, in_bound e.1) q p (number_of_lem v x)).0

    pub listing_end : t ≡ true → s ≡ r
    listing_end h = each_end elements f s (number_of w) (is_none h) (run, in_bound e.1)

    -- a state that no step changes ends it early
    pub listing_still : ((b : ℕ) → f s b ≡ s) → s ≡ r
    listing_still h = each_still elements f s (number_of w) h (run, in_bound e.1)
