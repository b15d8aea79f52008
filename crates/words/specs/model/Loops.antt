-- Loops as recursions: over the members of a number, of at most n turns, and up to n. A loop in
-- code keeps one of these to what it was at the start, so its invariant is "the run from here
-- equals the run from the start".
use Rattle.std.specs.Prelude.{Bool, cond, List, [], ◌∷◌, ℕ, zero, suc, get_or, set}
use Rattle.words.specs.Listing.{members}

-- the step f at each element of a list, from the state s
abbrev pub fold : {S : Type 0} → (S → ℕ → S) → S → List ℕ → S
fold f s [] = s
fold f s (b ∷ bs) = fold f (f s b) bs

-- the step f at each member of w below k, lowest first, from the state s. (A loop that takes the lowest by
-- hand goes by `each_again` and `each_still` of proofs/Loops.antt, and one over a set by `listed_below`,
-- `listing_less`, `listing_again`, `listing_end` and `listing_still` of order's Listing.)
unfoldable pub each : {S : Type 0} → ℕ → (S → ℕ → S) → S → ℕ → S
each k f s w = fold f s (members k w)

-- with no turn left: out; where the test holds: fin; else a step, and on
module _ {S R : Type 0} (stop : S → Bool) (fin out : S → R) (step : S → S) where
  unfoldable pub run : ℕ → S → R
  run zero s = out s
  run (suc k) s =
      let later = run k (step s) in
      cond (stop s) (fin s) later

-- the steps f 0, f 1, .., f (n - 1), in this order
module _ {S : Type 0} (f : ℕ → S → S) where
  unfoldable pub upto : ℕ → S → S
  upto zero s = s
  upto (suc k) s = f k (upto k s)

-- a step of a loop over a list: the element at i becomes what f makes of it
abbrev pub update : (ℕ → ℕ → ℕ) → ℕ → List ℕ → List ℕ
update f i l = set l i (f i (get_or l i 0))
