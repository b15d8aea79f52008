-- ONLY FOR THE CODE: what a search has found, where there is anything, of the numbers that specs/Checks
-- speaks of. There, that there is nothing is a number too: how many there are, or 0.
use Rattle.std.specs.Prelude.{cond, ℕ, ltb, Option, Some, None}
use Rattle.schedule.specs.Network.{Network, Schedule}
use Rattle.schedule.specs.Checks.{Work, broken_to, broken_from, lowest_kind, first_period}

-- the place x of n; nothing where it is n
abbrev pub below : ℕ → ℕ → Option ℕ
below n x = cond (ltb x n) (Some x) None

-- the first broken arc
abbrev pub first_broken : Network → Schedule → Option (ℕ × ℕ)
first_broken g s =
    cond (ltb (broken_from g s) g.elements) (Some (broken_from g s, broken_to g s (broken_from g s))) None

-- the first overloaded period, with the lowest kind that is exceeded in it
abbrev pub first_over : Work → Option (ℕ × ℕ)
first_over c = cond (ltb 0 (first_period c)) (Some (first_period c, lowest_kind c (first_period c))) None
