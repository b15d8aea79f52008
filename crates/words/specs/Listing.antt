-- The members of a number, listed.
use Rattle.std.specs.Prelude.{List, [], ◌∷◌, map, ℕ, zero, suc, ◌/◌, ◌%◌}

-- a list with 0 in front where the digit is 1
abbrev pub lead : ℕ → List ℕ → List ℕ
lead zero l = l
lead (suc d) l = 0 ∷ l

-- the members of w below k, ascending
unfoldable pub members : ℕ → ℕ → List ℕ
members zero w = []
members (suc k) w = lead (w % 2) (map suc (members k (w / 2)))
