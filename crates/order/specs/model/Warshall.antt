-- How code closes rows: what is before an element becomes before all that this one gains or has. Over all
-- elements that is Warshall's closure, by which code finds the order of arcs that are given as rows (that it
-- does is `closed` of proofs/Closure.antt). For any n.
use Rattle.std.specs.Prelude.{ℕ, zero, suc, cond, List, ◌==◌, bit_or}
use Rattle.words.specs.Bits.{bit}
use Rattle.words.specs.model.Loops.{upto}
use Rattle.order.specs.Stored.{row, put_row}

-- a row w, where what is before k becomes before all of g
abbrev pub passed : ℕ → ℕ → ℕ → ℕ
passed k g w = cond (bit w k) (bit_or w g) w

-- a step of a loop over the rows: row i becomes what f makes of it
abbrev pub update_row : (ℕ → ℕ → ℕ) → ℕ → List ℕ → List ℕ
update_row f i rows = put_row rows i (f i (row rows i))

-- the rows, where what is before k becomes before all of g
abbrev pub passing_by : ℕ → ℕ → ℕ → List ℕ → List ℕ
passing_by n k g rows = upto (update_row (λ i w. passed k g w)) n rows

-- the same, and k too: so an arc is added (`gaining_grow` of proofs/Growing.antt)
abbrev pub gaining : ℕ → ℕ → ℕ → List ℕ → List ℕ
gaining n k g rows = passing_by n k g (put_row rows k (bit_or (row rows k) g))

-- the rows, with k as a way through
abbrev pub passing : ℕ → ℕ → List ℕ → List ℕ
passing n k rows = passing_by n k (row rows k) rows

-- the elements at which an arc of the first n rows ends
unfoldable pub ends_in : ℕ → List ℕ → ℕ
ends_in zero rows = 0
ends_in (suc n) rows = bit_or (ends_in n rows) (row rows n)

-- k is passed over where it leads nowhere, or no arc ends at it
abbrev pub passing_over : ℕ → ℕ → ℕ → List ℕ → List ℕ
passing_over n ends k rows = cond (row rows k == 0) rows (cond (bit ends k) (passing n k rows) rows)
