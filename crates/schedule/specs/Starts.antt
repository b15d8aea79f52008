-- Earliest starts over a network of arcs, and the start of the end.
use Rattle.std.specs.Prelude.{cond, ℕ, zero, suc, ◌+◌}
use Rattle.words.specs.Sums.{maximum}
use Rattle.schedule.specs.Network.{Network, Schedule}

-- what the arcs into j ask of its start, where the others start by s: the largest start plus weight, or 0
-- (the `let` keeps antt from computing `s i` where there is no arc)
unfoldable pub asked : Network → Schedule → ℕ → ℕ
asked g s j = maximum g.elements (λ i. let x = s i + g.weight i j in cond (g.arc i j) x 0)

-- the starts after r rounds: all 0 at first,
-- and in each round what the arcs ask by the starts of the round before
unfoldable pub rounds : ℕ → Network → Schedule
rounds zero g j = zero
rounds (suc r) g j = asked g (rounds r g) j

-- THE EARLIEST STARTS: those after as many rounds as there are elements.
-- "Every schedule that keeps the arcs with the file's durations starts each no earlier": `earliest_least` of
-- proofs/Starts.antt; and they keep the arcs: `earliest_keeps`. So they are "the least that keep all arcs"
-- (02, change 5). Where no arc has a wait, "An activity starts at the largest finish (start plus duration) of
-- those before it, or at 0": `earliest_largest`.
unfoldable pub earliest_of : Network → Schedule
earliest_of g j = rounds g.elements g j

-- "the end starts at the largest finish of all, or at 0": of the first m elements, with the
-- durations d (`end_largest`)
unfoldable pub end_of : ℕ → Schedule → (ℕ → ℕ) → ℕ
end_of m s d = maximum m (λ i. s i + d i)
