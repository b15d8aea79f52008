-- A crew has one start s i and one duration w i for each element i, in any whole numbers: who is at work in a
-- period, and what is then occupied. THE ONLY DEFINITION of both: the crew check (schedule), the file's crews
-- (planner) and the theorems here all speak of it. Which arcs it keeps is Kept.
use Rattle.std.specs.Prelude.{Bool, cond, ◌&&◌, ℕ, ◌+◌, ltb, leb}
use Rattle.words.specs.Sums.{sum}

-- AT WORK: "Period t = 1, 2, .. has i at work when its start is at most t−1 and its finish at least t." The
-- paper's active set A(s, t). A start at most t − 1 is one below t; written so, nobody is at work in
-- a period 0, and in every other the words are as they stand: `active_reads` of proofs/Crew.antt.
abbrev pub active : (ℕ → ℕ) → (ℕ → ℕ) → ℕ → ℕ → Bool
active s w t i = ltb (s i) t && leb t (s i + w i)

-- OCCUPIED: "What is occupied of a kind in a period, here and in demand 3, is the sum of that kind's demands
-- over the activities at work."
unfoldable pub occupied : ℕ → (ℕ → ℕ) → (ℕ → ℕ) → (ℕ → ℕ) → ℕ → ℕ
occupied n d s w t = sum n (λ i. cond (active s w t i) (d i) 0)
