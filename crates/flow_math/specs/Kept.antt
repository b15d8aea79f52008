-- When an arc is kept. THE ONLY DEFINITION of it: crews, schedules and the crew check, of a network or of a
-- file, all go by it; Breaks says when it is not. `s i` is the start of the element i, and `w i j` how long
-- after it the arc from i to j lets j start: the duration of i, and the wait on the arc.
use Rattle.std.specs.Prelude.{ℕ, ◌+◌, ◌≤◌}

-- KEPT: "the start of i plus its duration is at most the start of j"; with waits "start plus duration plus
-- wait is at most the next start" (02, change 5)
abbrev pub Kept : (ℕ → ℕ) → (ℕ → ℕ → ℕ) → ℕ → ℕ → Type 0
Kept s w i j = s i + w i j ≤ s j

-- "It keeps every arc", of the arcs A
abbrev pub Keeps : (ℕ → ℕ → Type 0) → (ℕ → ℕ) → (ℕ → ℕ → ℕ) → Type 0
Keeps A s w = (i j : ℕ) → A i j → Kept s w i j
