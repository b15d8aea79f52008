-- How the operations that write end (`Ends`, `stops`, `goes_on`, `refused`, `done`, `done_over` of Endings).
use Rattle.std.specs.Prelude.{cond, List, ◌++◌, ℕ, length, drop}
use Rattle.planner.specs.Faults.{Fault, outcome, is_fine}
use Rattle.planner.specs.Results.{Output}

-- so many numbers or records are written (of a sheet: so many pages there are), or the cause of the refusal
abbrev pub output_of : Fault → ℕ → Output
output_of f n = outcome f n

-- "Numbers go to the front of the lent 32-bit slice, records to the front of the lent bytes; the rest is
-- unchanged". After a refusal all is left as it was.
unfoldable pub lent_after : Fault → List ℕ → List ℕ → List ℕ
lent_after f written out =
    let front = written ++ drop (length written) out in
    cond (is_fine f) front out
