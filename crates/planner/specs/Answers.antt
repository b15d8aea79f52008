-- "Where an answer is an enum, the promises use a definition. That definition gives this paper's number and
-- values for each of the enum's cases." (01, Code places and their forms): one for each answer, on top of
-- `numbers_of`. 01 numbers the refusals alone; a result has 0 in front here, and the two findings of Crew
-- check have 254 and 255, as at the counter.
use Rattle.std.specs.Prelude.{List, [], ◌∷◌, ℕ, get_or, Ok, Err}
use Rattle.plan.specs.declared.Cause.{Cause as Unread}
use Rattle.schedule.specs.declared.Checked.{Checked}
use Rattle.schedule.specs.declared.Checked.TheVariants.{Fits, Broken, Overload}
use Rattle.planner.specs.Results.{Decision, Output, CrewChecked}
use Rattle.planner.specs.declared.Cause.{Cause}
use Rattle.planner.specs.declared.Cause.TheVariants.{Unreadable}
use Rattle.planner.specs.Numbers.{numbers_of}

abbrev pub unread_numbers : Unread → List ℕ
unread_numbers u = numbers_of (Unreadable u)

-- the number alone
abbrev pub cause_number : Cause → ℕ
cause_number c = get_or (numbers_of c) 0 0

-- ---- the answers

-- "Verdict: accepted with m and K"
abbrev pub verdict_numbers : Decision → List ℕ
verdict_numbers (Ok a) = 0 ∷ a.activities ∷ a.kinds ∷ []
verdict_numbers (Err c) = numbers_of c

-- Needs, Starts, Overload, Flow, Trim: so many numbers or records are written; Sheet: so many pages there are
abbrev pub output_numbers : Output → List ℕ
output_numbers (Ok n) = 0 ∷ n ∷ []
output_numbers (Err c) = numbers_of c

-- "Crew check: fits, broken arc, or overload with period .. and kind"
abbrev pub found_numbers : Checked → List ℕ
found_numbers Fits = 0 ∷ []
found_numbers (Broken i j) = 254 ∷ i ∷ j ∷ []
found_numbers (Overload t k) = 255 ∷ t ∷ k ∷ []

abbrev pub crew_check_numbers : CrewChecked → List ℕ
crew_check_numbers (Ok x) = found_numbers x
crew_check_numbers (Err c) = numbers_of c
