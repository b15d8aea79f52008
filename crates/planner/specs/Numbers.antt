-- The numbers of the causes and what is returned with each (01, Operations and causes, the table of causes):
-- `refusal_of`, and `numbers_of` as a list. The numbers of the answers are Answers.
use Rattle.std.specs.Prelude.{List, [], ◌∷◌, ℕ, Option, Some, None}
use Rattle.words.specs.Bits.{bit}
use Rattle.words.specs.Members.{count}
use Rattle.order.specs.Stored.{elements, number_of}
use Rattle.plan.specs.Numbers.{told_by}
use Rattle.planner.specs.declared.Cause.{Cause}
use Rattle.planner.specs.declared.Cause.TheVariants.{Unreadable, JobCircle, PlanCircle, Overloaded}
use Rattle.planner.specs.declared.Cause.TheVariants.{NoKind, Short, Lists, NoPage}
use Rattle.planner.specs.declared.Values.{Values}
use Rattle.planner.specs.declared.Values.TheVariants.{Nothing, One, Need}
use Rattle.planner.specs.declared.Refusal.{Refusal}

abbrev pub with_one : ℕ → ℕ → Refusal
with_one number value = record { number = number; values = One value }

-- a record's place, where the reader's cause has one
abbrev pub at_most_one : Option ℕ → Values
at_most_one None = Nothing
at_most_one (Some p) = One p

-- THE TABLE OF CAUSES, of which 1 to 4, 12 and 13 are the reader's (`told_by`); 11 is of document 02, change 1
abbrev pub refusal_of : Cause → Refusal
refusal_of (Unreadable u) = record { number = (told_by u).number; values = at_most_one (told_by u).place }
refusal_of (JobCircle i) = with_one 5 i
refusal_of (PlanCircle i) = with_one 6 i
refusal_of (Overloaded k need set) = record { number = 7; values = Need k need set }
refusal_of (NoKind n) = with_one 8 n
refusal_of (Short n) = with_one 9 n
refusal_of (Lists m) = with_one 10 m
refusal_of (NoPage n) = with_one 11 n

-- as a list. (7 returns "kind, need, set, size": the set is the number that it means,
-- and its "size is the count of ones")
abbrev pub values_in : Values → List ℕ
values_in Nothing = []
values_in (One n) = n ∷ []
values_in (Need k need set) = k ∷ need ∷ number_of set ∷ count elements (bit (number_of set)) ∷ []

abbrev pub numbers_of : Cause → List ℕ
numbers_of c = (refusal_of c).number ∷ values_in (refusal_of c).values
