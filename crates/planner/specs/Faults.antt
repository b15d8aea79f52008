-- Faults, and the causes of an operation in their turn. (`Result` is the kit's; a fault that is there
-- stays: `cause_kept`, `not_weighed` of proofs/FaultLaws.antt.)
use Rattle.std.specs.Prelude.{Bool, true, false, cond, ℕ, ltb, Result, Ok, Err}
use Rattle.planner.specs.declared.Cause.{Cause}
use Rattle.planner.specs.declared.Cause.TheVariants.{Short}

-- an operation goes on, or refuses
abbrev pub Fault : Type 0
Fault = Result (Unit {0}) Cause

-- how an operation ends: refused by its fault, or else with what it found
abbrev pub outcome : {A : Type 0} → Fault → A → Result A Cause
outcome (Ok _) x = Ok x
outcome (Err c) x = Err c

abbrev pub is_fine : Fault → Bool
is_fine (Ok _) = true
is_fine (Err c) = false

-- the next cause in turn is the fault where there is none yet and its test holds
abbrev pub or_cause : Fault → Bool → Cause → Fault
or_cause (Ok _) test cause = cond test (Err cause) (Ok tt)
or_cause (Err c) test cause = Err c

-- 9, "lent slice too short", with the "length needed"
abbrev pub or_short : Fault → ℕ → ℕ → Fault
or_short f lent needed = or_cause f (ltb lent needed) (Short needed)
