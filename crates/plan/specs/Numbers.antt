-- The numbers of the causes (01, Operations and causes, the table of causes; 12 and 13 are of
-- document 02, changes 2 and 3).
use Rattle.std.specs.Prelude.{ℕ, Some, None, unwrap_or}
use Rattle.plan.specs.declared.Cause.{Cause}
use Rattle.plan.specs.declared.Cause.TheVariants.{Length, RecordType, Field}
use Rattle.plan.specs.declared.Cause.TheVariants.{MilestoneDemand, Spare, RepeatedArc}
use Rattle.plan.specs.declared.Told.{Told}

-- "record's place, from 0"
abbrev pub at_place : ℕ → ℕ → Told
at_place number p = record { number = number; place = Some p }

-- the number, and what is returned with it
abbrev pub told_by : Cause → Told
told_by Length = record { number = 1; place = None }
told_by (RecordType p) = at_place 2 p
told_by (Field p) = at_place 3 p
told_by (MilestoneDemand p) = at_place 12 p
told_by (Spare p) = at_place 4 p
told_by (RepeatedArc p) = at_place 13 p

-- the place that is returned with a number, 0 where there is none
abbrev pub place_of : Told → ℕ
place_of t = unwrap_or t.place 0
