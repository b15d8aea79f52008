-- How the code has records: as a list of them, each with its 24 bytes, and their types by name.
use Rattle.std.specs.Prelude.{◌≡◌, List, [], ℕ, ◌<◌, length, get_or, take}
use Rattle.plan.specs.declared.RecordType.{RecordType}
use Rattle.plan.specs.declared.RecordType.TheVariants.{Activity, Crew, JobArc, ExtraArc}
use Rattle.plan.specs.Records.{record_at}

-- they are the records that bytes begin with
abbrev pub RecordsOf : List ℕ → List (List ℕ) → Type 0
RecordsOf s rs = (i : ℕ) → i < length rs → get_or rs i [] ≡ take 24 (record_at s i)

-- "Type 1, activity", "Type 2, crew", "Type 3, job arc", "Type 4, extra arc"
abbrev pub type_number : RecordType → ℕ
type_number Activity = 1
type_number Crew = 2
type_number JobArc = 3
type_number ExtraArc = 4
