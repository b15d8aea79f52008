-- The records of a file, and the rules of each type. Element i is activity i + 1; kind k + 1 stands at k.
use Rattle.std.specs.Prelude.{Bool, not, cond, ◌&&◌, ◌||◌, List, ℕ, zero, suc, ◌+◌, ◌-◌, ◌*◌, ◌/◌, ◌%◌, eqb, leb, ltb, length, drop}
use Rattle.std.proofs.Math.Seq.{slice}
use Rattle.words.specs.Members.{some}
use Rattle.words.specs.Tables.{table}
use Rattle.records.specs.Bytes.{byte, field, zeros}
use Rattle.order.specs.Stored.{elements}

-- "Records of 24 bytes, no header." The record at a place is what the rest of the file begins with.
abbrev pub record_at : List ℕ → ℕ → List ℕ
record_at s p = drop (24 * p) s

abbrev pub record_count : List ℕ → ℕ
record_count s = length s / 24

-- "Byte 0 is the type."
abbrev pub type_at : List ℕ → ℕ → ℕ
type_at s p = byte (record_at s p) 0

-- how many of the first n records of t have a type, up to the first that has another
unfoldable pub leading : ℕ → ℕ → List ℕ → ℕ
leading type zero t = 0
leading type (suc n) t = cond (eqb (byte t 0) type) (suc (leading type n (drop 24 t))) 0

-- "Activities are numbered 1 to m in file order": m is how many activity records the file begins with, so the
-- crew record is due at place m
abbrev pub activity_count : List ℕ → ℕ
activity_count s = leading 1 (record_count s) s

-- "m from 0 to 64": how many activities a file may have, `plan::ACTIVITIES`. THE FORMAT'S OWN LIMIT: the
-- number of elements may be larger.
abbrev pub activities : ℕ
activities = 64

-- "Type 1, activity: byte 1 its number; 2–3 duration, ..; 4–19 eight demands of two bytes, kinds 1 to 8,
-- each 0 to 65,535" (a duration of 0 is the matter of `activity_timed`)
unfoldable pub activity_fields : ℕ → List ℕ → Bool
activity_fields place r = ltb place activities && eqb (byte r 1) (place + 1)

abbrev pub duration_in : List ℕ → ℕ
duration_in r = field r 2 2

abbrev pub demand_in : List ℕ → ℕ → ℕ
demand_in r k = field r (4 + 2 * k) 2

-- of one of the eight kinds something is demanded
unfoldable pub demands_some : List ℕ → Bool
demands_some r = some 8 (λ k. ltb 0 (demand_in r k))

-- "Duration 0 becomes legal in the file for an activity without demands, which is then a milestone" (02,
-- change 2): what is demanded is demanded for some time
abbrev pub activity_timed : List ℕ → Bool
activity_timed r = ltb 0 (duration_in r) || not (demands_some r)

-- the demands of all activities as one list: that of element i for kind k + 1 stands at elements * k + i
unfoldable pub demands_of : List ℕ → List ℕ
demands_of s =
    table (8 * elements)
    (λ x. cond (ltb (x % elements) (activity_count s)) (demand_in (record_at s (x % elements)) (x / elements)) 0)

-- "Bytes with no field are spare and zero."
abbrev pub activity_spare : List ℕ → Bool
activity_spare r = zeros (slice 20 24 r)

-- "Type 2, crew: byte 1 the count K of kinds, 1 to 8; 4–19 eight availabilities, 0 to 65,535, zero beyond K."
-- "Demands beyond K are zero; this is checked at the crew record": the demands are those of `demands_of`
unfoldable pub crew_fields : List ℕ → List ℕ → Bool
crew_fields demand r =
    ltb 0 (byte r 1) && (leb (byte r 1) 8
    && (zeros (slice (4 + 2 * byte r 1) 20 r)
    && zeros (slice (elements * byte r 1) (8 * elements) demand)))

abbrev pub available_in : List ℕ → ℕ → ℕ
available_in r k = field r (4 + 2 * k) 2

abbrev pub crew_spare : List ℕ → Bool
crew_spare r = zeros (slice 2 4 r) && zeros (slice 20 24 r)

-- "Type 3, job arc: byte 1 from, byte 2 to. Type 4, extra arc: the same fields."
-- "Arc ends are 1 to m and differ."
abbrev pub is_end : ℕ → ℕ → Bool
is_end m i = ltb 0 i && leb i m

unfoldable pub arc_fields : ℕ → List ℕ → Bool
arc_fields m r = is_end m (byte r 1) && (is_end m (byte r 2) && not (eqb (byte r 1) (byte r 2)))

-- "Bytes 4–5 of both arc records become a wait of 0 to 65,535 periods, so 4 covers the other spare
-- bytes only." (02, change 5)
abbrev pub wait_in : List ℕ → ℕ
wait_in r = field r 4 2

abbrev pub arc_spare : List ℕ → Bool
arc_spare r = zeros (slice 3 4 r) && zeros (slice 6 24 r)

-- two records of one type name one pair, from and to
abbrev pub same_pair : List ℕ → List ℕ → Bool
same_pair q r = eqb (byte q 0) (byte r 0) && (eqb (byte q 1) (byte r 1) && eqb (byte q 2) (byte r 2))

-- "A pair repeated within the same type is now refused. The same pair as a job arc and an extra arc is still
-- fine." (02, change 3): an earlier record of the same type names the pair of the record at place p
unfoldable pub arc_repeats : List ℕ → ℕ → Bool
arc_repeats s p = some p (λ x. same_pair (record_at s x) (record_at s p))

-- "Types stand in ascending order, with exactly one crew record.": after the crew record job arcs are due as
-- long as there are any, then extra arcs
abbrev pub job_count : List ℕ → ℕ
job_count s = leading 3 (record_count s - (activity_count s + 1)) (record_at s (activity_count s + 1))

abbrev pub due_type : List ℕ → ℕ → ℕ
due_type s p = cond (ltb p (activity_count s + 1 + job_count s)) 3 4
