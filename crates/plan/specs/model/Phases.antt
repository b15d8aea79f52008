-- How the code goes about it: the steps of the loops that fill the plan's arrays, and the phases of a file.
-- Only proofs need this: that it comes to `read_of` is `file_read` of proofs/Phases.antt.
use Rattle.std.specs.Prelude.{not, Ok, Err, List, ℕ, zero, suc, ◌+◌, ◌-◌, ◌*◌, set, drop, replicate}
use Rattle.words.specs.model.Loops.{upto}
use Rattle.words.specs.Members.{first}
use Rattle.words.specs.Tables.{table}
use Rattle.records.specs.Bytes.{byte}
use Rattle.order.specs.Stored.{elements, cells}
use Rattle.plan.specs.declared.Cause.TheVariants.{RecordType, RepeatedArc}
use Rattle.plan.specs.Records.{record_at, leading, arc_repeats, duration_in, demand_in, available_in}
use Rattle.plan.specs.model.ArcRows.{arcs_after}
use Rattle.plan.specs.model.Plans.{empty_plan}
use Rattle.plan.specs.model.Reads.{Reading}
use Rattle.plan.specs.Causes.{Answer, rule, is_readable, activity_cause, crew_cause, arc_cause, first_refusal}

abbrev pub put_duration : List ℕ → ℕ → List ℕ → List ℕ
put_duration s i durations = set durations i (duration_in (record_at s i))

-- the demand of element i, whose record is r, for kind k + 1
abbrev pub put_demand : List ℕ → ℕ → ℕ → List ℕ → List ℕ
put_demand r i k demands = set demands (elements * k + i) (demand_in r k)

abbrev pub put_demands : List ℕ → ℕ → List ℕ → List ℕ
put_demands s i demands = upto (put_demand (record_at s i) i) 8 demands

-- the arcs of a type after record i of t
abbrev pub put_arc : ℕ → List ℕ → ℕ → List ℕ → List ℕ
put_arc type t i rows = arcs_after type (record_at t i) rows

-- the cause of record i of t, whose first record is at a place of the file, as an arc of a type among m
-- activities; the earlier records are those of t
abbrev pub arc_in : ℕ → ℕ → ℕ → List ℕ → ℕ → Answer
arc_in type place m t i =
    rule (arc_cause type (place + i) m (record_at t i)) (not (arc_repeats t i)) (RepeatedArc (place + i))

-- the first cause among its first n records
abbrev pub arcs_cause : ℕ → ℕ → ℕ → List ℕ → ℕ → Answer
arcs_cause type place m t n = first_refusal n (arc_in type place m t)

-- and how many of them stand before the first that has one
abbrev pub arcs_fine : ℕ → ℕ → ℕ → List ℕ → ℕ → ℕ
arcs_fine type place m t n = first n (λ i. not (is_readable (arc_in type place m t i)))

-- ---- the phases

-- a refusal: no plan stands beside it
abbrev pub refusal_of : Answer → Reading
refusal_of answer = record { plan = empty_plan; answer = answer }

-- what follows where nothing was refused (by a test, `then_on` and `then_refused` of proofs/ReaderLoops.antt)
abbrev pub unless_refused : Answer → Reading → Reading
unless_refused (Ok _) next = next
unless_refused (Err c) next = refusal_of (Err c)

-- the rest of the file from its crew record on, n records, after m activities
unfoldable pub rest_of : ℕ → List ℕ → List ℕ → ℕ → List ℕ → Reading
rest_of m duration demand zero t = refusal_of (Err (RecordType m))
rest_of m duration demand (suc n) t =
    let arcs = drop 24 t in
    let j = leading 3 n arcs in
    let more = drop (24 * j) arcs in
    unless_refused (crew_cause m demand t)
    (unless_refused (arcs_cause 3 (m + 1) m arcs j)
    (unless_refused (arcs_cause 4 (m + 1 + j) m more (n - j))
    (record {
      plan = record {
        count = m;
        kinds = byte t 1;
        duration = duration;
        demand = demand;
        available = table 8 (available_in t);
        job = upto (put_arc 3 arcs) j (replicate (cells elements) 0);
        extra = upto (put_arc 4 more) (n - j) (replicate (cells elements) 0);
      };
      answer = Ok tt;
    })))

-- a file of n records: its activities, and then the rest
unfoldable pub file_of : ℕ → List ℕ → Reading
file_of n s =
    let m = leading 1 n s in
    unless_refused (first_refusal m (λ i. activity_cause i (record_at s i)))
    (rest_of m
    (upto (put_duration s) m (replicate elements 0))
    (upto (put_demands s) m (replicate (8 * elements) 0))
    (n - m) (drop (24 * m) s))
