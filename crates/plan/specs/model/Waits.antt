-- The waits of a file's arcs, as a table: that of the arc from element i to element j stands at
-- elements * j + i, so that the arcs into j stand together. A plan does not hold it: whoever goes
-- by the waits has them read.
use Rattle.std.specs.Prelude.{List, [], ℕ, ◌+◌, ◌-◌, ◌*◌, ◌/◌, ◌%◌, ◌<◌, max, length, get_or, set}
use Rattle.words.specs.Tables.{table}
use Rattle.records.specs.Bytes.{byte}
use Rattle.order.specs.Stored.{elements}
use Rattle.plan.specs.Records.{record_at, wait_in}
use Rattle.plan.specs.Meaning.{file_wait}
use Rattle.plan.specs.model.ArcRows.{ArcRecord}

unfoldable pub wait_table : List ℕ → List ℕ
wait_table s = table (elements * elements) (λ x. file_wait s (x % elements) (x / elements))

-- ---- how it is read

-- where the wait of an arc record stands
abbrev pub wait_place : List ℕ → ℕ
wait_place r = elements * (byte r 2 - 1) + (byte r 1 - 1)

-- the waits after an arc record: its own, where none that is longer stands
abbrev pub with_wait : List ℕ → List ℕ → List ℕ
with_wait r waits = set waits (wait_place r) (max (get_or waits (wait_place r) 0) (wait_in r))

-- after record p of t
abbrev pub put_wait : List ℕ → ℕ → List ℕ → List ℕ
put_wait t p waits = with_wait (record_at t p) waits

-- the first n records of t are arcs
abbrev pub ArcRecords : ℕ → List ℕ → Type 0
ArcRecords n t = (p : ℕ) → p < n → ArcRecord (record_at t p)

-- and so is each of a list of records
abbrev pub AreArcs : List (List ℕ) → Type 0
AreArcs rs = (p : ℕ) → p < length rs → ArcRecord (get_or rs p [])
