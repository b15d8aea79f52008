-- The arcs of the records that a test picks (those of a type, the extra arcs with wait 0) as a table of sets,
-- record by record: what a reader knows before the record at a place.
use Rattle.std.specs.Prelude.{Bool, not, cond, ◌&&◌, ◌||◌, List, ℕ, zero, suc, ◌-◌, ◌≤◌, eqb, length, replicate}
use Rattle.words.specs.Bits.{with_bit}
use Rattle.records.specs.Bytes.{byte}
use Rattle.order.specs.Rows.{after}
use Rattle.order.specs.Stored.{elements, cells, row, put_row}
use Rattle.plan.specs.Records.{record_at, record_count, type_at, wait_in}

-- a record whose arc can be looked up and stored: its ends are elements, counted from 1
abbrev pub ArcRecord : List ℕ → Type 0
ArcRecord r =
    (24 ≤ length r) × (1 ≤ byte r 1) × (byte r 1 ≤ elements) × (1 ≤ byte r 2) × (byte r 2 ≤ elements)

-- arcs as a table of sets: a record puts (to - 1) into the set in row (from - 1)
unfoldable pub with_arc : List ℕ → List ℕ → List ℕ
with_arc r rows = put_row rows (byte r 1 - 1) (with_bit (row rows (byte r 1 - 1)) (byte r 2 - 1))

-- whether the arcs have that of a record
abbrev pub has_arc : List ℕ → List ℕ → Bool
has_arc rows r = after rows (byte r 1 - 1) (byte r 2 - 1)

-- whether the record at a place stays where the extra arcs of the file become those of the rows: of the extra
-- arcs (type 4), those that the rows have
abbrev pub stays_by : List ℕ → List ℕ → ℕ → Bool
stays_by rows s p = not (eqb (type_at s p) 4) || has_arc rows (record_at s p)

-- ---- the arcs of the records that a test picks

-- after a record, from those before it
abbrev pub picked_after : (List ℕ → Bool) → List ℕ → List ℕ → List ℕ
picked_after pick r rows =
    let more = with_arc r rows in
    cond (pick r) more rows

-- before the record at a place: the state in which that record is read
unfoldable pub picked_up_to : List ℕ → (List ℕ → Bool) → ℕ → List ℕ
picked_up_to s pick zero = replicate (cells elements) 0
picked_up_to s pick (suc p) = picked_after pick (record_at s p) (picked_up_to s pick p)

-- ---- those of a type

abbrev pub is_of : ℕ → List ℕ → Bool
is_of type r = eqb (byte r 0) type

abbrev pub arcs_after : ℕ → List ℕ → List ℕ → List ℕ
arcs_after type r rows = picked_after (is_of type) r rows

abbrev pub arcs_up_to : List ℕ → ℕ → ℕ → List ℕ
arcs_up_to s type p = picked_up_to s (is_of type) p

abbrev pub arc_rows : List ℕ → ℕ → List ℕ
arc_rows s type = arcs_up_to s type (record_count s)

-- ---- the extra arcs with wait 0

-- a record is an extra arc (type 4) with wait 0
abbrev pub is_free : List ℕ → Bool
is_free r = eqb (byte r 0) 4 && eqb (wait_in r) 0

-- after record p of t
abbrev pub put_free : List ℕ → ℕ → List ℕ → List ℕ
put_free t p rows = picked_after is_free (record_at t p) rows

abbrev pub free_rows : List ℕ → List ℕ
free_rows s = picked_up_to s is_free (record_count s)
