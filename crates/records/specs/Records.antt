-- The records that are written (document 01, "Flow" and "Need and overload"), as their 24 bytes,
-- and where they are written.
use Rattle.std.specs.Prelude.{ℕ, zero, suc, ◌+◌, ◌*◌, ◌/◌, ◌%◌, Bool, cond, List, [], ◌∷◌, ◌++◌, length, take, drop, replicate}
use Rattle.records.specs.Bytes.{byte, field}

-- the n bytes of a number, lowest byte first
unfoldable pub bytes : ℕ → ℕ → List ℕ
bytes zero x = []
bytes (suc n) x = x % 256 ∷ bytes n (x / 256)

-- "Flow record: byte 0 is 33, 1 kind, 2 from, 3 to, 4–7 units, 8 the added mark."
-- "Bytes with no field are spare and zero."
unfoldable pub flow_record : ℕ → ℕ → ℕ → ℕ → ℕ → List ℕ
flow_record kind from to units mark = 33 ∷ kind ∷ from ∷ to ∷ bytes 4 units ++ mark ∷ replicate 15 0

-- of flow records one after another, what record i says, read back from the bytes:
-- its ends, its units and its added mark
abbrev pub from_of : List ℕ → ℕ → ℕ
from_of flow i = byte flow (24 * i + 2)

abbrev pub to_of : List ℕ → ℕ → ℕ
to_of flow i = byte flow (24 * i + 3)

abbrev pub units_of : List ℕ → ℕ → ℕ
units_of flow i = field flow (24 * i + 4) 4

abbrev pub added_of : List ℕ → ℕ → ℕ
added_of flow i = byte flow (24 * i + 8)

-- "Overload record: byte 0 is 32, 1 kind, 2 size, 4–7 need, 8–15 the set."
-- "Bytes with no field are spare and zero."
unfoldable pub overload_record : ℕ → ℕ → ℕ → ℕ → List ℕ
overload_record kind size need set = 32 ∷ kind ∷ size ∷ 0 ∷ bytes 4 need ++ bytes 8 set ++ replicate 8 0

-- the lent bytes, with what they begin with replaced by a record
abbrev pub starting_with : List ℕ → List ℕ → List ℕ
starting_with r out = r ++ drop (length r) out

-- the lent bytes, with those from byte `at` on replaced by a list
abbrev pub written_at : ℕ → List ℕ → List ℕ → List ℕ
written_at at r out = take at out ++ r ++ drop (at + length r) out

-- the records f 0, f 1, .., f (n - 1), one after another
unfoldable pub joined : (ℕ → List ℕ) → ℕ → List ℕ
joined f zero = []
joined f (suc n) = joined f n ++ f n

-- those of them that a test keeps
abbrev pub kept : (ℕ → Bool) → (ℕ → List ℕ) → ℕ → List ℕ
kept keep f n = joined (λ k. cond (keep k) (f k) []) n
