-- What flow records say, read back from their bytes.
use Rattle.std.specs.Prelude.{cond, ◌&&◌, List, ℕ, zero, suc, ◌+◌, eqb, drop}
use Rattle.records.specs.Bytes.{byte, field}

-- the units that the first n records give from node u to node v, added up: "2 from, 3 to, 4–7 units"
unfoldable pub units_read : ℕ → List ℕ → ℕ → ℕ → ℕ
units_read zero out u v = 0
units_read (suc n) out u v =
    cond (eqb (byte out 2) u && eqb (byte out 3) v) (field out 4 4) 0 + units_read n (drop 24 out) u v
