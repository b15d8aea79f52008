-- The bytes of a record: its fields and its spare bytes (document 01, "The plan file").
use Rattle.std.specs.Prelude.{ℕ, zero, suc, ◌+◌, ◌*◌, ◌<◌, List, [], ◌∷◌, Bool, true, ◌&&◌, get_or, eqb}

-- byte i of a record
abbrev pub byte : List ℕ → ℕ → ℕ
byte r i = get_or r i 0

-- "Fields of several bytes are unsigned, lowest byte first": the field of n bytes from byte i on
unfoldable pub field : List ℕ → ℕ → ℕ → ℕ
field r i zero = 0
field r i (suc n) = byte r i + 256 * field r (i + 1) n

-- each number of a list is zero, as spare bytes are
unfoldable pub zeros : List ℕ → Bool
zeros [] = true
zeros (b ∷ bs) = eqb b 0 && zeros bs

-- a list of bytes: each number of it is below 256
abbrev pub AreBytes : List ℕ → Type 0
AreBytes l = (i : ℕ) → byte l i < 256
