-- When two files differ only in waits (02, change 5), byte by byte: they are then read alike,
-- `only_in_waits` of proofs/Differing.antt.
use Rattle.std.specs.Prelude.{◌≡◌, List, ◌⊎◌, ℕ, ◌<◌, length}
use Rattle.records.specs.Bytes.{byte}
use Rattle.plan.specs.Records.{record_at, type_at}

-- byte b of the record at place p is one of a wait: byte 4 or 5 of a job arc or an extra arc
abbrev pub InWait : List ℕ → ℕ → ℕ → Type 0
InWait s p b = ((type_at s p ≡ 3) ⊎ (type_at s p ≡ 4)) × ((b ≡ 4) ⊎ (b ≡ 5))

-- the files are as long, and each byte that is none of a wait is the same in both
pub record OnlyInWaits (s t : List ℕ) : Type 0 where
  pub long : length s ≡ length t
  pub same : (p b : ℕ) → b < 24 → (InWait s p b → ⊥) → byte (record_at s p) b ≡ byte (record_at t p) b
