-- `records::read::field` meets its contract: each turn reads one byte more, from the last one on.
use mathlib.Core.Path.{◌≡◌}
use Prim.Native.Nat.{◌+◌, ◌-◌, ◌≤◌}
use Rattle.records.specs.Bytes.{field}
use Rattle.records.proofs.read.field.Given as goal

abbrev pub invariant-loop-i : goal.invariant-loop-i
invariant-loop-i g l = (l.x ≡ field l.bytes l.i (l.at + g.row.N - l.i)) × (l.at ≤ l.i) × (l.i ≤ l.at + g.row.N)
