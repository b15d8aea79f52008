-- `Draft::put_decimal` meets its contract: each turn writes one digit more, from the last on (`Spelling`).
use Prim.Native.Nat.{◌≤◌, ◌-◌}
use mathlib.Core.Path.{◌≡◌}
use lib.ListN.{length}
use Rattle.lines.proofs.Texts.{Spelling}
use Rattle.lines.proofs.Draft.put_decimal.Given as goal

abbrev pub invariant-loop-i : goal.invariant-loop-i
invariant-loop-i l =
    let d = l.initial.self in
    (d.at ≤ l.i) × Spelling d.at l.x d.out.now (l.i - d.at) l.rest l.self.out.now
    × (length l.self.out.now ≡ length d.out.now) × (l.self.out.ghost_name ≡ d.out.ghost_name)
