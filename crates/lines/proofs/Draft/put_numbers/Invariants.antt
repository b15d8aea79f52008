-- `Draft::put_numbers` meets its contract: each turn writes a space and a number more (`Listing`).
use mathlib.Core.Path.{◌≡◌}
use Rattle.lines.proofs.Texts.{Listing}
use Rattle.lines.proofs.Draft.put_numbers.Given as goal

abbrev pub invariant-loop-x : goal.invariant-loop-x
invariant-loop-x l =
    let d = l.initial.self in
    Listing d.at l.numbers d.out.now l.x-index l.self.at l.self.out.now × (l.self.out.ghost_name ≡ d.out.ghost_name)
