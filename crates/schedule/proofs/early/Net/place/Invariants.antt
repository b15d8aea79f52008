-- `schedule::early::Net::place` meets its contract. The invariant: what is left to store comes to what
-- there was to store at the start.
use mathlib.Core.Path.{◌≡◌}
use Rattle.order.specs.Stored.{number_of}
use Rattle.schedule.specs.model.Held.{net_in}
use Rattle.schedule.specs.Lists.{at}
use Rattle.schedule.specs.model.Levels.{placed}
use Rattle.schedule.proofs.early.Net.place.Given as goal

abbrev pub invariant-loop-j : goal.invariant-loop-j
invariant-loop-j l =
    placed (net_in l.self) (at l.before) l.starts (number_of l.j-iterator.left) ≡ placed (net_in l.self) (at l.before) l.initial.starts (number_of l.fn.ready)
