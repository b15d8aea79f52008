-- `schedule::early::Net::place` meets its contract. The invariant: what is left to store comes to what
-- there was to store at the start.
use mathlib.Core.Path.{ap}
use lib.ListN.{set}
use Rattle.order.proofs.Turns.{members_again, members_end}
use Rattle.schedule.specs.model.Held.{net_in}
use Rattle.schedule.specs.Lists.{at}
use Rattle.schedule.specs.model.Levels.{place}
use Rattle.schedule.proofs.early.Net.place.Goals as goal

pub loop-j-preserved : goal.loop-j-preserved
loop-j-preserved c =
    members_again _ _ c.in-Some.ensures.steps (place (net_in c.args.self.now) (at c.args.before.now)) _ c.loop-j.invariant
    (ap (set c.loop-j.starts c.in-Some.j) c.latest.ensures)

pub returns : goal.returns
returns c =
    members_end _ c.in-None.ensures.steps.0 (place (net_in c.args.self.now) (at c.args.before.now)) _ c.loop-j.invariant
