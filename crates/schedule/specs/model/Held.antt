-- ONLY FOR THE CODE: the network and the work that its structs hold.
use Rattle.std.specs.Prelude.{ℕ}
use Rattle.schedule.specs.Network.{Network}
use Rattle.schedule.specs.Checks as checks
use Rattle.schedule.specs.model.Arrays.{crew_net, net_of, with_waits, work_of}
use Rattle.schedule.specs.declared.crew.Crew.{Crew}
use Rattle.schedule.specs.declared.crew.Arcs.{Arcs}
use Rattle.schedule.specs.declared.crew.Work.{Work}
use Rattle.schedule.specs.declared.early.Net.{Net}

-- the arcs between those of a crew: each lasts as long as was worked, and the wait on the arc longer
abbrev pub between : Arcs → Crew → Network
between a c = crew_net a.rows.now (with_waits c.worked.now a.waits.now) c.starts.now

-- the work of a crew
abbrev pub work_in : Work → checks.Work
work_in w = work_of w.demands.now w.available.now w.crew.starts.now w.crew.worked.now

-- how long after the start of i the arc from i to j lets j start, and the network of the arcs
abbrev pub weight_in : Net → ℕ → ℕ → ℕ
weight_in n = with_waits n.durations.now n.waits.now

abbrev pub net_in : Net → Network
net_in n = net_of n.rows.now (weight_in n)
