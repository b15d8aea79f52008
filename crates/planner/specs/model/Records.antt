-- The writing of a kind's flow, of a plan and its orders. Kind k stands for kind k + 1 of the file.
use Rattle.std.specs.Prelude.{List, ℕ, ◌+◌, ◌≤◌, ◌<◌, get_or}
use Rattle.order.specs.Stored.{elements}
use Rattle.order.specs.Orders.{is_before}
use Rattle.order.specs.declared.Order.{Order}
use Rattle.plan.specs.declared.Plan.{Plan}
use Rattle.solver.specs.model.Network.{handed}
use Rattle.solver.specs.model.Quote.{quote_of, flow_of}
use Rattle.solver.specs.Sound.{asked}
use Rattle.kinds.specs.Needs.{demands_for}
use Rattle.kinds.specs.Flows.{Bounded, mark_of, kind_units, pairs_of}
use Rattle.kinds.specs.model.Writing.{Room, Lent, lent, put_flow}

-- what it asks
abbrev pub FlowAsked : Order → Plan → ℕ → List ℕ → Type 0
FlowAsked o q k out =
    (k < 8) × (q.count ≤ elements)
    × Bounded q.count (asked (demands_for q.demand k))
    (handed (flow_of q.count o (demands_for q.demand k)))
    × ((quote_of q.count o (demands_for q.demand k)).need ≤ get_or q.available k 0)
    × Room (pairs_of (kind_units o q.demand k (get_or q.available k 0) q.count) (q.count + 2)) out

-- what it counts, and leaves
abbrev pub flow_put : Order → Order → Plan → ℕ → List ℕ → Lent
flow_put o job q k out =
    put_flow (k + 1)
    (kind_units o q.demand k (get_or q.available k 0) q.count)
    (mark_of (is_before job) q.count)
    q.count (lent 0 out)
