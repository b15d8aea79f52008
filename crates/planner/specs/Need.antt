-- The need of a kind and overload (01, "Need and overload"), of a plan.
-- Kind k stands for kind k + 1 of the file.
use Rattle.std.specs.Prelude.{Bool, ℕ, ◌+◌, ltb, get_or}
use Rattle.words.specs.Members.{first}
use Rattle.order.specs.Orders.{is_before}
use Rattle.order.specs.declared.Set.{Set}
use Rattle.plan.specs.declared.Plan.{Plan}
use Rattle.flow_math.specs.Heaviest.{need_of}
use Rattle.kinds.specs.Needs.{demands_for, quote_for}
use Rattle.planner.specs.Faults.{Fault, or_cause}
use Rattle.planner.specs.Open.{order_for}
use Rattle.planner.specs.declared.Cause.{Cause}
use Rattle.planner.specs.declared.Cause.TheVariants.{Overloaded}

-- the demand of the element i
abbrev pub demand_for : Plan → ℕ → ℕ → ℕ
demand_for q k i = get_or (demands_for q.demand k) i 0

abbrev pub available_for : Plan → ℕ → ℕ
available_for q k = get_or q.available k 0

-- "The need of a kind is the greatest sum of its demands over any unrelated set":
-- of the activities 1 to m, by the plan order
unfoldable pub need_for : Plan → ℕ → ℕ
need_for q k = need_of q.count (is_before (order_for q)) (demand_for q k)

-- "A plan is overloaded when a need exceeds its availability; equal is enough": the lowest such
-- kind; K where there is none
unfoldable pub over_kind : Plan → ℕ
over_kind q = first q.kinds (λ k. ltb (available_for q k) (need_for q k))

unfoldable pub is_overloaded : Plan → Bool
is_overloaded q = ltb (over_kind q) q.kinds

-- THE SET SHOWN, BY WHICHEVER OPERATION, is free: "unrelated, belongs to the lowest such kind, has that need
-- as its sum, and holds only activities that demand the kind". It is the solver's; that it is such a set is
-- `shown` of promises/proofs/OverloadShown.antt.
abbrev pub shown_set : Plan → ℕ → Set
shown_set q k = (quote_for q.count (order_for q) q.demand k).set

-- "overloaded | 7 | kind, need, set, size"
unfoldable pub over_cause : Plan → Cause
over_cause q = Overloaded (over_kind q + 1) (need_for q (over_kind q)) (shown_set q (over_kind q))

-- 7 in its turn
abbrev pub or_overloaded : Fault → Plan → Fault
or_overloaded f q = or_cause f (is_overloaded q) (over_cause q)
