-- `schedule::crew::Work::first_over` meets its contract. The invariant: what is found is no later than any overloaded
-- period after the start of one passed.
use mathlib.Core.Path.{subst}
use Prim.Native.Nat.{ℕ}
use native.Mathlib.Omega.{arith}
use Rattle.schedule.specs.model.Held.{work_in}
use Rattle.schedule.specs.model.Levels.{Soonest}
use Rattle.schedule.proofs.Candidates.{best_all}
use Rattle.schedule.proofs.crew.Work.first_over.Goals as goal

pub returns : goal.returns
returns c =
    let W = work_in c.args.self.now in
    best_all W c.loop-start.first (subst (λ (n : ℕ). Soonest W n c.loop-start.first) (omega arith) c.loop-start.invariant)
