-- `schedule::crew::Arcs::first_broken` meets its contract. The invariant: no arc from an element passed is broken.
use mathlib.Core.Bool.{Bool}
use Prim.Native.Nat.{ℕ}
use native.Mathlib.Omega.{arith}
use lib.Dec.{ltb}
use lib.ListN.{length}
use Rattle.words.proofs.Firsts.{first_stop, first_none}
use Rattle.schedule.specs.Checks.{broken_to, broken_from}
use Rattle.schedule.specs.model.Held.{between}
use Rattle.schedule.specs.Lists.{at}
use Rattle.schedule.proofs.Found.{below_there, broken_there, broken_nowhere}
use Rattle.schedule.proofs.crew.Arcs.first_broken.Goals as goal

pub returns-in-Some : goal.returns-in-Some
unfolding broken_from
returns-in-Some c =
    let S = c.args.crew.now.starts.now in
    let g = between c.args.self.now c.args.crew.now in
    let p : ℕ → Bool = λ k. ltb (broken_to g (at S) k) (length S) in
    let i = c.loop-from.from in
    let w = below_there (length S) (broken_to g (at S) i) c.in-Some.to c.in-Some.ensures in
    broken_there g (at S) i c.in-Some.to (first_stop (length S) p i c.loop-from.invariant (omega arith) w.0) (omega arith) w.1

pub returns : goal.returns
unfolding broken_from
returns c =
    let S = c.args.crew.now.starts.now in
    let g = between c.args.self.now c.args.crew.now in
    let p : ℕ → Bool = λ k. ltb (broken_to g (at S) k) (length S) in
    broken_nowhere g (at S) ((first_none (length S) p).1 (λ k l. c.loop-from.invariant k (omega arith)))
