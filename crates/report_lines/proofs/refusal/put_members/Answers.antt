-- `report_lines::refusal::put_members` meets its contract: each turn writes a member more (`Listed`).
use native.Mathlib.Omega.{arith}
use Rattle.report_lines.proofs.RefusalLine.{set_listed, listed_room, listed_next, listed_end}
use Rattle.report_lines.proofs.refusal.put_members.Goals as goal

pub loop-i-init : goal.loop-i-init
loop-i-init c = let a = c.args in rw c.into_iter-i-iterator.ensures.into_iter_gives (set_listed a.n a.set a.numbers.now c.requires.1)

pub bounds-numbers-end : goal.bounds-numbers-end
bounds-numbers-end c = omega (arith, c.loop-i.invariant.long, listed_room c.loop-i.invariant c.in-Some.ensures.steps)

pub offset_bounds-numbers-end : goal.offset_bounds-numbers-end
offset_bounds-numbers-end c = record { fits = omega (arith, listed_room c.loop-i.invariant c.in-Some.ensures.steps) }

pub overflow_add-end : goal.overflow_add-end
overflow_add-end c = record { fits = omega (arith, listed_room c.loop-i.invariant c.in-Some.ensures.steps) }

pub loop-i-preserved : goal.loop-i-preserved
loop-i-preserved c = listed_next c.loop-i.invariant c.in-Some.ensures.steps c.requires.0

pub shape_of-numbers : goal.shape_of-numbers
shape_of-numbers c = c.loop-i.invariant.long

pub returns : goal.returns
returns c = let a = c.args in listed_end a.n a.set a.numbers.now c.loop-i.invariant c.in-None.ensures.steps.0
