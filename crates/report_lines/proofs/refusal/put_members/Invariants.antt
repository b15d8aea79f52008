-- `report_lines::refusal::put_members` meets its contract: each turn writes a member more (`Listed`).
use Rattle.order.specs.Sets.{listed}
use Rattle.report_lines.proofs.RefusalLine.{Listed}
use Rattle.report_lines.proofs.refusal.put_members.Given as goal

abbrev pub invariant-loop-i : goal.invariant-loop-i
invariant-loop-i l = Listed l.n (listed l.fn.set) l.initial.numbers l.end (listed l.i-iterator.left) l.numbers
