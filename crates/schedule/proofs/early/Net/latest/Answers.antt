-- `schedule::early::Net::latest` meets its contract. The invariant: the largest that the arcs passed ask.
use mathlib.Core.Bool.{cond}
use mathlib.Core.Path.{◌≡◌, refl, sym, ap₂, ◌∙◌}
use Prim.Native.Nat.{ℕ, ◌+◌, ◌*◌}
use native.Mathlib.Omega.{arith}
use Rattle.words.specs.Bits.{bit}
use Rattle.words.specs.Sums.{maximum}
use Rattle.words.proofs.Maxima.{maximum_next}
use Rattle.order.specs.Stored.{elements}
use Rattle.order.proofs.Stored.{number_of_lem}
use Rattle.schedule.specs.Starts.{asked}
use Rattle.schedule.specs.Lists.{at}
use Rattle.schedule.proofs.early.Net.latest.Goals as goal

pub loop-i-init : goal.loop-i-init
unfolding maximum
loop-i-init c = refl

pub loop-i-preserved : goal.loop-i-preserved
loop-i-preserved c =
    let s = c.args in
    let n = s.self.now in
    let i = c.loop-i.i in
    let start = at s.starts.now i + (at n.durations.now i + at n.waits.now (elements * s.j + i)) in
    let sum : at s.starts.now i + at n.durations.now i + at n.waits.now (elements * s.j + i) ≡ start = omega arith in
    let asked = c.asks.ensures ∙ ap₂ (λ (w x : ℕ). cond (bit w s.j) x 0) (number_of_lem _ c.row.ensures) sum in
    maximum_next i _ c.loop-i.best c.asks.result c.max-best.result c.loop-i.invariant (sym asked) c.max-best.ensures

pub returns : goal.returns
unfolding asked
returns c =
    let e : c.loop-i.i ≡ elements = omega arith in rw e at c.loop-i.invariant
