-- `schedule::crew::Arcs::breaks_at` meets its contract. By the two tests.
use mathlib.Core.Bool.{Bool, ◌&&◌}
use mathlib.Core.Path.{sym, ◌∙◌, ap, ap₂}
use Prim.Native.Nat.{ℕ, ◌+◌, ◌*◌}
use lib.Dec.{ltb}
use Rattle.words.specs.Bits.{bit}
use Rattle.order.specs.Stored.{elements}
use Rattle.order.proofs.Stored.{number_of_lem}
use Rattle.schedule.specs.Lists.{at}
use Rattle.schedule.proofs.crew.Arcs.breaks_at.Goals as goal

pub returns-then-has : goal.returns-then-has
returns-then-has c =
    let s = c.args in
    let has = sym c.if-has.true ∙ c.has.ensures ∙ ap (λ (w : ℕ). bit w s.j) (number_of_lem _ c.row.ensures) in
    ap₂ (λ (x y : ℕ). ltb x (s.finish + y)) c.from.ensures c.from-then-has.ensures
    ∙ ap (λ (b : Bool). b && ltb s.next (s.finish + at s.self.now.waits.now (elements * s.j + s.i))) has

pub returns-else-has : goal.returns-else-has
returns-else-has c =
    let s = c.args in
    let not = sym c.if-has.false ∙ c.has.ensures ∙ ap (λ (w : ℕ). bit w s.j) (number_of_lem _ c.row.ensures) in
    c.if-has.false ∙ ap (λ (b : Bool). b && ltb s.next (s.finish + at s.self.now.waits.now (elements * s.j + s.i))) not
