-- `told` meets its contract, by those of its parts.
use Rattle.std.proofs.Common.{ap, ◌∙◌}
use Rattle.order.specs.declared.Set.{Set}
use Rattle.order.proofs.Stored.{number_of_lem}
use Rattle.solver.specs.model.Search.{looked}
use Rattle.solver.proofs.Steps.{tells}
use Rattle.solver.proofs.told.Goals as goal

pub returns : goal.returns
returns c =
    let a = c.args in
    ap (λ (x : Set). record { need = c.total-need.result; set = x }) c.meet-set.ensures
    ∙ tells a.m a.left.now (looked a.s) _ c.total-need.ensures (number_of_lem _ c.minus.ensures)
