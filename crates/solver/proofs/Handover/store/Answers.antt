-- `Handover::store` meets its contract.
use Rattle.std.proofs.Common.{ℕ, List, ap, ◌∙◌, slice_set}
use Rattle.order.specs.Stored.{put_row}
use Rattle.order.proofs.Stored.{number_of_lem}
use Rattle.solver.specs.model.Network.{network, giver, cell}
use Rattle.solver.proofs.Handover.store.Goals as goal

pub returns-clause-value : goal.returns-clause-value
returns-clause-value c =
    let a = c.args in
    let s = a.self.now in
    ap (λ (g : List ℕ). network (slice_set s.flow.now (cell a.i a.j) a.n) g s.left s.right)
    (c.put_row.ensures ∙ ap (put_row s.givers a.j)
    (c.given-g.ensures ∙ ap (λ (w : ℕ). giver w a.i a.n) (number_of_lem _ c.row.ensures)))
