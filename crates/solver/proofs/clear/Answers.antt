-- `clear` meets its contract: the m first rows are zeros, as are the others.
use Rattle.std.proofs.Common.{ℕ, ◌*◌, replicate, ap, ◌∙◌, arith}
use Rattle.std.proofs.lemmas.List.{length-take-le}
use Rattle.solver.proofs.Cleared.{cleared}
use Rattle.solver.proofs.clear.Goals as goal

pub returns : goal.returns
returns c =
    let a = c.args in
    let within = c.requires.0 in
    cleared a.m a.flow.now c.fill.new.self c.requires.0 c.requires.1
    (c.fill.ensures.after (λ y h. h)
    ∙ ap (λ (n : ℕ). replicate n 0) (length-take-le (a.m * 64) a.flow.now (omega (arith, c.told-flow))))
