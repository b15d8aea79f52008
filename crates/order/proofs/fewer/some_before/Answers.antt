-- `fewer::some_before` meets its contract. The invariant: what is left tells as much as the set at the start.
use Rattle.std.proofs.Common.{sym, ◌∙◌}
use Rattle.order.proofs.Stored.{row_asked}
use Rattle.order.proofs.Lacking.{some_before_first, some_before_end, some_before_rest}
use Rattle.order.proofs.fewer.some_before.Goals as goal

pub returns-then-has : goal.returns-then-has
returns-then-has c =
    sym (some_before_first c.args.rows.now c.args.j _ _ c.in-Some.ensures.steps (row_asked _ _ _ c.row.ensures c.has.ensures c.if-has.true))
    ∙ c.loop-k.invariant

pub loop-k-preserved : goal.loop-k-preserved
loop-k-preserved c =
    some_before_rest c.args.rows.now c.args.j _ _ c.in-Some.ensures.steps (row_asked _ _ _ c.row.ensures c.has.ensures c.if-has.false)
    ∙ c.loop-k.invariant

pub returns : goal.returns
returns c = sym (some_before_end c.args.rows.now c.args.j _ c.in-None.ensures.steps.0) ∙ c.loop-k.invariant
