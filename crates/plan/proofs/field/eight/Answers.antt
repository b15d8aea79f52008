-- `plan::field::eight` meets its contract: the elements below the place of the loop are the table's.
use native.Mathlib.Omega.{arith}
use Rattle.words.proofs.Tables.{is_table}
use Rattle.plan.specs.Records.{demand_in}
use Rattle.plan.proofs.field.eight.Goals as goal

pub returns : goal.returns
returns c = is_table 8 (demand_in c.args.r.now) c.loop-k.x-items 0 c.loop-k-test.array_long
    (λ i l. c.loop-k.invariant i (omega arith))
