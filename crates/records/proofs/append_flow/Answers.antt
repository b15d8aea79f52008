-- `records::append_flow` meets its contract: a writing to the start of the lent tail is a
-- writing there (`tail_written`).
use Prim.Native.Nat.{◌*◌}
use Rattle.records.specs.Records.{bytes, flow_record}
use Rattle.records.proofs.Steps.{tail_written}
use Rattle.records.proofs.append_flow.Goals as goal

pub returns : goal.returns
unfolding flow_record bytes
returns c =
    let a = c.args in
    tail_written (24 * a.n) (flow_record a.kind a.from a.to a.units a.mark) a.out.now c.write_flow.new.out c.write_flow.ensures
