-- `plan::file::records_of` meets its contract: each chunk is a record.
use Prim.Native.Nat.{◌/◌}
use lib.ListN.{length}
use Rattle.plan.proofs.RecordLists.{chunk_at}
use Rattle.plan.proofs.file.records_of.Goals as goal

pub returns-clause-value : goal.returns-clause-value
returns-clause-value c = rw c.as_chunks.ensures.front (chunk_at (length c.args.s.now / 24) c.args.s.now)
