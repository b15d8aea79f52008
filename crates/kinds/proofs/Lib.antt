-- Laws of the kinds. RecordsWritten and RecordsRead: the records of a flow, as they are written and as they are read
-- back. RecordsAscend: what each of them is, and their order. NodeUnits, KindLoops and RecordRoom are what the proofs
-- of the code go by: units from node to node, the quotes of the kinds, and the room for records.
pub mod NodeUnits
pub mod KindLoops
pub mod RecordRoom
pub mod RecordsWritten
pub mod RecordsRead
pub mod RecordsAscend
