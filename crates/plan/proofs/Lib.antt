-- Laws of the definitions of `specs/`. Callers cite Said, Refused, Milestones, RepeatedArcs, Differing (files that
-- differ only in waits are read alike), Selected and Filtered (a file without some of its arc records is readable, and
-- says the same but for those), FreeArcs (the extra arcs with wait 0), `readable_is` of Refusals, and `plan_given` and
-- `none_given` of Phases (what the reader gives); the proofs of the code cite ReaderLoops, RecordLists, Staying,
-- `looked_up` of RepeatedArcs and `file_read` of Phases; the others lead up to these.
pub mod Refusals
pub mod Places
pub mod RecordRules
pub mod Stores
pub mod Arcs
pub mod Parts
pub mod Repeats
pub mod Phases
pub mod ReaderLoops
pub mod NamedArcs
pub mod Said
pub mod Refused
pub mod CausePlaces
pub mod Milestones
pub mod RepeatedArcs
pub mod Waits
pub mod Differing
pub mod RecordLists
pub mod Selected
pub mod Filtered
pub mod FreeArcs
pub mod Staying
