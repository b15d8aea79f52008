-- Laws of the definitions of `specs/`, which the proofs of the code and the crate `promises` go by.
--
-- FaultLaws (causes in turn), OutputLaws (answers, lent memory, and how an operation ends), Endings (how one ends that
-- tests its fault), OpenLaws (the causes of the opening), FileOrders (arcs, orders and starts, in the terms of the file
-- itself), QuotedNeeds (needs and overload), FlowUnits (flows), MarkLaws (added marks), AcceptedLaws (when a plan is
-- accepted), and for each operation one: VerdictLaws (Verdict), NeedsLaws (Needs), StartsLaws, FlowLaws (Flow, and the
-- causes of the operations on one kind), SheetLaws (Sheet), SheetFaults (which refusal when, of Flow and Sheet),
-- OverloadLaws (Overload), TrimLaws (Trim, which rests on TrimSteps: what the code makes of an arc, TrimPairs: of pair
-- after pair, and TrimTurns: what becomes of each arc), CrewCheckLaws (Crew check); RefusalBounds (what a refusal tells
-- is small).
pub mod FaultLaws
pub mod OutputLaws
pub mod Endings
pub mod OpenLaws
pub mod StartsLaws
pub mod CrewCheckLaws
pub mod TimesLaws
pub mod FileOrders
pub mod QuotedNeeds
pub mod FlowUnits
pub mod MarkLaws
pub mod VerdictLaws
pub mod AcceptedLaws
pub mod NeedsLaws
pub mod OverloadLaws
pub mod FlowLaws
pub mod SheetLaws
pub mod SheetFaults
pub mod RefusalBounds
pub mod TrimSteps
pub mod TrimPairs
pub mod TrimTurns
pub mod TrimLaws
