-- The theorems on what the planner answers and writes.
--
-- OURS KEEPS THE THREE DEMANDS is DemandsHold. Demand 1 is EveryInputHolds and RefusalsHold. Demand 2 is PaperHolds; it
-- rests on CircleCauses (causes 5 and 6), EarliestStarts (starts) and CrewCheckAnswers (crew check). Demand 3, THE
-- PRICE-LIST SENTENCE, is PriceListHolds; it rests on FileNeeds (needs, sets and crews, in the file's own terms),
-- FileFlows (flows) and OverloadShown (overload).
-- CHANGE 1 of document 02, Sheet, is SheetHolds; it rests on SheetAnswers (what Sheet answers and leaves) and
-- SheetPrinted (what is on the page).
-- CHANGE 2, Milestones, is MilestonesHold; it rests on plan's laws of 12 and on demand 2. CHANGE 3, No arc twice, is
-- RepeatedArcsHold; it rests on plan's laws of 13.
-- CHANGE 4, Period load in the paper's order, is `loads` of PaperHolds; it rests on PeriodLoads. CHANGE 5, Waits on
-- arcs, is WaitsHold; it rests on plan's laws of waits.
-- CHANGE 6, Added means added, is AddedMarksHold; it rests on planner's laws of the mark
-- (MarkLaws) and on demand 3's flows.
-- CHANGE 7, Trim the extra arcs, is TrimHolds; it rests on TrimChoices (which arcs go), TrimLeast (that no more can),
-- TrimmedPlans (what a file without some extra arcs says) and TrimVerdicts (what Verdict says of it).
-- EqualFlowsHold: files that are read alike get the same quotes, so plans that say the same get equal flows, and with
-- equal waits equal sheets. CasesHold: the starred cases, of the plans that CasePlans opens and whose flows CaseFlows
-- has; CaseTrims: some of them trimmed. HollowFail: the hollow planners keep no price list. What the other answers
-- mean, in the file's own terms: CircleFaults (the opening's causes), CrewCheckMeaning (the crew check), AnswersWhen
-- (which case has which answer).
pub mod FileNeeds
pub mod FileFlows
pub mod OverloadShown
pub mod CircleFaults
pub mod PriceListHolds
pub mod EqualFlowsHold
pub mod AnswersWhen
pub mod CrewCheckMeaning
pub mod EveryInputHolds
pub mod EarliestStarts
pub mod CrewCheckAnswers
pub mod CircleCauses
pub mod PeriodLoads
pub mod PaperHolds
pub mod RefusalsHold
pub mod DemandsHold
pub mod SheetAnswers
pub mod SheetPrinted
pub mod SheetHolds
pub mod MilestonesHold
pub mod RepeatedArcsHold
pub mod WaitsHold
pub mod AddedMarksHold
pub mod TrimVerdicts
pub mod TrimmedPlans
pub mod TrimChoices
pub mod TrimLeast
pub mod TrimHolds
pub mod CasePlans
pub mod CaseFlows
pub mod CaseTrims
pub mod CasesHold
pub mod HollowFail
