-- What the planner promises, in reading order: the three demands of document 00 (Demands), each said of a
-- planner (Planner), in the file's own terms (planner's File and Times) and by the numbers of the answers
-- (planner's Answers). Then what document 02 adds, said of a planner and an operation (Sheet: change 1,
-- Trim: change 7) or of a planner (Milestones: change 2, RepeatedArcs: change 3, Waits: change 5,
-- AddedMarks: change 6; change 4 is in Paper, beside the crew check), and the starred cases. No file up to
-- here reaches a definition of what our operations do: those are planner's, and Ours gathers them into our
-- planner. Last, the hollow planners, of which the sentence does not hold. That ours keeps the demands, and
-- every other theorem, is in `proofs/`.
pub mod Planner
pub mod EveryInput
pub mod Paper
pub mod PriceList
pub mod Refusals
pub mod Same
pub mod Demands
pub mod Sheet
pub mod Milestones
pub mod RepeatedArcs
pub mod Waits
pub mod AddedMarks
pub mod Trim
pub mod Cases
pub mod Ours
pub mod Hollow
