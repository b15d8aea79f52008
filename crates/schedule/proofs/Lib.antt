-- Laws of the definitions of `specs/`, which callers cite: the earliest starts of a network, that there is a rank, the
-- list of starts, that these go by the weights of pairs of elements, the crew check's parts and answers, the load of a
-- period. `Levels`, `Candidates` and `Found` are for the proofs of the code alone.
pub mod Starts
pub mod Ranks
pub mod Arcs
pub mod Periods
pub mod PeriodLoads
pub mod Answers
pub mod Arrays
pub mod Weights
pub mod Levels
pub mod Candidates
pub mod Found
