-- The solver, as functions on numbers and lists: the search for a way (Search), the handover and its moves
-- (Network), the rounds (Solve), and what a quote gives (Quote).
pub mod Search
pub mod Network
pub mod Solve
pub mod Quote
