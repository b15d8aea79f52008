-- For the code: an order that is extended arc by arc (Growing), Warshall's closure (Warshall), and the places
-- of a list that are not 0 (Places).
pub mod Growing
pub mod Warshall
pub mod Places
