-- Laws of the solver's model. `QuoteSound` says what they come to: a quote keeps what specs/Sound.antt promises; the
-- files before it lead up to that. `First` says it of the first n elements, where the others have no demand. `Steps` is
-- what the proofs of the functions share.
pub mod Steps
pub mod Takers
pub mod Digits
pub mod Stores
pub mod Balance
pub mod Linked
pub mod Positive
pub mod Kept
pub mod Certificate
pub mod Tree
pub mod WayBack
pub mod Depth
pub mod Ordered
pub mod Consistent
pub mod StartState
pub mod Cleared
pub mod Taken
pub mod RoundsEnd
pub mod EndState
pub mod Outcome
pub mod Carried
pub mod QuoteSound
pub mod First
