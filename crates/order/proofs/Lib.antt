-- Laws of the definitions of `specs/`, which callers cite; whoever builds on an order needs nothing else.
pub mod Before
pub mod Nodes
pub mod Stored
pub mod Sets
pub mod Listing
pub mod Turns
pub mod Represents
pub mod Closure
pub mod Arcs
pub mod Growing
pub mod Gaining
pub mod Orders
pub mod Lacking
pub mod Nonzero
