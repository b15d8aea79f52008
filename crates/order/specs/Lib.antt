-- The meaning of the crate `order`, in reading order. Quotations are from document 01, section "Order",
-- unless another is named. An element stands for an activity; elements are numbered from 0. `model` is for
-- the code, and can be left out. The laws are in `proofs/`.
pub mod Before
pub mod Arcs
pub mod Nodes
pub mod Stored
pub mod Sets
pub mod Rows
pub mod Orders
pub mod model
