-- Lines of text, as bytes of ASCII: a word, and numbers after it. The laws are in `proofs/`.
pub mod Text
