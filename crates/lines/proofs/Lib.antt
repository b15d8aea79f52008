-- Laws of text.
pub mod Decimals
pub mod Texts
pub mod Putting
