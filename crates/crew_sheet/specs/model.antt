-- For the code: the characters of a number, from the last on; the records of a page, found one after another;
-- and how many there are at a start. That these come to the columns and lines of `Sheet` are laws.
pub mod Figures
pub mod Finding
pub mod Blocks
