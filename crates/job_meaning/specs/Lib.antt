-- Condition: the files of this crate's definitions; the first line of each says what it is.
pub mod FileAnswers
pub mod ItemWalks
pub mod Longs
pub mod Names
pub mod Walks
