-- Condition: the files of this crate's definitions; the first line of each says what it is.
pub mod ExactSums
pub mod Folds
pub mod Operators
pub mod Parts
pub mod Reaches
