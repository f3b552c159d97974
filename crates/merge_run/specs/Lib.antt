-- Condition: the files of this crate's definitions; the first line of each says what it is.
pub mod FaultTexts
pub mod Merged
pub mod Objects
pub mod Run
pub mod Small
pub mod Taken
