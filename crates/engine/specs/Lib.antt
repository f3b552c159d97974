-- Condition: the files of this crate's definitions; the first line of each says what it is.
pub mod FaultTexts
pub mod Given
pub mod Outcomes
pub mod Refused
pub mod Run
pub mod Statuses
pub mod Worked
