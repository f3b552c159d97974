-- Condition: the files of this crate's definitions; the first line of each says what it is.
pub mod AnswerForms
pub mod Groups
pub mod Json
pub mod Named
pub mod Numbers
pub mod Pieces
pub mod Reports
pub mod Runs
pub mod Text
pub mod Worked
