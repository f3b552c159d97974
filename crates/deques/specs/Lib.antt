-- Condition: the files of this crate's definitions; the first line of each says what it is.
pub mod Tasks
pub mod Rule
pub mod Handles
