-- Condition: the files of this crate's definitions; the first line of each says what it is.
pub mod Firsts
pub mod NewValues
pub mod Orders
pub mod Parts
pub mod Places
pub mod Ranges
pub mod Runs
