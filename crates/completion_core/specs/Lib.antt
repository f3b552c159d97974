-- Condition: the files of this crate's definitions; the first line of each says what it is.
pub mod Bags
pub mod Book
pub mod Graph
pub mod Holdings
pub mod Laws
pub mod Legal
pub mod Played
pub mod Refusals
pub mod Runs
pub mod Steps
