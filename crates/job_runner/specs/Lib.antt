-- Condition: the files of this crate's definitions; the first line of each says what it is. Begin with Runs.
pub mod Runs
pub mod Cuts
pub mod Tasks
pub mod Waits
