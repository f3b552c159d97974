-- Condition: the files of this crate's definitions; the first line of each says what it is.
pub mod Batches
pub mod Kept
pub mod Pieces
pub mod Placing
pub mod Scans
pub mod Stretches
