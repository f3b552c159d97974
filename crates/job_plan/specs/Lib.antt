-- Condition: the files of this crate's definitions; the first line of each says what it is.
pub mod Arrays
pub mod Bases
pub mod Owned
pub mod Parts
pub mod Passages
pub mod Plans
pub mod Stretches
