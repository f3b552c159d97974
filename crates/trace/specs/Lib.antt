-- Condition: the files of this crate's definitions; the first line of each says what it is.
pub mod Cover
pub mod Cuts
pub mod Sinks
pub mod Stages
pub mod Stops
pub mod Trace
