-- Condition: the files of this crate's definitions; the first line of each says what it is.
pub mod Apart
pub mod Cuts
pub mod Mergeable
pub mod Merging
pub mod Possible
pub mod Refusals
pub mod FaultTexts
