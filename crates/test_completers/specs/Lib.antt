-- Condition: the files of this crate's definitions; the first line of each says what it is.
pub mod RandomTrees
pub mod Walks
pub mod WalkLaws
pub mod Halves
