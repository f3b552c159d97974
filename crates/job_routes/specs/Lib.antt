-- Condition: the files of this crate's definitions; the first line of each says what it is. Begin with Legs.
pub mod Building
pub mod Legs
pub mod Searches
