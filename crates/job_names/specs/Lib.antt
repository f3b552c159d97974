-- Condition: the files of this crate's definitions; the first line of each says what it is.
pub mod ColumnKeys
pub mod JobNames
