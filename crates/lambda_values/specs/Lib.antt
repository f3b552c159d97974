-- Condition: the files of this crate's definitions; the first line of each says what it is.
pub mod Cells
pub mod Earlier
pub mod FaultTexts
pub mod Lambda
pub mod Operators
pub mod Places
pub mod References
pub mod Streams
pub mod Term
pub mod Value
pub mod Wrap
