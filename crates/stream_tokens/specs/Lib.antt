-- Condition: the files of this crate's definitions; the first line of each says what it is.
pub mod Bytes
pub mod Symbols
pub mod Forms
pub mod Tokens
pub mod Scanning
pub mod Lines
pub mod JobTexts
pub mod CutTexts
pub mod CutFields
pub mod TextsLeft
pub mod FaultTexts
