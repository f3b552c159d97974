-- Condition: the files of this crate's definitions; of each the first line says what it is.
pub mod Cell
pub mod Cells
pub mod Decimals
pub mod FaultTexts
pub mod Fronts
pub mod Layouts
pub mod Number
pub mod Pieces
pub mod Places
pub mod Records
pub mod Refusals
pub mod Table
pub mod TableCuts
pub mod TableForms
pub mod TableOfColumns
pub mod TextRows
