-- Condition: the files of this crate's definitions; the first line of each says what it is.
pub mod TableSettings
pub mod Settings
pub mod Asked
pub mod SettingsParts
