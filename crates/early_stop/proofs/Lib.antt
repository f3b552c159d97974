-- Lemmas of this crate.
pub mod Keeps
pub mod Leaving
pub mod Settling
