-- Lemmas of this crate.
pub mod AnswerLemmas
pub mod ArmLemmas
pub mod CaughtLemmas
pub mod Halves
pub mod SameRun
pub mod SeatLemmas
pub mod StopLemmas
