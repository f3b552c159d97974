pub mod DivisionLaws
pub mod ExactLemmas
pub mod Multiples
pub mod Placeless
pub mod Quotients
pub mod References
pub mod Shifts
