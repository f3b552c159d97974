-- Lemmas of this crate.
pub mod ClimbLemmas
pub mod ForkLemmas
pub mod PathLemmas
pub mod RootLemmas
