-- The lemmas of this crate; the first line of each file says what they are about.
pub mod CountLemmas
pub mod EnoughLemmas
pub mod FirstsLemmas
pub mod FrontLemmas
pub mod KeptLemmas
pub mod LentLemmas
pub mod LookLemmas
pub mod MeaningLemmas
pub mod NameLemmas
pub mod PartLemmas
pub mod PassageLemmas
pub mod SettleLemmas
pub mod StretchLemmas
pub mod WalkLemmas
