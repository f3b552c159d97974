-- The lemmas of this crate; the first line of each file says what they are about.
pub mod AskLemmas
pub mod BuiltLemmas
pub mod FoundLegs
pub mod LeftLemmas
pub mod LinkLemmas
pub mod MapLemmas
pub mod PlaceLemmas
pub mod PlaceOfItem
pub mod RouteLemmas
pub mod SearchLemmas
pub mod SearchedLegs
pub mod WindowLemmas
