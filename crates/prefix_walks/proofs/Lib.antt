-- The lemmas of this crate; the first line of each file says what they are about.
pub mod BatchLemmas
pub mod Elements
pub mod FeedLemmas
pub mod FlaggedFolds
pub mod KeptLemmas
pub mod PieceLemmas
pub mod PlacingLemmas
pub mod RunFolds
pub mod ScanLemmas
pub mod StretchLemmas
pub mod WindowPositions
