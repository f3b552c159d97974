-- The lemmas of this crate; the first line of each file says what they are about.
pub mod CoverLemmas
pub mod CutLemmas
pub mod JoinLemmas
pub mod PieceLemmas
pub mod Ranges
pub mod RewriteLemmas
pub mod Sources
pub mod StopLemmas
pub mod WalkLemmas
