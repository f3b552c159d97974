-- Lemmas of the callers in the tests.
pub mod CountingLemmas
pub mod PathAboveLemmas
pub mod RandomTreeLemmas
pub mod WalkLemmas
