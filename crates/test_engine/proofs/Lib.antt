-- Lemmas of the jobs of these tests.
pub mod Copies
pub mod Slices
pub mod Walks
