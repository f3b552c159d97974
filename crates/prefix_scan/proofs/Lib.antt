-- The lemmas of this crate; the first line of each file says what they are about.
pub mod BlockLemmas
pub mod CallLemmas
pub mod LoopLemmas
pub mod PassLemmas
pub mod ScanLemmas
pub mod ValueLemmas
