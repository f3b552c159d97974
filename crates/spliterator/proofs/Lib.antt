mod PartLemmas
mod SplitLemmas
