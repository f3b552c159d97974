pub mod CutLemmas
pub mod FrontLemmas
pub mod JoinLemmas
pub mod RestLemmas
