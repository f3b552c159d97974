mod Bits
mod Products
mod Affine
mod Associativity
pub mod Identities
pub mod FoldLemmas
pub mod ExactLemmas
pub mod SettledSums
