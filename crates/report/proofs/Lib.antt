mod ArrayLemmas
pub mod EachNamed
pub mod NamedTexts
mod NumberLemmas
mod PieceLemmas
mod SentPieces
mod WrittenTextLemmas
