pub mod ItemWalkLemmas
mod LongAnswers
mod LongParts
mod LongStages
mod LongValues
mod LongWalks
