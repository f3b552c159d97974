pub mod LoopLemmas
mod ApartLemmas
mod LaterLemmas
mod FoldLemmas
mod AnswerLemmas
mod Written
mod SameAnswers
mod NamedLemmas
mod JobLemmas
mod FileLemmas
mod ColumnLemmas
mod RowLemmas
mod PossibleLemmas
mod SpelledLemmas
mod WholeLemmas
mod RefusalLemmas
