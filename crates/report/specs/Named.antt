-- Condition: which answers a report can print.
use Rattle.std.specs.Prelude.{◌≡◌, ℕ, ◌<◌, List, length, IsUtf8}
use Rattle.job_meaning.specs.declared.answer.Answer.{Answer}
use Rattle.job_meaning.specs.declared.answer.Answer.TheVariants.{Unusable}

-- if an answer names a job, that job is one of those that have these names
abbrev pub IsNamed : List (List ℕ) → Answer → Type 0
IsNamed names a = (i : ℕ) → a ≡ Unusable i → i < length names

-- the name is a text in UTF-8
pub record IsText (name : List ℕ) : Type 0 where
  pub utf8 : IsUtf8 name
