-- Condition: what one more text of a file gives.
use Rattle.std.specs.Prelude.{◌≡◌, ℕ, List, [], ◌∷◌, ◌++◌, Ok, Err}
use Rattle.stream_tokens.specs.declared.job_text.JobText.{JobText}
use Rattle.tables.specs.Table.{NamedColumn}
use Rattle.job_language.specs.declared.fault.JobFault.{JobFault}
use Rattle.job_language.specs.Jobs.{AbstractJob}
use Rattle.job_language.specs.Files.{IsNext}

-- the text is a job below these, and with it they are those
pub record IsNextJob (version : ℕ) (columns : List NamedColumn) (above : List AbstractJob) (t : JobText)
    (after : List AbstractJob) : Type 0 where
  pub job : AbstractJob
  pub read : IsNext version columns above t.text (Ok job)
  pub put : after ≡ above ++ job ∷ []

-- the text is refused below these jobs, at its line
pub record IsNextFault (version : ℕ) (columns : List NamedColumn) (above : List AbstractJob) (t : JobText)
    (fault : JobFault) : Type 0 where
  pub read : IsNext version columns above t.text (Err fault.cause)
  pub at : fault.line ≡ t.line
