-- Condition: how the texts left of a file become fewer.
use Rattle.std.specs.Prelude.{◌≡◌, ◌≢◌, ◌+◌, List, [], ◌∷◌, Option, Some, None, Result, Ok, Err}
use Rattle.stream_tokens.specs.declared.job_text.JobText.{JobText}
use Rattle.stream_tokens.specs.declared.job_text.TextFault.{TextFault}
use Rattle.stream_tokens.specs.declared.job_text.TextFault.TheVariants.{NoMemory}
use Rattle.stream_tokens.specs.declared.line.Line.{Line}
use Rattle.stream_tokens.specs.declared.lines_left.LinesLeft.{LinesLeft}
use Rattle.stream_tokens.specs.JobTexts.{NumberedLine, numbered, jobs_after, jobs_of_lines}
use Rattle.stream_tokens.specs.Lines.{lines_of}

-- the lines that are left, with their numbers
abbrev pub lines_at : LinesLeft → List NumberedLine
lines_at left = numbered (left.before + 1) (lines_of left.rest.now)

-- a line as definitions see it
abbrev pub numbered_line : Line → NumberedLine
numbered_line line = record { number = line.number; bytes = line.bytes.now }

-- the job has all its lines: the further jobs are in the lines that are left
abbrev pub IsWhole : JobText → List NumberedLine → JobText → List NumberedLine → Type 0
IsWhole old before new after =
    (more : List JobText) × (jobs_after old before ≡ new ∷ more) × (jobs_of_lines after ≡ Ok more)

-- the texts that are left, or a fault and no texts
abbrev pub Texts : Type 0
Texts = Result (List JobText) TextFault

-- there is a text, and this is the first; or there is none; or there is a fault and no text
abbrev pub Gives : Texts → Result (Option JobText) TextFault → Texts → Type 0
Gives old (Ok None) new = (old ≡ Ok []) × (new ≡ Ok [])
Gives old (Ok (Some job)) new = (more : List JobText) × (old ≡ Ok (job ∷ more)) × (new ≡ Ok more)
Gives old (Err fault) new = fault ≢ NoMemory → old ≡ Err fault

-- there is a text at least, and no fault
abbrev pub HasText : Texts → Type 0
HasText texts = (job : JobText) × (more : List JobText) × (texts ≡ Ok (job ∷ more))
