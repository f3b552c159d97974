-- Meaning: the texts of the jobs of a file, each with the number of the line that begins it.
use Rattle.std.specs.Prelude.{ℕ, ◌+◌, ◌++◌, ◌||◌, ◌&&◌, Bool, false, nat_eq, nat_le, unwrap_or, Option, Some, None}
use Rattle.std.specs.Prelude.{List, [], ◌∷◌, codes, drop, if◌then◌else◌, Result, Ok, Err}
use Rattle.std.specs.List.{starts_with, list_all}
use Rattle.stream_tokens.specs.declared.job_text.JobText.{JobText}
use Rattle.stream_tokens.specs.declared.job_text.TextFault.{TextFault}
use Rattle.stream_tokens.specs.declared.job_text.TextFault.TheVariants.{Syntax}
use Rattle.stream_tokens.specs.declared.line.LineKind.{LineKind}
use Rattle.stream_tokens.specs.declared.line.LineKind.TheVariants.{Skipped, Continues, Begins}
use Rattle.stream_tokens.specs.Bytes.{is_blank}
use Rattle.stream_tokens.specs.Lines.{lines_of}

-- what a line that begins with no blank is for: `#` and `//` begin a comment, `.` continues a job
abbrev pub kind_of_solid : List ℕ → LineKind
kind_of_solid line =
    if starts_with nat_eq line (35 ∷ []) || starts_with nat_eq line (47 ∷ 47 ∷ []) then Skipped
    else (if starts_with nat_eq line (46 ∷ []) then Continues else Begins)

-- what a line is for: one of blanks alone is skipped, and blanks at its start don't matter
abbrev pub kind_of : List ℕ → LineKind
kind_of [] = Skipped
kind_of (b ∷ bs) = if is_blank b then kind_of bs else kind_of_solid (b ∷ bs)

-- a line with its number
pub record NumberedLine : Type 0 where
  pub number : ℕ
  pub bytes : List ℕ

-- lines with their numbers, where the first one has n
abbrev pub numbered : ℕ → List (List ℕ) → List NumberedLine
numbered n [] = []
numbered n (line ∷ lines) = record { number = n; bytes = line } ∷ numbered (n + 1) lines

-- the one of three that goes with a kind of line
abbrev pub by_kind : {A : Type 0} → LineKind → A → A → A → A
by_kind Skipped skipped continues begins = skipped
by_kind Continues skipped continues begins = continues
by_kind Begins skipped continues begins = begins

-- the job that a line begins
abbrev pub begun : NumberedLine → JobText
begun line = record { line = line.number; text = line.bytes }

-- a job with one more line: a space stands between
abbrev pub joined : JobText → List ℕ → JobText
joined job line = record job { text = job.text ++ 32 ∷ line }

-- this job and the further ones, with the lines after those that it has already
abbrev pub jobs_after : JobText → List NumberedLine → List JobText
jobs_after job [] = job ∷ []
jobs_after job (line ∷ lines) =
    by_kind (kind_of line.bytes) (jobs_after job lines) (jobs_after (joined job line.bytes) lines)
    (job ∷ jobs_after (begun line) lines)

-- the jobs of some lines; before the first of them there is nothing to continue
abbrev pub jobs_of_lines : List NumberedLine → Result (List JobText) TextFault
jobs_of_lines [] = Ok []
jobs_of_lines (line ∷ lines) =
    by_kind (kind_of line.bytes) (jobs_of_lines lines) (Err (Syntax line.number)) (Ok (jobs_after (begun line) lines))

-- the bytes from the first on that is no blank
abbrev pub without_blanks : List ℕ → List ℕ
without_blanks [] = []
without_blanks (b ∷ bs) = if is_blank b then without_blanks bs else b ∷ bs

-- the bytes begin with a blank
abbrev pub begins_blank : List ℕ → Bool
begins_blank [] = false
begins_blank (b ∷ bs) = is_blank b

-- the version of this digit, if it is 2, or 3 and that isn't newer than the newest one
abbrev pub version_digit : ℕ → ℕ → Option ℕ
version_digit newest d = if nat_eq d 50 then Some 2 else (if nat_eq d 51 && nat_le 3 newest then Some 3 else None)

-- a digit, and no more than blanks after it
abbrev pub named_version : ℕ → List ℕ → Option ℕ
named_version newest [] = None
named_version newest (d ∷ rest) = if list_all is_blank rest then version_digit newest d else None

-- `version`, blanks, and the digit
abbrev pub version_after_blanks : ℕ → List ℕ → Option ℕ
version_after_blanks newest bytes =
    if starts_with nat_eq bytes (codes "version") && begins_blank (drop 7 bytes)
    then named_version newest (without_blanks (drop 7 bytes)) else None

-- the version that a line of two tokens says: blanks stand between them, and may stand before and after
abbrev pub said_version : ℕ → List ℕ → Option ℕ
said_version newest line = version_after_blanks newest (without_blanks line)

-- the version that the first line says that isn't skipped, else 1
abbrev pub version_in : ℕ → List NumberedLine → ℕ
version_in newest [] = 1
version_in newest (line ∷ lines) = by_kind (kind_of line.bytes) (version_in newest lines) 1
    (unwrap_or (said_version newest line.bytes) 1)

-- helper: these jobs after a line that says a version, or else those
abbrev pub after_said : Option ℕ → Result (List JobText) TextFault → Result (List JobText) TextFault
    → Result (List JobText) TextFault
after_said (Some v) after all = after
after_said None after all = all

-- the jobs of some lines; a first line that says a version begins none, and nothing continues it
abbrev pub texts_of_lines : ℕ → List NumberedLine → Result (List JobText) TextFault
texts_of_lines newest [] = Ok []
texts_of_lines newest (line ∷ lines) =
    by_kind (kind_of line.bytes) (texts_of_lines newest lines) (Err (Syntax line.number))
    (after_said (said_version newest line.bytes) (jobs_of_lines lines) (jobs_of_lines (line ∷ lines)))

-- a byte order mark: the three bytes of U+FEFF in UTF-8
abbrev pub byte_order_mark : List ℕ
byte_order_mark = 239 ∷ 187 ∷ 191 ∷ []

-- the bytes after a byte order mark, if there is one
abbrev pub without_mark : List ℕ → List ℕ
without_mark bytes = if starts_with nat_eq bytes byte_order_mark then drop 3 bytes else bytes

-- the lines of a file, counted from 1, skipped ones too
abbrev pub lines_in : List ℕ → List NumberedLine
lines_in bytes = numbered 1 (lines_of (without_mark bytes))

-- the version of the language in which a file is written, where the newest one that is read is this
unfoldable pub version_within : ℕ → List ℕ → ℕ
version_within newest bytes = version_in newest (lines_in bytes)

-- the version where the newest one is 2: 1 or 2
abbrev pub version_of : List ℕ → ℕ
version_of bytes = version_within 2 bytes

-- the texts of the jobs, or the line that continues nothing, where the newest version is this
unfoldable pub job_texts_within : ℕ → List ℕ → Result (List JobText) TextFault
job_texts_within newest bytes = texts_of_lines newest (lines_in bytes)

-- the texts where the newest version is 2
abbrev pub job_texts_of : List ℕ → Result (List JobText) TextFault
job_texts_of bytes = job_texts_within 2 bytes
