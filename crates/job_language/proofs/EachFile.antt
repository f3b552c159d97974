-- Bytes are a file of jobs, or are refused.
use Rattle.std.proofs.Common.{◌≡◌, ◌⊎◌, inl, inr, ⊎_elim, ℕ, ◌<◌, ◌≤◌, Bool, true, false, List, [], ◌∷◌, ◌++◌, length}
use Rattle.std.proofs.Common.{Option, Some, None, Result, Ok, Err, refl}
use Rattle.std.proofs.str.Laws.{order}
use Rattle.stream_tokens.specs.declared.job_text.JobText.{JobText}
use Rattle.stream_tokens.specs.declared.job_text.TextFault.{TextFault}
use Rattle.stream_tokens.specs.declared.job_text.TextFault.TheVariants as text
use Rattle.std.specs.List.{starts_with}
use Rattle.std.specs.Prelude.{◌||◌, nat_eq, if◌then◌else◌}
use Rattle.stream_tokens.specs.Bytes.{is_blank}
use Rattle.stream_tokens.specs.JobTexts.{NumberedLine, after_said, begun, by_kind, job_texts_within, jobs_after}
use Rattle.stream_tokens.specs.JobTexts.{jobs_of_lines, kind_of, kind_of_solid, lines_in, said_version, texts_of_lines}
use Rattle.stream_tokens.specs.JobTexts.{version_within}
use Rattle.tables.specs.Table.{NamedColumn}
use Rattle.job_language.specs.declared.fault.Cause.{Cause}
use Rattle.job_language.specs.declared.fault.Cause.TheVariants.{Syntax, TooLong}
use Rattle.job_language.specs.declared.fault.JobFault.{JobFault}
use Rattle.job_language.specs.Files.{AreJobsLeft, AreJobsRead, IsNext, IsRefusedWithin, SpellsJobsWithin, fault_at}
use Rattle.job_language.specs.Files.{scope_below}
use Rattle.job_language.specs.Jobs.{AbstractJob}
use Rattle.job_language.proofs.EachVerdict.{each_read}

each_next : (version : ℕ) (columns : List NamedColumn) (above : List AbstractJob) (t : List ℕ)
    → (r : Result AbstractJob Cause) × IsNext version columns above t r
each_next version columns above t =
    ⊎_elim (λ (few : length above < 256). let r = each_read (scope_below version columns above) t in
    (r.0, inr (few, r.1)))
    (λ (many : 256 ≤ length above). (Err TooLong, inl (many, refl)))
    (order (length above) 256)

abbrev HasJobs : ℕ → List NamedColumn → List AbstractJob → List JobText → Type 0
HasJobs version columns above ts = (r : Result (List AbstractJob) JobFault) × AreJobsRead version columns above ts r

after_next : (version : ℕ) (columns : List NamedColumn) (above : List AbstractJob) (t : JobText) (ts : List JobText)
    (r : Result AbstractJob Cause) → IsNext version columns above t.text r
    → ((j : AbstractJob) → HasJobs version columns (above ++ j ∷ []) ts) → HasJobs version columns above (t ∷ ts)
after_next version columns above t ts (Err c) h later = (Err (fault_at t c), inl (c, h, refl))
after_next version columns above t ts (Ok j) h later = let l = later j in (l.0, inr (j, h, l.1))

each_jobs : (version : ℕ) (columns : List NamedColumn) (above : List AbstractJob) (ts : List JobText)
    → HasJobs version columns above ts
each_jobs version columns above [] = (Ok above, refl)
each_jobs version columns above (t ∷ ts) = let n = each_next version columns above t.text in
    after_next version columns above t ts n.0 n.1 (λ j. each_jobs version columns (above ++ j ∷ []) ts)

-- a line needs no memory: it is skipped, it continues nothing, or it begins something; `p` and `q` are the tests of
-- `kind_of`
abbrev Left : Type 0
Left = Result (List JobText) TextFault

abbrev NeedsNone : Left → Type 0
NeedsNone r = r ≡ Err text.NoMemory → ⊥

by_tests : (p q : Bool) (n : ℕ) (later begins : Left) → NeedsNone later → NeedsNone begins
    → NeedsNone (by_kind (if p then kind_of [] else (if q then kind_of (46 ∷ []) else kind_of (97 ∷ []))) later
    (Err (text.Syntax n)) begins)
by_tests true q n later begins skips starts h = skips h
by_tests false true n later begins skips starts h = absurd cc
by_tests false false n later begins skips starts h = starts h

by_blank : (c : Bool) (b : ℕ) (bs : List ℕ) (n : ℕ) (later begins : Left) → NeedsNone later → NeedsNone begins
    → NeedsNone (by_kind (kind_of bs) later (Err (text.Syntax n)) begins)
    → NeedsNone (by_kind (if c then kind_of bs else kind_of_solid (b ∷ bs)) later (Err (text.Syntax n)) begins)
by_blank true b bs n later begins skips starts further h = further h
by_blank false b bs n later begins skips starts further h =
    by_tests (starts_with nat_eq (b ∷ bs) (35 ∷ []) || starts_with nat_eq (b ∷ bs) (47 ∷ 47 ∷ []))
    (starts_with nat_eq (b ∷ bs) (46 ∷ [])) n later begins skips starts h

by_line : (line : List ℕ) (n : ℕ) (later begins : Left) → NeedsNone later → NeedsNone begins
    → NeedsNone (by_kind (kind_of line) later (Err (text.Syntax n)) begins)
by_line [] n later begins skips starts h = skips h
by_line (b ∷ bs) n later begins skips starts h =
    by_blank (is_blank b) b bs n later begins skips starts (by_line bs n later begins skips starts) h

needs_none : (js : List JobText) → NeedsNone (Ok js)
needs_none js h = absurd cc

no_memory : (lines : List NumberedLine) → NeedsNone (jobs_of_lines lines)
no_memory [] h = absurd cc
no_memory (line ∷ lines) h = by_line line.bytes line.number (jobs_of_lines lines) (Ok (jobs_after (begun line) lines))
    (no_memory lines) (needs_none (jobs_after (begun line) lines)) h

-- the first line that isn't skipped may say the version
by_version : (v : Option ℕ) (line : NumberedLine) (lines : List NumberedLine)
    → NeedsNone (after_said v (jobs_of_lines lines) (jobs_of_lines (line ∷ lines)))
by_version (Some v) line lines h = no_memory lines h
by_version None line lines h = no_memory (line ∷ lines) h

no_memory_first : (newest : ℕ) (lines : List NumberedLine) → NeedsNone (texts_of_lines newest lines)
no_memory_first newest [] h = absurd cc
no_memory_first newest (line ∷ lines) h =
    by_line line.bytes line.number (texts_of_lines newest lines)
    (after_said (said_version newest line.bytes) (jobs_of_lines lines) (jobs_of_lines (line ∷ lines)))
    (no_memory_first newest lines) (by_version (said_version newest line.bytes) line lines) h

no_memory_in : (newest : ℕ) (bytes : List ℕ) → job_texts_within newest bytes ≡ Err text.NoMemory → ⊥
unfolding job_texts_within
no_memory_in newest bytes h = no_memory_first newest (lines_in bytes) h

left : (version : ℕ) (columns : List NamedColumn) (texts : Result (List JobText) TextFault)
    → (texts ≡ Err text.NoMemory → ⊥) → (r : Result (List AbstractJob) JobFault)
    × AreJobsLeft version columns [] texts r
left version columns (Ok ts) other = each_jobs version columns [] ts
left version columns (Err (text.Syntax line)) other = (Err (record { line = line; cause = Syntax }), refl)
left version columns (Err text.NoMemory) other = absurd (other refl)

by_result : (newest : ℕ) (bytes : List ℕ) (columns : List NamedColumn) (r : Result (List AbstractJob) JobFault)
    → AreJobsLeft (version_within newest bytes) columns [] (job_texts_within newest bytes) r
    → ((jobs : List AbstractJob) × SpellsJobsWithin newest bytes columns jobs)
    ⊎ ((fault : JobFault) × IsRefusedWithin newest bytes columns fault)
by_result newest bytes columns (Ok jobs) h = inl (jobs, h)
by_result newest bytes columns (Err fault) h = inr (fault, h)

pub each_file : (newest : ℕ) (bytes : List ℕ) (columns : List NamedColumn)
    → ((jobs : List AbstractJob) × SpellsJobsWithin newest bytes columns jobs)
    ⊎ ((fault : JobFault) × IsRefusedWithin newest bytes columns fault)
each_file newest bytes columns = let l =
    left (version_within newest bytes) columns (job_texts_within newest bytes) (no_memory_in newest bytes) in
    by_result newest bytes columns l.0 l.1
