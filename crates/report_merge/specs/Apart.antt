-- Design: what a refusal to merge parts says.
use Rattle.std.specs.Prelude.{◌≡◌, ℕ, ◌+◌, ◌<◌, ◌^◌, ◌⊎◌, is_some, if◌then◌else◌, List, [], ◌∷◌, ◌++◌, length, Option}
use Rattle.std.specs.Prelude.{Some, None}
use Rattle.job_language.specs.Jobs.{AbstractJob}
use Rattle.job_meaning.specs.declared.answer.Answer.{Answer}
use Rattle.report_merge.specs.declared.fault.MergeFault.{MergeFault}
use Rattle.report_merge.specs.declared.fault.MergeFault.TheVariants.{NoPart, Part as OfPart, TooManyRows, NoMemory}
use Rattle.report_merge.specs.Merging.{Part, answer_beside, rows_in, together}

-- the first job whose answer over these rows can't be merged with its answer over the rows before, or that lacks one of
-- them; jobs count from n. It is the number after the last job if there are more answers than jobs
abbrev pub first_apart : ℕ → List AbstractJob → ℕ → ℕ → List Answer → List Answer → Option ℕ
first_apart n [] before rows [] [] = None
first_apart n [] before rows [] (b ∷ bs) = Some n
first_apart n [] before rows (a ∷ ls) bs = Some n
first_apart n (job ∷ jobs) before rows [] bs = Some n
first_apart n (job ∷ jobs) before rows (a ∷ ls) [] = Some n
first_apart n (job ∷ jobs) before rows (a ∷ ls) (b ∷ bs) =
    if is_some (answer_beside job before rows a b) then first_apart (n + 1) jobs before rows ls bs else Some n

-- the first job without an answer; jobs count from n. It is the number after the last job if there are more answers
abbrev pub first_unpaired : ℕ → List AbstractJob → List Answer → Option ℕ
first_unpaired n [] [] = None
first_unpaired n [] (a ∷ ls) = Some n
first_unpaired n (job ∷ jobs) [] = Some n
first_unpaired n (job ∷ jobs) (a ∷ ls) = first_unpaired (n + 1) jobs ls

-- the parts before the one with this number can be merged, but not with its answers; this is the first job for which
-- they
-- can't
pub record IsApart (jobs : List AbstractJob) (parts : List Part) (number job : ℕ) : Type 0 where
  pub before : List Part
  pub part : Part
  pub later : List Part
  pub all : parts ≡ before ++ part ∷ later
  pub number_is : number ≡ length before
  pub whole : Part
  pub merged : together jobs before ≡ Some whole
  pub first : first_apart 0 jobs whole.rows part.rows whole.answers part.answers ≡ Some job

-- there is one part, with number 0, and it hasn't one answer for each job; this is the first job for which it hasn't
pub record IsUnpaired (jobs : List AbstractJob) (parts : List Part) (number job : ℕ) : Type 0 where
  pub part : Part
  pub all : parts ≡ part ∷ []
  pub number_is : number ≡ 0
  pub first : first_unpaired 0 jobs part.answers ≡ Some job

-- what a refusal to merge parts says of them
abbrev pub IsRefusal : List AbstractJob → List Part → MergeFault → Type 0
IsRefusal jobs parts NoPart = parts ≡ []
IsRefusal jobs parts (OfPart number job) = IsApart jobs parts number job ⊎ IsUnpaired jobs parts number job
IsRefusal jobs parts TooManyRows = 2 ^ 62 < rows_in parts
IsRefusal jobs parts NoMemory = Unit {0}

-- helper: what a refusal says of the part with this number: together with those before it has this many rows, and this
-- is
-- the first job for which it is refused, if there is one
abbrev pub IsRefusedAt : ℕ → ℕ → Option ℕ → MergeFault → Type 0
IsRefusedAt number rows job NoPart = ⊥
IsRefusedAt number rows job (OfPart part other) = (part ≡ number) × (job ≡ Some other)
IsRefusedAt number rows job TooManyRows = 2 ^ 62 < rows
IsRefusedAt number rows job NoMemory = Unit {0}
