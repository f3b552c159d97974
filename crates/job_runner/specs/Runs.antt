-- Condition: what a run is over: its jobs, what their legs give, and what the values that it passes on are; and which
-- leg each word of early stop is of.
use Rattle.std.specs.Prelude.{◌≡◌, ℕ, zero, suc, ◌+◌, ◌-◌, nat_lt, if◌then◌else◌, List, [], ◌∷◌, ⊤}
use Rattle.std.specs.Coded.{×_prop, Unit-prop}
use Rattle.atomic_table.specs.Seated.{TableId}
use Rattle.trace.specs.declared.item.Fault.{Fault}
use Rattle.trace.specs.Trace.{Trace}
use Rattle.early_stop.specs.declared.cut.Cut.{Cut as StopWords}
use Rattle.early_stop.specs.Decisive.{Decides}
use Rattle.job_runner.specs.declared.legs.Begun.{Begun}
use Rattle.job_runner.specs.declared.legs.Begun.TheVariants.{Walk, Known}

-- The jobs of a run. O is what a leg gives, P a part of it, S what a leg after the first one goes over, A the answer of
-- a job, and G what a job takes of earlier answers.
pub record RunSpec (O P S A G : Type 0) : Type 1 where
  -- how many jobs there are, and the number of a job's last leg; the first one has the number 0
  pub jobs : ℕ
  pub last : ℕ → ℕ
  -- how many positions a leg of a job has
  pub size : ℕ → ℕ → ℕ
  -- the walk of what a leg of a job goes over, and what the leg would give for a walk
  pub goes_over : ℕ → ℕ → Trace
  pub gives : ℕ → ℕ → Trace → O
  -- The part is what a job's leg gives for the positions from the first up to, not with, the second. Positions at or
  -- after a place that decides what the leg gives may be left out.
  pub stands_for : ℕ → ℕ → ℕ → ℕ → P → Type 0
  -- a part of a job's leg ends in this fault, and the job gives an answer in its place: the fault is handed in, and not
  -- the part
  pub is_caught : ℕ → ℕ → P → Fault → Type 0
  -- it is what a leg of a job goes over, the answer of a job, or what a job that is walked takes of earlier answers
  pub is_source : ℕ → ℕ → S → Type 0
  pub is_answer : ℕ → A → Type 0
  pub is_given : ℕ → G → Type 0
  -- these three are facts: no two proofs of one differ
  pub one_source : (job leg : ℕ) (source : S) → IsProp (is_source job leg source)
  pub one_answer : (job : ℕ) (answer : A) → IsProp (is_answer job answer)
  pub one_given : (job : ℕ) (given : G) → IsProp (is_given job given)

-- from this position of a job's leg on, no item can change what the leg gives
abbrev pub DecidesIn : {O P S A G : Type 0} → RunSpec O P S A G → ℕ → ℕ → ℕ → Type 0
DecidesIn run job leg c = Decides (run.gives job leg) (run.goes_over job leg) c

-- what a job takes of earlier answers and how many positions its first leg has are known, or its answer is
abbrev pub IsBegun : {O P S A G : Type 0} → RunSpec O P S A G → ℕ → Begun G A → Type 0
IsBegun run job (Walk given size) = run.is_given job given × (size ≡ run.size job 0)
IsBegun run job (Known a) = run.is_answer job a

-- each of these is the answer of its job, the first one of the job with this number
abbrev pub AreAnswers : {A : Type 0} → (ℕ → A → Type 0) → ℕ → List A → Type 0
AreAnswers is_answer job [] = ⊤
AreAnswers is_answer job (a ∷ rest) = is_answer job a × AreAnswers is_answer (suc job) rest

-- no two proofs of that differ
pub AreAnswers-prop : {O P S A G : Type 0} (run : RunSpec O P S A G) (job : ℕ) (answers : List A)
    → IsProp (AreAnswers run.is_answer job answers)
AreAnswers-prop run job [] = Unit-prop
AreAnswers-prop run job (a ∷ rest) = ×_prop (run.one_answer job a) (AreAnswers-prop run (suc job) rest)

-- ---- words of early stop

-- the table of the words
abbrev pub stop_id_of : {S O : Type 0} → StopWords S O → TableId
stop_id_of stops = stops.table.shared.table_id

-- the job and the leg with this number, counted from a job on, of this many jobs
abbrev pub pair_from : (ℕ → ℕ) → ℕ → ℕ → ℕ → ℕ × ℕ
pair_from last job zero i = (job, i)
pair_from last job (suc n) i = if nat_lt (last job) i then pair_from last (suc job) n (i - suc (last job)) else (job, i)

abbrev pub pair_at : (ℕ → ℕ) → ℕ → ℕ → ℕ × ℕ
pair_at last jobs i = pair_from last 0 jobs i

-- how many legs this many jobs have, counted from a job on
abbrev pub words_from : (ℕ → ℕ) → ℕ → ℕ → ℕ
words_from last job zero = 0
words_from last job (suc n) = suc (last job) + words_from last (suc job) n

-- the number of a job's first leg
abbrev pub first_word : (ℕ → ℕ) → ℕ → ℕ
first_word last job = words_from last 0 job
