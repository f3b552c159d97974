-- Design: answers that a report can hold.
use Rattle.std.specs.Prelude.{◌≡◌, ◌≢◌, ℕ, ◌<◌, ◌^◌, List, [], ◌∷◌, length}
use Rattle.job_meaning.specs.declared.answer.Answer.{Answer}
use Rattle.job_meaning.specs.declared.answer.Answer.TheVariants.{Fault as fault_answer}
use Rattle.job_meaning.specs.Longs.{AnswerFits, AnswersFit}
use Rattle.report.specs.Json.{report_json}
use Rattle.report.specs.Named.{IsNamed}
use Rattle.report_merge.specs.Merging.{Part}
use Rattle.trace.specs.declared.item.Fault.{Fault}

-- the parts have one of these answers for each name
abbrev pub ArePartsSmall : List (List ℕ) → List Part → Type 0
ArePartsSmall names [] = Unit {0}
ArePartsSmall names (p ∷ ps) = (length names ≡ length p.answers) × AnswersFit names p.answers × ArePartsSmall names ps

-- an answer with numbers of 64 bits and a stage of 32 bits, which is unusable only because of a job that there is
pub record IsHeld (names : List (List ℕ)) (a : Answer) : Type 0 where
  pub fits : AnswerFits names a
  pub named : IsNamed names a
  pub stage : (f : Fault) → a ≡ fault_answer f → f.stage < 2 ^ 32

abbrev pub AreHeld : List (List ℕ) → List Answer → Type 0
AreHeld names [] = Unit {0}
AreHeld names (a ∷ more) = IsHeld names a × AreHeld names more

-- each name has one of these answers
pub record AreAnswersOf (names : List (List ℕ)) (answers : List Answer) : Type 0 where
  pub paired : length names ≡ length answers
  pub held : AreHeld names answers

-- the bytes are no report as JSON of such answers of jobs with these names
abbrev pub IsReportOfNone : List (List ℕ) → List ℕ → Type 0
IsReportOfNone names bytes = (answers : List Answer) → AreAnswersOf names answers → bytes ≢ report_json names answers
