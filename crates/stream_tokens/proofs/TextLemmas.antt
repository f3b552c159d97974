-- Texts that were given, and those that are left.
use Rattle.std.proofs.Common.{◌≡◌, ℕ, List, [], ◌∷◌, ◌++◌, length, Result, Ok, Err, IfErr, refl, ap, ◌∙◌}
use Rattle.stream_tokens.specs.declared.job_text.JobText.{JobText}
use Rattle.stream_tokens.specs.declared.line.LineKind.{LineKind}
use Rattle.stream_tokens.specs.declared.line.LineKind.TheVariants.{Skipped, Continues, Begins}
use Rattle.stream_tokens.specs.JobTexts.{NumberedLine, begun, joined, jobs_after, kind_of}
use Rattle.stream_tokens.specs.TextsLeft.{Texts, HasText}

-- the texts that were given and the texts that are left, or a fault and no texts
abbrev pub with_front : List JobText → Texts → Texts
with_front texts (Ok more) = Ok (texts ++ more)
with_front texts (Err fault) = Err fault

-- how many texts are left
abbrev pub count_left : Texts → ℕ
count_left (Ok more) = length more
count_left (Err fault) = 0

pub with_front-nothing : (left : Texts) → with_front [] left ≡ left
with_front-nothing (Ok more) = refl
with_front-nothing (Err fault) = refl

-- a text that is left is one of all
pub HasText-with_front : (texts : List JobText) (left : Texts) → HasText left → HasText (with_front texts left)
HasText-with_front [] left (job, more, e) = (job, more, with_front-nothing left ∙ e)
HasText-with_front (first ∷ texts) left (job, more, e) = (first, texts ++ job ∷ more, ap (with_front (first ∷ texts)) e)

-- a job that is begun is the first of those that its lines give
after_line : (job : JobText) (line : NumberedLine) (lines : List NumberedLine) (kind : LineKind)
    → kind_of line.bytes ≡ kind
    → HasText (Ok (jobs_after job lines)) → HasText (Ok (jobs_after (joined job line.bytes) lines))
    → HasText (Ok (jobs_after job (line ∷ lines)))
after_line job line lines Skipped e skipped continues = rw e skipped
after_line job line lines Continues e skipped continues = rw e continues
after_line job line lines Begins e skipped continues = rw e (job, jobs_after (begun line) lines, refl)

pub HasText-jobs_after : (job : JobText) (lines : List NumberedLine) → HasText (Ok (jobs_after job lines))
HasText-jobs_after job [] = (job, [], refl)
HasText-jobs_after job (line ∷ lines) =
    after_line job line lines (kind_of line.bytes) refl (HasText-jobs_after job lines)
    (HasText-jobs_after (joined job line.bytes) lines)

pub HasText-begun : (texts all : Texts) (job : JobText) (lines : List NumberedLine) → texts ≡ all
    → all ≡ Ok (jobs_after job lines) → HasText texts
HasText-begun texts all job lines e f = let (first, more, g) = HasText-jobs_after job lines in (first, more, e ∙ f ∙ g)

-- a fact that needs no fault
pub IfErr-all : {A E : Type 0} (P : E → Type 0) (r : Result A E) → ((fault : E) → P fault) → IfErr r P
IfErr-all P (Ok x) h = tt
IfErr-all P (Err fault) h = h fault
