-- Condition: the bytes of a report as JSON, as a reader comes upon them.
use Rattle.std.specs.Prelude.{◌≡◌, ℕ, ℤ, Bool, true, false, List, [], ◌∷◌, ◌++◌, Option, None, Some, codes}
use Rattle.std.specs.Prelude.{slice_index_or}
use Rattle.std.specs.Fmt.{decimal, signed_decimal}
use Rattle.job_meaning.specs.declared.answer.Answer.{Answer}
use Rattle.job_meaning.specs.declared.answer.Answer.TheVariants as answer
use Rattle.lambda_values.specs.FaultTexts.{kind_text}
use Rattle.merge_run.specs.declared.objects.JobObject.{JobObject}
use Rattle.merge_run.specs.Taken.{parted, place_then}
use Rattle.serde_json.specs.Written.{comma_if}
use Rattle.trace.specs.declared.item.Fault.{Fault}

-- helper: a number, or that there is none, the end of its object, and what follows that
abbrev pub optional_then : Option ℤ → List ℕ → List ℕ
optional_then None rest = codes "null}" ++ rest
optional_then (Some v) rest = signed_decimal v ++ 125 ∷ rest

-- helper: a boolean, the end of its object, and what follows that
abbrev pub truth_then : Bool → List ℕ → List ℕ
truth_then true rest = codes "true}" ++ rest
truth_then false rest = codes "false}" ++ rest

-- what stands after the name of a job and its quote, and what follows its object, if its answer is no array and no
-- fault
abbrev pub said_then : List (List ℕ) → Answer → List ℕ → List ℕ
said_then names (answer.Number v) rest = codes ",\"number\":" ++ (signed_decimal v ++ 125 ∷ rest)
said_then names (answer.Truth b) rest = codes ",\"truth\":" ++ truth_then b rest
said_then names (answer.Optional o) rest = codes ",\"optional\":" ++ optional_then o rest
said_then names (answer.Array vs) rest = []
said_then names (answer.Fault f) rest = []
said_then names (answer.Unusable i) rest = codes ",\"unusable\":\"" ++ (slice_index_or names i [] ++ 34 ∷ 125 ∷ rest)

-- the answer is no array and no fault, so it stands after the name of its job
abbrev pub IsSaid : Answer → Type 0
IsSaid (answer.Number v) = Unit {0}
IsSaid (answer.Truth b) = Unit {0}
IsSaid (answer.Optional o) = Unit {0}
IsSaid (answer.Array vs) = ⊥
IsSaid (answer.Fault f) = ⊥
IsSaid (answer.Unusable i) = Unit {0}

-- helper: the numbers of an array, the name of its job, and what follows its object
abbrev pub array_then : List ℕ → List ℤ → List ℕ → List ℕ
array_then name vs rest = parted vs ++ 93 ∷ (codes ",\"name\":\"" ++ (name ++ 34 ∷ 125 ∷ rest))

-- helper: a fault, the name of its job, and what follows its object
abbrev pub fault_then : List ℕ → Fault → List ℕ → List ℕ
fault_then name f rest =
    codes "\"" ++ (kind_text f.kind ++ 34
    ∷ (codes ",\"item\":" ++ place_then f.origin
    (codes ",\"name\":\"" ++ (name ++ 34 ∷ (codes ",\"stage\":" ++ (decimal f.stage ++ 125 ∷ rest))))))

-- helper: the name of a job, its answer, and what follows its object, given the names of all jobs
abbrev pub named_then : List (List ℕ) → List ℕ → Answer → List ℕ → List ℕ
named_then names name a rest = codes "\"name\":\"" ++ (name ++ 34 ∷ said_then names a rest)

-- the object of a job without its first bracket, and what follows it, given the names of all jobs
abbrev pub object_then : List (List ℕ) → List ℕ → Answer → List ℕ → List ℕ
object_then names name (answer.Number v) rest = named_then names name (answer.Number v) rest
object_then names name (answer.Truth b) rest = named_then names name (answer.Truth b) rest
object_then names name (answer.Optional o) rest = named_then names name (answer.Optional o) rest
object_then names name (answer.Array vs) rest = codes "\"array\":[" ++ array_then name vs rest
object_then names name (answer.Fault f) rest = codes "\"fault\":" ++ fault_then name f rest
object_then names name (answer.Unusable i) rest = named_then names name (answer.Unusable i) rest

-- the objects of jobs and the end of a report, after some objects or none, given the names of all jobs
abbrev pub objects_then : List (List ℕ) → Bool → List (List ℕ) → List Answer → List ℕ
objects_then names later (n ∷ ns) (a ∷ more) =
    comma_if later ++ 123 ∷ object_then names n a (objects_then names true ns more)
objects_then names later ns more = codes "]\n"

-- this object was read, and this is left
abbrev pub IsObject : List ℕ → Answer → List ℕ → Option JobObject → Type 0
IsObject name a rest None = ⊥
IsObject name a rest (Some object) = (object.name.now ≡ name) × (object.answer ≡ a) × (object.rest.now ≡ rest)
