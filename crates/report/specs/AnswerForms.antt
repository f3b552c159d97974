-- Meaning: what an answer looks like in a report: its text, and, as JSON (RFC 8259), the object of its job.
use Rattle.std.specs.Prelude.{ℕ, ℤ, Bool, true, false, List, [], ◌∷◌, ◌++◌, Option, Some, None, map, codes}
use Rattle.std.specs.Prelude.{slice_index_or}
use Rattle.std.specs.Fmt.{decimal, signed_decimal}
use Rattle.serde_json.specs.Data.{Data, null, boolean, number, string, array, object, unsigned, member, no_members}
use Rattle.serde_json.specs.Find.{of_integer}
use Rattle.serde_json.specs.View.{items_of}
use Rattle.lambda_values.specs.FaultTexts.{kind_text}
use Rattle.trace.specs.declared.item.Fault.{Fault}
use Rattle.job_meaning.specs.declared.answer.Answer.{Answer}
use Rattle.job_meaning.specs.declared.answer.Answer.TheVariants as answer

-- ---- as text

-- a boolean (`Boolean.toString`)
abbrev pub truth_text : Bool → List ℕ
truth_text true = codes "true"
truth_text false = codes "false"

-- a number, or none (`OptionalLong.toString`)
abbrev pub optional_text : Option ℤ → List ℕ
optional_text None = codes "OptionalLong.empty"
optional_text (Some v) = codes "OptionalLong[" ++ signed_decimal v ++ codes "]"

-- helper: numbers after another one, each after these bytes
abbrev pub further : List ℕ → List ℤ → List ℕ
further separator [] = []
further separator (v ∷ vs) = separator ++ signed_decimal v ++ further separator vs

-- numbers in brackets (`Arrays.toString`)
abbrev pub array_text : List ℤ → List ℕ
array_text [] = codes "[]"
array_text (v ∷ vs) = codes "[" ++ signed_decimal v ++ further (codes ", ") vs ++ codes "]"

-- the place of the item at which a fault was met, or a dash if it belongs to no item
abbrev pub place_text : Option ℕ → List ℕ
place_text None = codes "-"
place_text (Some place) = decimal place

abbrev pub fault_text : Fault → List ℕ
fault_text f = codes "fault " ++ kind_text f.kind ++ codes " stage " ++ decimal f.stage
    ++ codes " item " ++ place_text f.origin

-- an answer, given the names of all jobs
abbrev pub answer_text : List (List ℕ) → Answer → List ℕ
answer_text names (answer.Number v) = signed_decimal v
answer_text names (answer.Truth b) = truth_text b
answer_text names (answer.Optional o) = optional_text o
answer_text names (answer.Array vs) = array_text vs
answer_text names (answer.Fault f) = fault_text f
answer_text names (answer.Unusable i) = codes "unusable " ++ slice_index_or names i []

-- ---- as JSON

-- helper: an integer
abbrev pub integer_json : ℤ → Data
integer_json z = number (of_integer z)

-- an optional number, or null
abbrev pub optional_json : Option ℤ → Data
optional_json None = null
optional_json (Some v) = integer_json v

-- the place of the item at which a fault was met, or null if it belongs to no item
abbrev pub place_json : Option ℕ → Data
place_json None = null
place_json (Some place) = number (unsigned place)

-- the object of a job whose answer is a fault
abbrev pub fault_json : List ℕ → Fault → Data
fault_json name f =
    object (member (codes "fault") (string (kind_text f.kind)) (member (codes "item") (place_json f.origin)
    (member (codes "name") (string name) (member (codes "stage") (number (unsigned f.stage)) no_members))))

-- the object of a job: its name and its answer, given the names of all jobs; keys stand in the order of their bytes
abbrev pub job_json : List (List ℕ) → List ℕ → Answer → Data
job_json names name (answer.Number v) = object
    (member (codes "name") (string name) (member (codes "number") (integer_json v) no_members))
job_json names name (answer.Truth b) = object
    (member (codes "name") (string name) (member (codes "truth") (boolean b) no_members))
job_json names name (answer.Optional o) =
    object (member (codes "name") (string name) (member (codes "optional") (optional_json o) no_members))
job_json names name (answer.Array vs) = object
    (member (codes "array") (array (items_of (map integer_json vs))) (member (codes "name") (string name) no_members))
job_json names name (answer.Fault f) = fault_json name f
job_json names name (answer.Unusable i) =
    object (member (codes "name") (string name)
    (member (codes "unusable") (string (slice_index_or names i [])) no_members))
