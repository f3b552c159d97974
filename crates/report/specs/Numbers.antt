-- Condition: the numbers of an array, as both forms of the report have them, and the object of an array.
use Rattle.std.specs.Prelude.{ℕ, ℤ, List, [], ◌∷◌, ◌++◌, codes}
use Rattle.std.specs.Fmt.{signed_decimal}
use Rattle.serde_json.specs.Data.{string}
use Rattle.serde_json.specs.Written.{compact_text}
use Rattle.report.specs.AnswerForms.{further}
use Rattle.report.specs.declared.separator.Separator.{Separator}
use Rattle.report.specs.declared.separator.Separator.TheVariants.{Comma, CommaAndBlank}

-- helper: what stands between two numbers
abbrev pub separator_bytes : Separator → List ℕ
separator_bytes Comma = codes ","
separator_bytes CommaAndBlank = codes ", "

-- helper: numbers, with this between two of them
abbrev pub parted : Separator → List ℤ → List ℕ
parted separator [] = []
parted separator (v ∷ vs) = signed_decimal v ++ further (separator_bytes separator) vs

-- helper: what stands after the numbers of the object of an array, given the name of its job
abbrev pub array_end : List ℕ → List ℕ
array_end name = codes "],\"name\":" ++ compact_text (string name) ++ codes "}"

-- helper: the object of an array, given the name of its job
abbrev pub array_object : List ℕ → List ℤ → List ℕ
array_object name values = codes "{\"array\":[" ++ parted Comma values ++ array_end name
