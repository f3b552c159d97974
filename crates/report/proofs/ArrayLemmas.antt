-- The texts of an array, in both forms of the report.
use Rattle.std.proofs.Common.{◌≡◌, ℕ, ℤ, pos, negsuc, Bool, true, false, List, [], ◌∷◌, ◌++◌, Option, Some, None, refl}
use Rattle.std.proofs.Common.{sym, ap, ◌∙◌, append_assoc}
use Rattle.std.specs.Fmt.{signed_decimal}
use Rattle.std.specs.Prelude.{MatchOption, codes, map}
use Rattle.serde_json.proofs.OnLiterals.{serde_json_on_literals}
use Rattle.serde_json.specs.Data.{Data, null, string}
use Rattle.serde_json.specs.Find.{of_integer}
use Rattle.serde_json.specs.View.{items_of}
use Rattle.serde_json.specs.Written.{compact_text, items_text, number_text}
use Rattle.job_meaning.specs.declared.answer.Answer.{Answer}
use Rattle.job_meaning.specs.declared.answer.Answer.TheVariants as answer
use Rattle.report.specs.declared.separator.Separator.TheVariants.{Comma, CommaAndBlank}
use Rattle.report.specs.AnswerForms.{array_text, further, integer_json, job_json, optional_json}
use Rattle.report.specs.Numbers.{array_object, parted}

-- as text, the numbers stand between brackets
pub array_parted : (vs : List ℤ) → array_text vs ≡ codes "[" ++ parted CommaAndBlank vs ++ codes "]"
array_parted [] = refl
array_parted (v ∷ vs) = refl

integer_digits : (z : ℤ) → number_text (of_integer z) ≡ signed_decimal z
integer_digits (pos n) = refl
integer_digits (negsuc n) = refl

further_items : (vs : List ℤ) → items_text true (items_of (map integer_json vs)) ≡ further (codes ",") vs ++ codes "]"
further_items [] = refl
further_items (v ∷ vs) =
    ap (λ t. codes "," ++ (number_text (of_integer v) ++ t)) (further_items vs)
    ∙ ap (λ d. codes "," ++ (d ++ (further (codes ",") vs ++ codes "]"))) (integer_digits v)
    ∙ ap (λ t. codes "," ++ t) (sym (append_assoc (signed_decimal v) (further (codes ",") vs) (codes "]")))

array_items : (vs : List ℤ) → items_text false (items_of (map integer_json vs)) ≡ parted Comma vs ++ codes "]"
array_items [] = refl
array_items (v ∷ vs) =
    ap (λ t. number_text (of_integer v) ++ t) (further_items vs)
    ∙ ap (λ d. d ++ (further (codes ",") vs ++ codes "]")) (integer_digits v)
    ∙ sym (append_assoc (signed_decimal v) (further (codes ",") vs) (codes "]"))

-- as JSON, they stand in the object of their job
array_object_is : (names : List (List ℕ)) (name : List ℕ) (vs : List ℤ)
    → compact_text (job_json names name (answer.Array vs)) ≡ array_object name vs
unfolding serde_json_on_literals
array_object_is names name vs =
    let rest = codes ",\"name\":" ++ (compact_text (string name) ++ codes "}") in
    ap (λ t. codes "{\"array\":[" ++ (t ++ rest)) (array_items vs)
    ∙ ap (λ t. codes "{\"array\":[" ++ t) (append_assoc (parted Comma vs) (codes "]") rest)

-- an answer that is an array, in the object of its job
pub array_answer : (names : List (List ℕ)) (name : List ℕ) (a : Answer) (vs values : List ℤ) → a ≡ answer.Array vs
    → values ≡ vs → compact_text (job_json names name a) ≡ array_object name values
array_answer names name a vs values is same = rw (is, same) (array_object_is names name vs)

-- an optional number was converted
pub optional_is : (o : Option ℤ) (d : Data) → MatchOption o (d ≡ null) (λ v. d ≡ integer_json v) → d ≡ optional_json o
optional_is None d is = is
optional_is (Some v) d is = is

-- no object is left to be written, so the end of the array is
pub all_written : (start whole : List ℕ) (later : Bool) (left : List Data) → left ≡ []
    → start ++ items_text later (items_of left) ≡ whole → start ++ codes "]\n" ≡ whole ++ codes "\n"
all_written start whole later left none so_far =
    sym (append_assoc start (codes "]") (codes "\n"))
    ∙ ap (λ t. t ++ codes "\n") (ap (λ ds. start ++ items_text later (items_of ds)) (sym none) ∙ so_far)
