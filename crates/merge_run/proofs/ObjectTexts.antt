-- A report as JSON, as a reader comes upon it.
use Rattle.std.proofs.Common.{◌≡◌, ℕ, zero, suc, ℤ, pos, negsuc, ◌<◌, Bool, true, false, List, [], ◌∷◌, ◌++◌, length}
use Rattle.std.proofs.Common.{Option, Some, None, refl, sym, ap, ◌∙◌, append_assoc, arith, rules}
use Rattle.std.specs.Prelude.{codes, slice_index_or, map}
use Rattle.std.specs.List.{list_all}
use Rattle.std.specs.Fmt.{decimal, signed_decimal}
use Rattle.std.proofs.lemmas.Grind.{common_steps}
use Rattle.json.specs.Print.{escape, escape_byte}
use Rattle.job_meaning.specs.declared.answer.Answer.{Answer}
use Rattle.job_meaning.specs.declared.answer.Answer.TheVariants as answer
use Rattle.lambda_values.specs.FaultTexts.{kind_text}
use Rattle.lambda_values.specs.declared.fault.FaultKind.{FaultKind}
use Rattle.lambda_values.specs.declared.fault.FaultKind.TheVariants.{DivideByZero, Overflow, OutOfArray, SourceTooLong}
use Rattle.merge_run.specs.Objects.{object_then, objects_then}
use Rattle.merge_run.specs.Small.{AreHeld}
use Rattle.merge_run.specs.Taken.{parted, place_then}
use Rattle.report.specs.AnswerForms.{further, integer_json, job_json, place_json}
use Rattle.report.specs.Json.{jobs_json, report_json}
use Rattle.serde_json.proofs.OnLiterals.{serde_json_on_literals}
use Rattle.serde_json.specs.Find.{of_integer}
use Rattle.serde_json.specs.View.{items_of}
use Rattle.serde_json.specs.Written.{compact_text, items_text, number_text}
use Rattle.stream_tokens.specs.Bytes.{is_name_byte, is_name_start}
use Rattle.stream_tokens.specs.Forms.{IsName}

-- each of these is a name
abbrev pub AreNames : List (List ℕ) → Type 0
AreNames [] = Unit {0}
AreNames (n ∷ ns) = IsName n × AreNames ns

plain_byte : (b : ℕ) → is_name_byte b ≡ true → escape_byte b ≡ b ∷ []
unfolding escape_byte
plain_byte b is = grind (arith, common_steps, is)

start_byte : (b : ℕ) → is_name_start b ≡ true → is_name_byte b ≡ true
start_byte b is = grind (arith, common_steps, is)

first_of_all : (b : ℕ) (bs : List ℕ) → list_all is_name_byte (b ∷ bs) ≡ true
    → (is_name_byte b ≡ true) × (list_all is_name_byte bs ≡ true)
first_of_all b bs all = search rules

plain_bytes : (bs : List ℕ) → list_all is_name_byte bs ≡ true → escape bs ≡ bs
plain_bytes [] all = refl
plain_bytes (b ∷ bs) all =
    let parts = first_of_all b bs all in
    ap (λ t. t ++ escape bs) (plain_byte b parts.0) ∙ ap (λ t. b ∷ t) (plain_bytes bs parts.1)

plain_name : (n : List ℕ) → IsName n → escape n ≡ n
plain_name [] is = absurd is
plain_name (b ∷ bs) is = ap (λ t. t ++ escape bs) (plain_byte b (start_byte b is.0))
    ∙ ap (λ t. b ∷ t) (plain_bytes bs is.1)

plain_kind : (k : FaultKind) → escape (kind_text k) ≡ kind_text k
unfolding serde_json_on_literals
plain_kind DivideByZero = refl
plain_kind Overflow = refl
plain_kind OutOfArray = refl
plain_kind SourceTooLong = refl

-- a text in quotes, and what follows it
quoted_then : (n more rest : List ℕ) → escape n ≡ n → ((escape n ++ 34 ∷ []) ++ more) ++ rest ≡ n ++ 34 ∷ (more ++ rest)
quoted_then n more rest plain =
    ap (λ t. ((t ++ 34 ∷ []) ++ more) ++ rest) plain ∙ append_assoc (n ++ 34 ∷ []) more rest
    ∙ append_assoc n (34 ∷ []) (more ++ rest)

last_then : (v : ℤ) (rest : List ℕ) → (number_text (of_integer v) ++ 125 ∷ []) ++ rest ≡ signed_decimal v ++ 125 ∷ rest
last_then (pos n) rest = append_assoc (decimal n) (125 ∷ []) rest
last_then (negsuc n) rest = append_assoc (signed_decimal (negsuc n)) (125 ∷ []) rest

place_and : (o : Option ℕ) (more rest : List ℕ)
    → (compact_text (place_json o) ++ more) ++ rest ≡ place_then o (more ++ rest)
place_and None more rest = refl
place_and (Some n) more rest = append_assoc (decimal n) more rest

digits_are : (v : ℤ) → number_text (of_integer v) ≡ signed_decimal v
digits_are (pos n) = refl
digits_are (negsuc n) = refl

further_then : (vs : List ℤ) (more rest : List ℕ)
    → (items_text true (items_of (map integer_json vs)) ++ more) ++ rest ≡ further (codes ",") vs ++ 93 ∷ (more ++ rest)
further_then [] more rest = refl
further_then (v ∷ vs) more rest =
    let others = items_text true (items_of (map integer_json vs)) in
    ap (λ t. 44 ∷ (t ++ rest)) (append_assoc (number_text (of_integer v)) others more)
    ∙ ap (λ t. 44 ∷ t) (append_assoc (number_text (of_integer v)) (others ++ more) rest)
    ∙ ap (λ t. 44 ∷ (number_text (of_integer v) ++ t)) (further_then vs more rest)
    ∙ ap (λ t. 44 ∷ (t ++ (further (codes ",") vs ++ 93 ∷ (more ++ rest)))) (digits_are v)
    ∙ ap (λ t. 44 ∷ t) (sym (append_assoc (signed_decimal v) (further (codes ",") vs) (93 ∷ (more ++ rest))))

-- the numbers of an array, the bracket that ends it, and what follows
items_then : (vs : List ℤ) (more rest : List ℕ)
    → (items_text false (items_of (map integer_json vs)) ++ more) ++ rest ≡ parted vs ++ 93 ∷ (more ++ rest)
items_then [] more rest = refl
items_then (v ∷ vs) more rest =
    let others = items_text true (items_of (map integer_json vs)) in
    ap (λ t. t ++ rest) (append_assoc (number_text (of_integer v)) others more)
    ∙ append_assoc (number_text (of_integer v)) (others ++ more) rest
    ∙ ap (λ t. number_text (of_integer v) ++ t) (further_then vs more rest)
    ∙ ap (λ t. t ++ (further (codes ",") vs ++ 93 ∷ (more ++ rest))) (digits_are v)
    ∙ sym (append_assoc (signed_decimal v) (further (codes ",") vs) (93 ∷ (more ++ rest)))

-- the object of a job
object_is : (names : List (List ℕ)) (n : List ℕ) (a : Answer) (rest : List ℕ) → escape n ≡ n
    → ((i : ℕ) → a ≡ answer.Unusable i → IsName (slice_index_or names i []))
    → compact_text (job_json names n a) ++ rest ≡ 123 ∷ object_then names n a rest
unfolding serde_json_on_literals
object_is names n (answer.Number v) rest plain named =
    ap (λ t. codes "{\"name\":\"" ++ t) (quoted_then n
    (codes ",\"number\":" ++ (number_text (of_integer v) ++ 125 ∷ [])) rest plain
    ∙ ap (λ t. n ++ 34 ∷ (codes ",\"number\":" ++ t)) (last_then v rest))
object_is names n (answer.Truth true) rest plain named =
    ap (λ t. codes "{\"name\":\"" ++ t) (quoted_then n (codes ",\"truth\":true}") rest plain)
object_is names n (answer.Truth false) rest plain named =
    ap (λ t. codes "{\"name\":\"" ++ t) (quoted_then n (codes ",\"truth\":false}") rest plain)
object_is names n (answer.Optional None) rest plain named =
    ap (λ t. codes "{\"name\":\"" ++ t) (quoted_then n (codes ",\"optional\":null}") rest plain)
object_is names n (answer.Optional (Some v)) rest plain named =
    ap (λ t. codes "{\"name\":\"" ++ t)
    (quoted_then n (codes ",\"optional\":" ++ (number_text (of_integer v) ++ 125 ∷ [])) rest plain
    ∙ ap (λ t. n ++ 34 ∷ (codes ",\"optional\":" ++ t)) (last_then v rest))
object_is names n (answer.Array vs) rest plain named =
    let end : List ℕ = codes ",\"name\":\"" ++ ((escape n ++ 34 ∷ []) ++ codes "}") in
    ap (λ t. codes "{\"array\":[" ++ t) (items_then vs end rest)
    ∙ ap (λ t. codes "{\"array\":[" ++ (parted vs ++ (codes "],\"name\":\"" ++ t)))
    (quoted_then n (codes "}") rest plain)
object_is names n (answer.Fault f) rest plain named =
    let last = codes ",\"stage\":" ++ (decimal f.stage ++ 125 ∷ []) in
    let name = codes ",\"name\":\"" ++ ((escape n ++ 34 ∷ []) ++ last) in
    let item = codes ",\"item\":" ++ (compact_text (place_json f.origin) ++ name) in
    let named_end = quoted_then n last rest plain
    ∙ ap (λ t. n ++ 34 ∷ (codes ",\"stage\":" ++ t)) (append_assoc (decimal f.stage) (125 ∷ []) rest) in
    ap (λ t. codes "{\"fault\":\"" ++ t)
    (quoted_then (kind_text f.kind) item rest (plain_kind f.kind)
    ∙ ap (λ t. kind_text f.kind ++ 34 ∷ (codes ",\"item\":" ++ t))
    (place_and f.origin name rest ∙ ap (λ t. place_then f.origin (codes ",\"name\":\"" ++ t)) named_end))
object_is names n (answer.Unusable i) rest plain named =
    let m = slice_index_or names i [] in
    ap (λ t. codes "{\"name\":\"" ++ t)
    (quoted_then n (codes ",\"unusable\":\"" ++ ((escape m ++ 34 ∷ []) ++ codes "}")) rest plain
    ∙ ap (λ t. n ++ 34 ∷ (codes ",\"unusable\":\"" ++ t))
    (quoted_then m (codes "}") rest (plain_name m (named i refl))))

name_at : (ns : List (List ℕ)) (i : ℕ) → AreNames ns → i < length ns → IsName (slice_index_or ns i [])
name_at [] i are within = absurd (omega (arith, within))
name_at (n ∷ ns) zero are within = are.0
name_at (n ∷ ns) (suc i) are within = name_at ns i are.1 (omega (arith, within))

objects_are : (names ns : List (List ℕ)) (later : Bool) (xs : List Answer) → AreNames names → AreNames ns
    → AreHeld names xs
    → items_text later (items_of (jobs_json names ns xs)) ++ codes "\n" ≡ objects_then names later ns xs
objects_are names [] later xs all are held = refl
objects_are names (n ∷ ns) later [] all are held = refl
objects_are names (n ∷ ns) later (a ∷ xs) all are held = begun later (objects_are names ns true xs all are.1 held.1)
  where
    text : items_text true (items_of (jobs_json names ns xs)) ++ codes "\n" ≡ objects_then names true ns xs
        → (compact_text (job_json names n a) ++ items_text true (items_of (jobs_json names ns xs))) ++ codes "\n"
        ≡ 123 ∷ object_then names n a (objects_then names true ns xs)
    text more =
        append_assoc (compact_text (job_json names n a)) (items_text true (items_of (jobs_json names ns xs)))
        (codes "\n")
        ∙ ap (λ t. compact_text (job_json names n a) ++ t) more
        ∙ object_is names n a (objects_then names true ns xs) (plain_name n are.0)
        (λ i is. name_at names i all (held.0.named i is))

    begun : (b : Bool) → items_text true (items_of (jobs_json names ns xs)) ++ codes "\n"
        ≡ objects_then names true ns xs
        → items_text b (items_of (jobs_json names (n ∷ ns) (a ∷ xs))) ++ codes "\n"
        ≡ objects_then names b (n ∷ ns) (a ∷ xs)
    begun false more = text more
    begun true more = ap (λ t. 44 ∷ t) (text more)

-- a report begins with a bracket, and then the objects come
pub report_is : (names : List (List ℕ)) (xs : List Answer) → AreNames names → AreHeld names xs
    → report_json names xs ≡ 91 ∷ objects_then names false names xs
report_is names xs are held = ap (λ t. 91 ∷ t) (objects_are names names false xs are are held)
