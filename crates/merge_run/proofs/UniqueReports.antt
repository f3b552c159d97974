-- A report as JSON holds one list of answers.
use Rattle.std.proofs.Common.{◌≡◌, ℕ, suc, ℤ, pos, negsuc, ◌+◌, ◌*◌, ◌<◌, ◌≤◌, max, Bool, false, List, [], ◌∷◌, ◌++◌}
use Rattle.std.proofs.Common.{length, Option, Some, None, refl, sym, ap, ◌∙◌, arith}
use Rattle.std.specs.Prelude.{map, slice_index_or}
use Rattle.std.proofs.lemmas.Fmt.{decimal_injective, signed_decimal_injective}
use Rattle.json.specs.Json as json
use Rattle.json.specs.Tree.{HasNumbers, ItemsHaveNumbers, depth, items_depth}
use Rattle.json.proofs.Printed.Decimals.{IsNumber-decimal, IsNumber-signed_decimal}
use Rattle.json.proofs.Printed.Trees.{document-print}
use Rattle.lambda_values.specs.declared.fault.FaultKind.{FaultKind}
use Rattle.lambda_values.specs.declared.fault.FaultKind.TheVariants.{DivideByZero, Overflow, OutOfArray, SourceTooLong}
use Rattle.serde_json.specs.Data.{Data, array}
use Rattle.serde_json.specs.View.{items_of}
use Rattle.serde_json.specs.Written.{compact_text, items_outline, outline}
use Rattle.serde_json.proofs.Texts.{print-outline}
use Rattle.trace.specs.declared.item.Fault.{Fault}
use Rattle.job_meaning.specs.declared.answer.Answer.{Answer}
use Rattle.job_meaning.specs.declared.answer.Answer.TheVariants as answer
use Rattle.lambda_values.specs.FaultTexts.{kind_text}
use Rattle.report.specs.AnswerForms.{integer_json, job_json, optional_json, place_json}
use Rattle.report.specs.Json.{jobs_json, report_json}
use Rattle.merge_run.specs.Merged.{AreReportsOf}
use Rattle.job_meaning.specs.Longs.{AllFit, AnswerFits, AnswersFit, Fits, IsFirst, OptionFits, PlaceFits}
use Rattle.merge_run.specs.Small.{ArePartsSmall}
use Rattle.merge_run.specs.declared.part_report.PartReport.{PartReport}
use Rattle.report_merge.specs.Merging.{Part}

the_same : {A : Type 0} {x y : A} → Some x ≡ Some y → x ≡ y
the_same e = cc

-- ---- texts

same_outline : (d e : Data) → HasNumbers (outline d) → HasNumbers (outline e) → depth (outline d) ≤ json.max_depth
    → depth (outline e) ≤ json.max_depth
    → compact_text d ≡ compact_text e → outline d ≡ outline e
same_outline d e hd he sd se same =
    the_same (sym (document-print (outline d) hd sd) ∙ ap json.document (print-outline d ∙ same ∙ sym (print-outline e))
    ∙ document-print (outline e) he se)

-- ---- numbers

integer_fits : (z : ℤ) → Fits z → HasNumbers (outline (integer_json z))
integer_fits (pos n) h = IsNumber-signed_decimal (pos n) h
integer_fits (negsuc n) h = IsNumber-signed_decimal (negsuc n) h

abbrev integer_of : json.Json → List ℕ
integer_of (json.number s) = s
integer_of j = []

same_integer : (y z : ℤ) → Fits y → Fits z → outline (integer_json y) ≡ outline (integer_json z) → y ≡ z
same_integer (pos m) (pos n) hy hz e = signed_decimal_injective (pos m) (pos n) hy hz (ap integer_of e)
same_integer (pos m) (negsuc n) hy hz e = signed_decimal_injective (pos m) (negsuc n) hy hz (ap integer_of e)
same_integer (negsuc m) (pos n) hy hz e = signed_decimal_injective (negsuc m) (pos n) hy hz (ap integer_of e)
same_integer (negsuc m) (negsuc n) hy hz e = signed_decimal_injective (negsuc m) (negsuc n) hy hz (ap integer_of e)

abbrev first_item : json.Json → json.Items → json.Json
first_item d json.no_items = d
first_item d (json.item j js) = j

abbrev other_items : json.Items → json.Items
other_items json.no_items = json.no_items
other_items (json.item j js) = js

abbrev is_item : json.Items → ℕ
is_item json.no_items = 0
is_item (json.item j js) = 1

same_integers : (ys zs : List ℤ) → AllFit ys → AllFit zs
    → items_outline (items_of (map integer_json ys)) ≡ items_outline (items_of (map integer_json zs)) → ys ≡ zs
same_integers [] [] hy hz e = refl
same_integers [] (z ∷ zs) hy hz e = absurd (let n : 0 ≡ 1 = ap is_item e in omega arith)
same_integers (y ∷ ys) [] hy hz e = absurd (let n : 1 ≡ 0 = ap is_item e in omega arith)
same_integers (y ∷ ys) (z ∷ zs) hy hz e =
    let head = same_integer y z hy.0 hz.0 (ap (first_item json.null) e) in
    let tail = same_integers ys zs hy.1 hz.1 (ap other_items e) in
    ap (λ (x : ℤ). x ∷ ys) head ∙ ap (λ (xs : List ℤ). z ∷ xs) tail

integers_fit : (zs : List ℤ) → AllFit zs → ItemsHaveNumbers (items_outline (items_of (map integer_json zs)))
integers_fit [] h = tt
integers_fit (z ∷ zs) h = (integer_fits z h.0, integers_fit zs h.1)

integers_flat : (zs : List ℤ) → items_depth (items_outline (items_of (map integer_json zs))) ≤ 0
integers_flat [] = omega arith
integers_flat (z ∷ zs) = omega (arith, integers_flat zs)

-- ---- parts of the object of a job

abbrev first_value : json.Json → json.Json
first_value (json.object (json.member k j ms)) = j
first_value j = json.null

abbrev second_value : json.Json → json.Json
second_value (json.object (json.member k j (json.member l i ms))) = i
second_value j = json.null

abbrev fourth_value : json.Json → json.Json
fourth_value (json.object (json.member k j (json.member l i (json.member m h (json.member n g ms))))) = g
fourth_value j = json.null

abbrev first_byte : List ℕ → ℕ
first_byte [] = 0
first_byte (b ∷ bs) = b

abbrev tag : json.Json → ℕ
tag (json.object (json.member k j (json.member l i ms))) = first_byte k * 1000 + first_byte l
tag j = 0

abbrev string_of : json.Json → List ℕ
string_of (json.string s) = s
string_of j = []

abbrev items_in : json.Json → json.Items
items_in (json.array js) = js
items_in j = json.no_items

abbrev truth_of : json.Json → Bool
truth_of (json.boolean b) = b
truth_of j = false

abbrev two_bytes : List ℕ → ℕ
two_bytes [] = 0
two_bytes (a ∷ []) = a
two_bytes (a ∷ b ∷ bs) = a * 1000 + b

same_kind : (k l : FaultKind) → kind_text k ≡ kind_text l → k ≡ l
same_kind DivideByZero DivideByZero e = refl
same_kind DivideByZero Overflow e = absurd (let n : 100105 ≡ 111118 = ap two_bytes e in omega arith)
same_kind DivideByZero OutOfArray e = absurd (let n : 100105 ≡ 111117 = ap two_bytes e in omega arith)
same_kind DivideByZero SourceTooLong e = absurd (let n : 100105 ≡ 115111 = ap two_bytes e in omega arith)
same_kind Overflow DivideByZero e = absurd (let n : 111118 ≡ 100105 = ap two_bytes e in omega arith)
same_kind Overflow Overflow e = refl
same_kind Overflow OutOfArray e = absurd (let n : 111118 ≡ 111117 = ap two_bytes e in omega arith)
same_kind Overflow SourceTooLong e = absurd (let n : 111118 ≡ 115111 = ap two_bytes e in omega arith)
same_kind OutOfArray DivideByZero e = absurd (let n : 111117 ≡ 100105 = ap two_bytes e in omega arith)
same_kind OutOfArray Overflow e = absurd (let n : 111117 ≡ 111118 = ap two_bytes e in omega arith)
same_kind OutOfArray OutOfArray e = refl
same_kind OutOfArray SourceTooLong e = absurd (let n : 111117 ≡ 115111 = ap two_bytes e in omega arith)
same_kind SourceTooLong DivideByZero e = absurd (let n : 115111 ≡ 100105 = ap two_bytes e in omega arith)
same_kind SourceTooLong Overflow e = absurd (let n : 115111 ≡ 111118 = ap two_bytes e in omega arith)
same_kind SourceTooLong OutOfArray e = absurd (let n : 115111 ≡ 111117 = ap two_bytes e in omega arith)
same_kind SourceTooLong SourceTooLong e = refl

same_place : (o p : Option ℕ) → PlaceFits o → PlaceFits p → outline (place_json o) ≡ outline (place_json p) → o ≡ p
same_place None None ho hp e = refl
same_place None (Some j) ho hp e = absurd cc
same_place (Some i) None ho hp e = absurd cc
same_place (Some i) (Some j) ho hp e = ap Some (decimal_injective i j ho hp (ap integer_of e))

same_optional : (o p : Option ℤ) → OptionFits o → OptionFits p → outline (optional_json o) ≡ outline (optional_json p)
    → o ≡ p
same_optional None None ho hp e = refl
same_optional None (Some (pos n)) ho hp e = absurd cc
same_optional None (Some (negsuc n)) ho hp e = absurd cc
same_optional (Some (pos n)) None ho hp e = absurd cc
same_optional (Some (negsuc n)) None ho hp e = absurd cc
same_optional (Some y) (Some z) ho hp e = ap Some (same_integer y z ho hp e)

same_fault : (f g : Fault) → f.kind ≡ g.kind → f.stage ≡ g.stage → f.origin ≡ g.origin → f ≡ g
same_fault f g k s o = λ i. record { kind = k i; stage = s i; origin = o i }

pub same_first : (names : List (List ℕ)) (y z : ℕ) → IsFirst names y → IsFirst names z
    → slice_index_or names y [] ≡ slice_index_or names z [] → y ≡ z
same_first names y z ha hb e =
    let left : y < z → ⊥ = λ h. hb y h e in
    let right : z < y → ⊥ = λ h. ha z h (sym e) in
    grind (arith, left, right)

same_answer : (names : List (List ℕ)) (n : List ℕ) (a b : Answer) → AnswerFits names a → AnswerFits names b
    → outline (job_json names n a) ≡ outline (job_json names n b) → a ≡ b
same_answer names n (answer.Number y) (answer.Number z) ha hb e =
    ap answer.Number (same_integer y z ha hb (ap second_value e))
same_answer names n (answer.Number y) (answer.Truth z) ha hb e =
    absurd (let k : 110110 ≡ 110116 = ap tag e in omega arith)
same_answer names n (answer.Number y) (answer.Optional z) ha hb e =
    absurd (let k : 110110 ≡ 110111 = ap tag e in omega arith)
same_answer names n (answer.Number y) (answer.Array z) ha hb e =
    absurd (let k : 110110 ≡ 97110 = ap tag e in omega arith)
same_answer names n (answer.Number y) (answer.Fault z) ha hb e =
    absurd (let k : 110110 ≡ 102105 = ap tag e in omega arith)
same_answer names n (answer.Number y) (answer.Unusable z) ha hb e =
    absurd (let k : 110110 ≡ 110117 = ap tag e in omega arith)
same_answer names n (answer.Truth y) (answer.Number z) ha hb e =
    absurd (let k : 110116 ≡ 110110 = ap tag e in omega arith)
same_answer names n (answer.Truth y) (answer.Truth z) ha hb e = ap answer.Truth (ap (λ j. truth_of (second_value j)) e)
same_answer names n (answer.Truth y) (answer.Optional z) ha hb e =
    absurd (let k : 110116 ≡ 110111 = ap tag e in omega arith)
same_answer names n (answer.Truth y) (answer.Array z) ha hb e =
    absurd (let k : 110116 ≡ 97110 = ap tag e in omega arith)
same_answer names n (answer.Truth y) (answer.Fault z) ha hb e =
    absurd (let k : 110116 ≡ 102105 = ap tag e in omega arith)
same_answer names n (answer.Truth y) (answer.Unusable z) ha hb e =
    absurd (let k : 110116 ≡ 110117 = ap tag e in omega arith)
same_answer names n (answer.Optional y) (answer.Number z) ha hb e =
    absurd (let k : 110111 ≡ 110110 = ap tag e in omega arith)
same_answer names n (answer.Optional y) (answer.Truth z) ha hb e =
    absurd (let k : 110111 ≡ 110116 = ap tag e in omega arith)
same_answer names n (answer.Optional y) (answer.Optional z) ha hb e =
    ap answer.Optional (same_optional y z ha hb (ap second_value e))
same_answer names n (answer.Optional y) (answer.Array z) ha hb e =
    absurd (let k : 110111 ≡ 97110 = ap tag e in omega arith)
same_answer names n (answer.Optional y) (answer.Fault z) ha hb e =
    absurd (let k : 110111 ≡ 102105 = ap tag e in omega arith)
same_answer names n (answer.Optional y) (answer.Unusable z) ha hb e =
    absurd (let k : 110111 ≡ 110117 = ap tag e in omega arith)
same_answer names n (answer.Array y) (answer.Number z) ha hb e =
    absurd (let k : 97110 ≡ 110110 = ap tag e in omega arith)
same_answer names n (answer.Array y) (answer.Truth z) ha hb e =
    absurd (let k : 97110 ≡ 110116 = ap tag e in omega arith)
same_answer names n (answer.Array y) (answer.Optional z) ha hb e =
    absurd (let k : 97110 ≡ 110111 = ap tag e in omega arith)
same_answer names n (answer.Array y) (answer.Array z) ha hb e =
    ap answer.Array (same_integers y z ha hb (ap (λ j. items_in (first_value j)) e))
same_answer names n (answer.Array y) (answer.Fault z) ha hb e =
    absurd (let k : 97110 ≡ 102105 = ap tag e in omega arith)
same_answer names n (answer.Array y) (answer.Unusable z) ha hb e =
    absurd (let k : 97110 ≡ 110117 = ap tag e in omega arith)
same_answer names n (answer.Fault y) (answer.Number z) ha hb e =
    absurd (let k : 102105 ≡ 110110 = ap tag e in omega arith)
same_answer names n (answer.Fault y) (answer.Truth z) ha hb e =
    absurd (let k : 102105 ≡ 110116 = ap tag e in omega arith)
same_answer names n (answer.Fault y) (answer.Optional z) ha hb e =
    absurd (let k : 102105 ≡ 110111 = ap tag e in omega arith)
same_answer names n (answer.Fault y) (answer.Array z) ha hb e =
    absurd (let k : 102105 ≡ 97110 = ap tag e in omega arith)
same_answer names n (answer.Fault y) (answer.Fault z) ha hb e =
    ap answer.Fault (same_fault y z (same_kind y.kind z.kind (ap (λ j. string_of (first_value j)) e))
    (decimal_injective y.stage z.stage ha.0 hb.0 (ap (λ j. integer_of (fourth_value j)) e))
    (same_place y.origin z.origin ha.1 hb.1 (ap second_value e)))
same_answer names n (answer.Fault y) (answer.Unusable z) ha hb e =
    absurd (let k : 102105 ≡ 110117 = ap tag e in omega arith)
same_answer names n (answer.Unusable y) (answer.Number z) ha hb e =
    absurd (let k : 110117 ≡ 110110 = ap tag e in omega arith)
same_answer names n (answer.Unusable y) (answer.Truth z) ha hb e =
    absurd (let k : 110117 ≡ 110116 = ap tag e in omega arith)
same_answer names n (answer.Unusable y) (answer.Optional z) ha hb e =
    absurd (let k : 110117 ≡ 110111 = ap tag e in omega arith)
same_answer names n (answer.Unusable y) (answer.Array z) ha hb e =
    absurd (let k : 110117 ≡ 97110 = ap tag e in omega arith)
same_answer names n (answer.Unusable y) (answer.Fault z) ha hb e =
    absurd (let k : 110117 ≡ 102105 = ap tag e in omega arith)
same_answer names n (answer.Unusable y) (answer.Unusable z) ha hb e =
    ap answer.Unusable (same_first names y z ha hb (ap (λ j. string_of (second_value j)) e))

-- ---- the object of each job, and all of them

place_fits : (o : Option ℕ) → PlaceFits o → HasNumbers (outline (place_json o))
place_fits None h = tt
place_fits (Some i) h = IsNumber-decimal i h

optional_fits : (o : Option ℤ) → OptionFits o → HasNumbers (outline (optional_json o))
optional_fits None h = tt
optional_fits (Some z) h = integer_fits z h

job_fits : (names : List (List ℕ)) (n : List ℕ) (a : Answer) → AnswerFits names a
    → HasNumbers (outline (job_json names n a))
job_fits names n (answer.Number z) h = (tt, (integer_fits z h, tt))
job_fits names n (answer.Truth b) h = (tt, (tt, tt))
job_fits names n (answer.Optional v) h = (tt, (optional_fits v h, tt))
job_fits names n (answer.Array vs) h = (integers_fit vs h, (tt, tt))
job_fits names n (answer.Fault f) h = (tt, (place_fits f.origin h.1, (tt, (IsNumber-decimal f.stage h.0, tt))))
job_fits names n (answer.Unusable i) h = (tt, (tt, tt))

job_flat : (names : List (List ℕ)) (n : List ℕ) (a : Answer) → depth (outline (job_json names n a)) ≤ 2
job_flat names n (answer.Number (pos z)) = omega arith
job_flat names n (answer.Number (negsuc z)) = omega arith
job_flat names n (answer.Truth b) = omega arith
job_flat names n (answer.Optional None) = omega arith
job_flat names n (answer.Optional (Some (pos z))) = omega arith
job_flat names n (answer.Optional (Some (negsuc z))) = omega arith
job_flat names n (answer.Array vs) = omega (arith, integers_flat vs)
job_flat names n (answer.Fault f) = place_flat f.origin
  where
    place_flat : (o : Option ℕ) → suc (max 0 (max (depth (outline (place_json o))) (max 0 (max 0 0)))) ≤ 2
    place_flat None = omega arith
    place_flat (Some i) = omega arith
job_flat names n (answer.Unusable i) = omega arith

jobs_fit : (names ns : List (List ℕ)) (xs : List Answer) → AnswersFit names xs
    → ItemsHaveNumbers (items_outline (items_of (jobs_json names ns xs)))
jobs_fit names [] xs h = tt
jobs_fit names (n ∷ ns) [] h = tt
jobs_fit names (n ∷ ns) (a ∷ xs) h = (job_fits names n a h.0, jobs_fit names ns xs h.1)

jobs_flat : (names ns : List (List ℕ)) (xs : List Answer)
    → items_depth (items_outline (items_of (jobs_json names ns xs))) ≤ 2
jobs_flat names [] xs = omega arith
jobs_flat names (n ∷ ns) [] = omega arith
jobs_flat names (n ∷ ns) (a ∷ xs) = omega (arith, job_flat names n a, jobs_flat names ns xs)

same_answers : (names ns : List (List ℕ)) (xs bs : List Answer) → length ns ≡ length xs → length ns ≡ length bs
    → AnswersFit names xs → AnswersFit names bs
    → items_outline (items_of (jobs_json names ns xs)) ≡ items_outline (items_of (jobs_json names ns bs)) → xs ≡ bs
same_answers names [] [] [] la lb ha hb e = refl
same_answers names [] [] (b ∷ bs) la lb ha hb e = absurd (omega (arith, lb))
same_answers names [] (a ∷ xs) bs la lb ha hb e = absurd (omega (arith, la))
same_answers names (n ∷ ns) [] bs la lb ha hb e = absurd (omega (arith, la))
same_answers names (n ∷ ns) (a ∷ xs) [] la lb ha hb e = absurd (omega (arith, lb))
same_answers names (n ∷ ns) (a ∷ xs) (b ∷ bs) la lb ha hb e =
    let head = same_answer names n a b ha.0 hb.0 (ap (first_item json.null) e) in
    let tail = same_answers names ns xs bs (omega (arith, la)) (omega (arith, lb)) ha.1 hb.1 (ap other_items e) in
    ap (λ (x : Answer). x ∷ xs) head ∙ ap (λ (xs : List Answer). b ∷ xs) tail

abbrev without_last : List ℕ → List ℕ
without_last [] = []
without_last (b ∷ []) = []
without_last (b ∷ c ∷ bs) = b ∷ without_last (c ∷ bs)

last_off : (bs : List ℕ) (c : ℕ) → without_last (bs ++ c ∷ []) ≡ bs
last_off [] c = refl
last_off (b ∷ []) c = refl
last_off (b ∷ d ∷ bs) c = ap (λ (xs : List ℕ). b ∷ xs) (last_off (d ∷ bs) c)

-- a report as JSON holds one list of answers
pub one_report : (names : List (List ℕ)) (xs bs : List Answer) → length names ≡ length xs → length names ≡ length bs
    → AnswersFit names xs → AnswersFit names bs
    → report_json names xs ≡ report_json names bs → xs ≡ bs
one_report names xs bs la lb ha hb e =
    let d = array (items_of (jobs_json names names xs)) in
    let c = array (items_of (jobs_json names names bs)) in
    let text : compact_text d ≡ compact_text c =
    sym (last_off (compact_text d) 10) ∙ ap without_last e ∙ last_off (compact_text c) 10 in
    let flat_d : depth (outline d) ≤ json.max_depth = omega (arith, jobs_flat names names xs) in
    let flat_c : depth (outline c) ≤ json.max_depth = omega (arith, jobs_flat names names bs) in
    same_answers names names xs bs la lb ha hb
    (ap items_in (same_outline d c (jobs_fit names names xs ha) (jobs_fit names names bs hb) flat_d flat_c text))

-- the parts whose reports these are
pub same_parts : (names : List (List ℕ)) (rs : List PartReport) (ps qs : List Part) → AreReportsOf names rs ps
    → AreReportsOf names rs qs
    → ArePartsSmall names ps → ArePartsSmall names qs → ps ≡ qs
same_parts names [] [] [] hp hq sp sq = refl
same_parts names [] [] (q ∷ qs) hp hq sp sq = absurd hq
same_parts names [] (p ∷ ps) qs hp hq sp sq = absurd hp
same_parts names (r ∷ rs) [] qs hp hq sp sq = absurd hp
same_parts names (r ∷ rs) (p ∷ ps) [] hp hq sp sq = absurd hq
same_parts names (r ∷ rs) (p ∷ ps) (q ∷ qs) hp hq sp sq =
    let rows = hp.0.rows ∙ sym hq.0.rows in
    let answers = one_report names p.answers q.answers sp.0 sq.0 sp.1 sq.1 (sym hp.0.bytes ∙ hq.0.bytes) in
    let rest = same_parts names rs ps qs hp.1 hq.1 sp.2 sq.2 in
    λ i. record { rows = rows i; answers = answers i } ∷ rest i
