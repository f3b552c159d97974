use Rattle.std.proofs.Common.{rules, ◌≡◌, ℕ, ◌∷◌, ◌++◌, [], List, refl}
use Rattle.std.specs.Prelude.{codes}
use Rattle.std.specs.Fmt.{decimal}
use Rattle.lambda_values.specs.FaultTexts.{kind_text}
use Rattle.merge_run.proofs.ObjectLemmas.{kind_is_plain}
use Rattle.merge_run.proofs.TakenLemmas.{left_after}
use Rattle.merge_run.specs.Taken.{place_then}
use Rattle.merge_run.proofs.objects.take_fault.Goals as goal

pub returns-in_err-kind-clause-complete : goal.returns-in_err-kind-clause-complete
returns-in_err-kind-clause-complete c = λ name f rest plain fits small same.
    let named : List ℕ = codes "\"name\":\""
    ++ (name ++ 34 ∷ (codes ",\"stage\":" ++ (decimal f.stage ++ 125 ∷ rest))) in
    let kind = c.take_text.ensures (kind_text f.kind) (codes ",\"item\":" ++ place_then f.origin (44 ∷ named))
    (kind_is_plain f.kind) same in
    search rules

pub returns-in_err-after-clause-complete : goal.returns-in_err-after-clause-complete
returns-in_err-after-clause-complete c = λ name f rest plain fits small same.
    let named : List ℕ = codes "\"name\":\""
    ++ (name ++ 34 ∷ (codes ",\"stage\":" ++ (decimal f.stage ++ 125 ∷ rest))) in
    let kind = c.take_text.ensures (kind_text f.kind) (codes ",\"item\":" ++ place_then f.origin (44 ∷ named))
    (kind_is_plain f.kind) same in
    let at_item : c.in_ok-kind.left.now ≡ codes ",\"item\":" ++ place_then f.origin (44 ∷ named) = search rules in
    let item = left_after c.after.result _ (codes ",\"item\":") (place_then f.origin (44 ∷ named)) c.after.ensures
    at_item in
    search rules

pub returns-in_err-origin-clause-complete : goal.returns-in_err-origin-clause-complete
returns-in_err-origin-clause-complete c = λ name f rest plain fits small same.
    let named : List ℕ = codes "\"name\":\""
    ++ (name ++ 34 ∷ (codes ",\"stage\":" ++ (decimal f.stage ++ 125 ∷ rest))) in
    let kind = c.take_text.ensures (kind_text f.kind) (codes ",\"item\":" ++ place_then f.origin (44 ∷ named))
    (kind_is_plain f.kind) same in
    let at_item : c.in_ok-kind.left.now ≡ codes ",\"item\":" ++ place_then f.origin (44 ∷ named) = search rules in
    let item = left_after c.after.result _ (codes ",\"item\":") (place_then f.origin (44 ∷ named)) c.after.ensures
    at_item in
    let at_place : c.in_ok-after.field-0.now ≡ place_then f.origin (44 ∷ named) = search rules in
    let origin = c.take_place.ensures f.origin named 44 fits.1 refl at_place in
    search rules

pub returns-in_err-name-clause-complete : goal.returns-in_err-name-clause-complete
returns-in_err-name-clause-complete c = λ name f rest plain fits small same.
    let named : List ℕ = codes "\"name\":\""
    ++ (name ++ 34 ∷ (codes ",\"stage\":" ++ (decimal f.stage ++ 125 ∷ rest))) in
    let kind = c.take_text.ensures (kind_text f.kind) (codes ",\"item\":" ++ place_then f.origin (44 ∷ named))
    (kind_is_plain f.kind) same in
    let at_item : c.in_ok-kind.left.now ≡ codes ",\"item\":" ++ place_then f.origin (44 ∷ named) = search rules in
    let item = left_after c.after.result _ (codes ",\"item\":") (place_then f.origin (44 ∷ named)) c.after.ensures
    at_item in
    let at_place : c.in_ok-after.field-0.now ≡ place_then f.origin (44 ∷ named) = search rules in
    let origin = c.take_place.ensures f.origin named 44 fits.1 refl at_place in
    let at_name : c.in_ok-origin.left.now ≡ 44 ∷ named = search rules in
    let taken = c.take_text-2.ensures name (codes ",\"stage\":" ++ (decimal f.stage ++ 125 ∷ rest)) plain at_name in
    search rules

pub returns-in_err-after-2-clause-complete : goal.returns-in_err-after-2-clause-complete
returns-in_err-after-2-clause-complete c = λ name f rest plain fits small same.
    let named : List ℕ = codes "\"name\":\""
    ++ (name ++ 34 ∷ (codes ",\"stage\":" ++ (decimal f.stage ++ 125 ∷ rest))) in
    let kind = c.take_text.ensures (kind_text f.kind) (codes ",\"item\":" ++ place_then f.origin (44 ∷ named))
    (kind_is_plain f.kind) same in
    let at_item : c.in_ok-kind.left.now ≡ codes ",\"item\":" ++ place_then f.origin (44 ∷ named) = search rules in
    let item = left_after c.after.result _ (codes ",\"item\":") (place_then f.origin (44 ∷ named)) c.after.ensures
    at_item in
    let at_place : c.in_ok-after.field-0.now ≡ place_then f.origin (44 ∷ named) = search rules in
    let origin = c.take_place.ensures f.origin named 44 fits.1 refl at_place in
    let at_name : c.in_ok-origin.left.now ≡ 44 ∷ named = search rules in
    let taken = c.take_text-2.ensures name (codes ",\"stage\":" ++ (decimal f.stage ++ 125 ∷ rest)) plain at_name in
    let at_stage : c.in_ok-name.left.now ≡ codes ",\"stage\":" ++ (decimal f.stage ++ 125 ∷ rest) = search rules in
    let stage = left_after c.after-2.result _ (codes ",\"stage\":") (decimal f.stage ++ 125 ∷ rest) c.after-2.ensures
    at_stage in
    search rules

pub returns-in_err-stage-clause-complete : goal.returns-in_err-stage-clause-complete
returns-in_err-stage-clause-complete c = λ name f rest plain fits small same.
    let named : List ℕ = codes "\"name\":\""
    ++ (name ++ 34 ∷ (codes ",\"stage\":" ++ (decimal f.stage ++ 125 ∷ rest))) in
    let kind = c.take_text.ensures (kind_text f.kind) (codes ",\"item\":" ++ place_then f.origin (44 ∷ named))
    (kind_is_plain f.kind) same in
    let at_item : c.in_ok-kind.left.now ≡ codes ",\"item\":" ++ place_then f.origin (44 ∷ named) = search rules in
    let item = left_after c.after.result _ (codes ",\"item\":") (place_then f.origin (44 ∷ named)) c.after.ensures
    at_item in
    let at_place : c.in_ok-after.field-0.now ≡ place_then f.origin (44 ∷ named) = search rules in
    let origin = c.take_place.ensures f.origin named 44 fits.1 refl at_place in
    let at_name : c.in_ok-origin.left.now ≡ 44 ∷ named = search rules in
    let taken = c.take_text-2.ensures name (codes ",\"stage\":" ++ (decimal f.stage ++ 125 ∷ rest)) plain at_name in
    let at_stage : c.in_ok-name.left.now ≡ codes ",\"stage\":" ++ (decimal f.stage ++ 125 ∷ rest) = search rules in
    let stage = left_after c.after-2.result _ (codes ",\"stage\":") (decimal f.stage ++ 125 ∷ rest) c.after-2.ensures
    at_stage in
    let at_count : c.in_ok-after-2.field-0.now ≡ decimal f.stage ++ 125 ∷ rest = search rules in
    let count = c.take_count.ensures f.stage rest 125 fits.0 refl at_count in
    search rules

pub returns-in_err-rest-clause-complete : goal.returns-in_err-rest-clause-complete
returns-in_err-rest-clause-complete c = λ name f rest plain fits small same.
    let named : List ℕ = codes "\"name\":\""
    ++ (name ++ 34 ∷ (codes ",\"stage\":" ++ (decimal f.stage ++ 125 ∷ rest))) in
    let kind = c.take_text.ensures (kind_text f.kind) (codes ",\"item\":" ++ place_then f.origin (44 ∷ named))
    (kind_is_plain f.kind) same in
    let at_item : c.in_ok-kind.left.now ≡ codes ",\"item\":" ++ place_then f.origin (44 ∷ named) = search rules in
    let item = left_after c.after.result _ (codes ",\"item\":") (place_then f.origin (44 ∷ named)) c.after.ensures
    at_item in
    let at_place : c.in_ok-after.field-0.now ≡ place_then f.origin (44 ∷ named) = search rules in
    let origin = c.take_place.ensures f.origin named 44 fits.1 refl at_place in
    let at_name : c.in_ok-origin.left.now ≡ 44 ∷ named = search rules in
    let taken = c.take_text-2.ensures name (codes ",\"stage\":" ++ (decimal f.stage ++ 125 ∷ rest)) plain at_name in
    let at_stage : c.in_ok-name.left.now ≡ codes ",\"stage\":" ++ (decimal f.stage ++ 125 ∷ rest) = search rules in
    let stage = left_after c.after-2.result _ (codes ",\"stage\":") (decimal f.stage ++ 125 ∷ rest) c.after-2.ensures
    at_stage in
    let at_count : c.in_ok-after-2.field-0.now ≡ decimal f.stage ++ 125 ∷ rest = search rules in
    let count = c.take_count.ensures f.stage rest 125 fits.0 refl at_count in
    let at_end : c.in_ok-stage.left.now ≡ 125 ∷ rest = search rules in
    let end = left_after c.after-3.result _ (125 ∷ []) rest c.after-3.ensures at_end in
    search rules

pub returns-in_err-kind_of-clause-complete : goal.returns-in_err-kind_of-clause-complete
returns-in_err-kind_of-clause-complete c = λ name f rest plain fits small same.
    let named : List ℕ = codes "\"name\":\""
    ++ (name ++ 34 ∷ (codes ",\"stage\":" ++ (decimal f.stage ++ 125 ∷ rest))) in
    let kind = c.take_text.ensures (kind_text f.kind) (codes ",\"item\":" ++ place_then f.origin (44 ∷ named))
    (kind_is_plain f.kind) same in
    let at_item : c.in_ok-kind.left.now ≡ codes ",\"item\":" ++ place_then f.origin (44 ∷ named) = search rules in
    let item = left_after c.after.result _ (codes ",\"item\":") (place_then f.origin (44 ∷ named)) c.after.ensures
    at_item in
    let at_place : c.in_ok-after.field-0.now ≡ place_then f.origin (44 ∷ named) = search rules in
    let origin = c.take_place.ensures f.origin named 44 fits.1 refl at_place in
    let at_name : c.in_ok-origin.left.now ≡ 44 ∷ named = search rules in
    let taken = c.take_text-2.ensures name (codes ",\"stage\":" ++ (decimal f.stage ++ 125 ∷ rest)) plain at_name in
    let at_stage : c.in_ok-name.left.now ≡ codes ",\"stage\":" ++ (decimal f.stage ++ 125 ∷ rest) = search rules in
    let stage = left_after c.after-2.result _ (codes ",\"stage\":") (decimal f.stage ++ 125 ∷ rest) c.after-2.ensures
    at_stage in
    let at_count : c.in_ok-after-2.field-0.now ≡ decimal f.stage ++ 125 ∷ rest = search rules in
    let count = c.take_count.ensures f.stage rest 125 fits.0 refl at_count in
    let at_end : c.in_ok-stage.left.now ≡ 125 ∷ rest = search rules in
    let end = left_after c.after-3.result _ (125 ∷ []) rest c.after-3.ensures at_end in
    let same_kind = c.kind_of.ensures f.kind (search rules) in
    search rules

pub returns-in_err-ok-clause-complete : goal.returns-in_err-ok-clause-complete
returns-in_err-ok-clause-complete c = λ name f rest plain fits small same.
    let named : List ℕ = codes "\"name\":\""
    ++ (name ++ 34 ∷ (codes ",\"stage\":" ++ (decimal f.stage ++ 125 ∷ rest))) in
    let kind = c.take_text.ensures (kind_text f.kind) (codes ",\"item\":" ++ place_then f.origin (44 ∷ named))
    (kind_is_plain f.kind) same in
    let at_item : c.in_ok-kind.left.now ≡ codes ",\"item\":" ++ place_then f.origin (44 ∷ named) = search rules in
    let item = left_after c.after.result _ (codes ",\"item\":") (place_then f.origin (44 ∷ named)) c.after.ensures
    at_item in
    let at_place : c.in_ok-after.field-0.now ≡ place_then f.origin (44 ∷ named) = search rules in
    let origin = c.take_place.ensures f.origin named 44 fits.1 refl at_place in
    let at_name : c.in_ok-origin.left.now ≡ 44 ∷ named = search rules in
    let taken = c.take_text-2.ensures name (codes ",\"stage\":" ++ (decimal f.stage ++ 125 ∷ rest)) plain at_name in
    let at_stage : c.in_ok-name.left.now ≡ codes ",\"stage\":" ++ (decimal f.stage ++ 125 ∷ rest) = search rules in
    let stage = left_after c.after-2.result _ (codes ",\"stage\":") (decimal f.stage ++ 125 ∷ rest) c.after-2.ensures
    at_stage in
    let at_count : c.in_ok-after-2.field-0.now ≡ decimal f.stage ++ 125 ∷ rest = search rules in
    let count = c.take_count.ensures f.stage rest 125 fits.0 refl at_count in
    let at_end : c.in_ok-stage.left.now ≡ 125 ∷ rest = search rules in
    let end = left_after c.after-3.result _ (125 ∷ []) rest c.after-3.ensures at_end in
    let same_kind = c.kind_of.ensures f.kind (search rules) in
    let same_stage : c.in_ok-stage.stage ≡ f.stage = search rules in
    search rules

pub returns-clause-complete : goal.returns-clause-complete
returns-clause-complete c = λ name f rest plain fits small same.
    let named : List ℕ = codes "\"name\":\""
    ++ (name ++ 34 ∷ (codes ",\"stage\":" ++ (decimal f.stage ++ 125 ∷ rest))) in
    let kind = c.take_text.ensures (kind_text f.kind) (codes ",\"item\":" ++ place_then f.origin (44 ∷ named))
    (kind_is_plain f.kind) same in
    let at_item : c.in_ok-kind.left.now ≡ codes ",\"item\":" ++ place_then f.origin (44 ∷ named) = search rules in
    let item = left_after c.after.result _ (codes ",\"item\":") (place_then f.origin (44 ∷ named)) c.after.ensures
    at_item in
    let at_place : c.in_ok-after.field-0.now ≡ place_then f.origin (44 ∷ named) = search rules in
    let origin = c.take_place.ensures f.origin named 44 fits.1 refl at_place in
    let at_name : c.in_ok-origin.left.now ≡ 44 ∷ named = search rules in
    let taken = c.take_text-2.ensures name (codes ",\"stage\":" ++ (decimal f.stage ++ 125 ∷ rest)) plain at_name in
    let at_stage : c.in_ok-name.left.now ≡ codes ",\"stage\":" ++ (decimal f.stage ++ 125 ∷ rest) = search rules in
    let stage = left_after c.after-2.result _ (codes ",\"stage\":") (decimal f.stage ++ 125 ∷ rest) c.after-2.ensures
    at_stage in
    let at_count : c.in_ok-after-2.field-0.now ≡ decimal f.stage ++ 125 ∷ rest = search rules in
    let count = c.take_count.ensures f.stage rest 125 fits.0 refl at_count in
    let at_end : c.in_ok-stage.left.now ≡ 125 ∷ rest = search rules in
    let end = left_after c.after-3.result _ (125 ∷ []) rest c.after-3.ensures at_end in
    let same_kind = c.kind_of.ensures f.kind (search rules) in
    let same_stage : c.in_ok-stage.stage ≡ f.stage = search rules in
    search rules
