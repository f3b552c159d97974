-- Integers in a row that a sink takes at once.
use Rattle.std.proofs.Common.{◌≡◌, ◌≤◌, ℕ, suc, ℤ, List, [], ◌∷◌, ◌++◌, length, map, Ok, refl, sym, ap, subst, ◌∙◌}
use Rattle.std.proofs.Common.{append_assoc, arith}
use Rattle.std.proofs.lemmas.List.{append-nil}
use Rattle.lambda_values.specs.declared.item.Item.{Item}
use Rattle.trace.specs.Cover.{placed}
use Rattle.trace.specs.declared.stage.Stage.{Stage}
use Rattle.trace.specs.declared.item.End.TheVariants as end
use Rattle.trace.specs.declared.feeding.Fed.TheVariants as fed
use Rattle.trace.specs.Trace.{Trace, trace}
use Rattle.trace.specs.Sinks.{IsFed}
use Rattle.trace.specs.Stages.{at_place, pipe, stages_of}
use Rattle.batch_eval.specs.declared.pipeline.Pipeline.{Pipeline}
use Rattle.batch_eval.specs.Pipelines.{piped}
use Rattle.batch_eval.specs.Pours.{Holds}

pub values_placed : (o : ℕ) (vs : List ℤ) → map (λ (y : Item). y.value) (placed o vs) ≡ vs
values_placed o [] = refl
values_placed o (v ∷ vs) = ap (λ (ws : List ℤ). v ∷ ws) (values_placed (suc o) vs)

pub values_at_place : (o : ℕ) (vs : List ℤ) → map (λ (y : Item). y.value) (at_place o vs) ≡ vs
values_at_place o [] = refl
values_at_place o (v ∷ vs) = ap (λ (ws : List ℤ). v ∷ ws) (values_at_place o vs)

-- without stages a walk stays as it is
pub unpiped : (line : Pipeline) (t : Trace) → line.stages.now ≡ [] → piped line t ≡ t
unpiped line t none_left = ap (λ (gs : List Stage). pipe line.first (stages_of gs) line.env.now t) none_left

pub none_waits : (pending : List Item) → length pending ≤ 0 → pending ≡ []
none_waits [] few = refl
none_waits (x ∷ xs) few = absurd (omega (arith, few))

-- items taken at once, after all that waited
pub taken_at_once : {S : Type 0} (h : S → List Item → Type 0) (line : Pipeline) (xs whole zs pending : List Item)
    (s s' : S) → line.stages.now ≡ [] → length pending ≤ 0 → Holds h line xs whole pending s
    → (h s (xs ++ whole) → h s' ((xs ++ whole) ++ zs))
    → IsFed h xs (piped line (trace (whole ++ zs) end.Done)) (Ok fed.More) s'
taken_at_once h line xs whole zs pending s s' none_left few held goes =
    let all : whole ≡ held.0 =
    held.1 ∙ ap (λ (ys : List Item). held.0 ++ ys) (none_waits pending few) ∙ append-nil held.0 in
    let before : IsFed h xs (trace held.0 end.Done) (Ok fed.More) s =
    subst (λ (t : Trace). IsFed h xs t (Ok fed.More) s) (unpiped line (trace held.0 end.Done) none_left) held.2 in
    let took : h s (xs ++ whole) = subst (λ (ys : List Item). h s (xs ++ ys)) (sym all) before.0 in
    let later : h s' (xs ++ (whole ++ zs)) =
    subst (λ (ys : List Item). h s' ys) (append_assoc xs whole zs) (goes took) in
    subst (λ (t : Trace). IsFed h xs t (Ok fed.More) s') (sym (unpiped line (trace (whole ++ zs) end.Done) none_left))
    (later, refl)
