-- Parts of sorts.
use Rattle.std.proofs.Common.{◌≡◌, ℕ, ℤ, Bool, true, false, List, Option, refl, sym, ap, ◌∙◌}
use Rattle.lambda_values.specs.Earlier.{Numbers}
use Rattle.trace.specs.declared.item.End.TheVariants as end
use Rattle.trace.specs.Stages.{at_place}
use Rattle.trace.specs.Trace.{Trace, append, trace}
use Rattle.batch_eval.specs.Batches.{laid_items}
use Rattle.batch_eval.proofs.LaneLemmas.{laid_values}
use Rattle.sort_ops.specs.Parts.{AbstractLeast, least_of}
use Rattle.sort_ops.specs.Runs.{with_places}
use Rattle.sort_ops.proofs.ValueLemmas.{with_joined}
use Rattle.job_plan.specs.Parts.{EndsFor}
use Rattle.job_plan.specs.declared.part.Part.TheVariants as part
use Rattle.job_routes.specs.Legs.{AbstractEnd, keeps_places, sorting}

-- a part that goes on with a walk, as the end keeps it, and two parts side by side
pub sort_goes_on : (p q : AbstractLeast) (u kept : Trace)
    → ((m : Option ℕ) (t : Trace) → p ≡ least_of m t → q ≡ least_of m (append t kept))
    → (e : AbstractEnd) → ((m : Option ℕ) (places : Bool) → e ≡ sorting m places → with_places places u ≡ kept)
    → (n : ℕ) (env : Numbers) (t : Trace)
    → EndsFor e n env (part.Sorted p) t → EndsFor e n env (part.Sorted q) (append t u)
sort_goes_on p q u kept goes (sorting m places) as_kept n env t s =
    goes m (with_places places t) s ∙ ap (λ (v : Trace). least_of m (append (with_places places t) v))
    (sym (as_kept m places refl)) ∙ ap (least_of m) (sym (with_joined places t u))
sort_goes_on p q u kept goes e as_kept n env t s = s

pub sorts_merge : (p q r : AbstractLeast)
    → ((m : Option ℕ) (t u : Trace) → p ≡ least_of m t → q ≡ least_of m u → r ≡ least_of m (append t u))
    → (e : AbstractEnd) (n : ℕ) (env : Numbers) (a b : Trace) → EndsFor e n env (part.Sorted p) a
    → EndsFor e n env (part.Sorted q) b → EndsFor e n env (part.Sorted r) (append a b)
sorts_merge p q r merges (sorting m places) n env a b s t =
    merges m (with_places places a) (with_places places b) s t ∙ ap (least_of m) (sym (with_joined places a b))
sorts_merge p q r merges e n env a b s t = s

-- items as an end keeps them: with their places, or without
pub placed : (e : AbstractEnd) → keeps_places e ≡ true → (u : Trace) (m : Option ℕ) (places : Bool)
    → e ≡ sorting m places → with_places places u ≡ u
placed e h u m places is = let k : places ≡ true = sym (ap keeps_places is) ∙ h in ap (λ (b : Bool). with_places b u) k

pub unplaced : (e : AbstractEnd) → keeps_places e ≡ false
    → (start : Option ℕ) (listed : List ℕ) (values : List ℤ) (m : Option ℕ) (places : Bool) → e ≡ sorting m places
    → with_places places (trace (laid_items start listed values) end.Done) ≡ trace (at_place 0 values) end.Done
unplaced e h start listed values m places is =
    let k : places ≡ false = sym (ap keeps_places is) ∙ h in
    ap (λ (b : Bool). with_places b (trace (laid_items start listed values) end.Done)) k
    ∙ ap (λ (vs : List ℤ). trace (at_place 0 vs) end.Done) (laid_values start listed values)

pub with_ending : (places : Bool) (t : Trace) → (with_places places t).ending ≡ t.ending
with_ending true t = refl
with_ending false t = refl
