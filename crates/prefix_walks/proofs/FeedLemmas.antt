-- Walks of items side by side.
use Rattle.std.proofs.Common.{◌≡◌, List, [], ◌++◌, Result, Ok, refl, sym, ap, subst, ◌∙◌, append_assoc}
use Rattle.std.specs.declared.alloc.AllocError.{AllocError}
use Rattle.std.proofs.lemmas.List.{append-nil}
use Rattle.lambda_values.specs.declared.item.Item.{Item}
use Rattle.trace.specs.declared.item.End.TheVariants as end
use Rattle.trace.specs.declared.feeding.Fed.{Fed}
use Rattle.trace.specs.declared.feeding.Fed.TheVariants as fed
use Rattle.trace.specs.Sinks.{IsFed}
use Rattle.trace.specs.Stages.{stages_of}
use Rattle.trace.specs.Trace.{Trace, trace}
use Rattle.trace.proofs.JoinLemmas.{pipe_ended, pipe_more}
use Rattle.trace.proofs.WalkLemmas.{IsFed_on, IsFed_ended}
use Rattle.batch_eval.specs.declared.pipeline.Pipeline.{Pipeline}
use Rattle.batch_eval.specs.Pipelines.{piped}

module _ {S : Type 0} (h : S → List Item → Type 0) (line : Pipeline) where
  -- some items, and then others
  pub fed_both : (xs ys zs all : List Item) (r : Result Fed AllocError) (s s' : S) → all ≡ ys ++ zs
      → IsFed h xs (piped line (trace ys end.Done)) (Ok fed.More) s
      → ((vs : List Item) → h s vs → IsFed h vs (piped line (trace zs end.Done)) r s')
      → IsFed h xs (piped line (trace all end.Done)) r s'
  fed_both xs ys zs all r s s' e p later =
      let a : Trace = piped line (trace ys end.Done) in
      let b : Trace = piped line (trace zs end.Done) in
      subst (λ (t : Trace). IsFed h xs t r s')
      (sym (ap (λ (us : List Item). piped line (trace us end.Done)) e
      ∙ pipe_more line.first (stages_of line.stages.now) line.env.now ys zs end.Done))
      (IsFed_on h xs a b r s' p.1 (later (xs ++ a.items) p.0))

  -- some items, at which the walk was stopped
  pub fed_stopped : (xs ys zs all : List Item) (r : Result Fed AllocError) (s : S) → all ≡ ys ++ zs
      → (r ≡ Ok fed.More → ⊥) → IsFed h xs (piped line (trace ys end.Done)) r s
      → IsFed h xs (piped line (trace all end.Done)) r s
  fed_stopped xs ys zs all r s e stopped p =
      subst (λ (us : List Item). IsFed h xs (piped line (trace us end.Done)) r s) (sym e)
      (IsFed_ended h line.first (stages_of line.stages.now) line.env.now xs ys zs end.Done r s stopped p)

  -- no items
  pub fed_none : (xs all : List Item) (s : S) → all ≡ [] → h s xs
      → IsFed h xs (piped line (trace all end.Done)) (Ok fed.More) s
  fed_none xs all s e took =
      subst (λ (t : Trace). IsFed h xs t (Ok fed.More) s)
      (sym (ap (λ (us : List Item). piped line (trace us end.Done)) e
      ∙ pipe_ended line.first (stages_of line.stages.now) line.env.now end.Done))
      (subst (h s) (sym (append-nil xs)) took, refl)

  -- some items after those so far, and what is left
  pub fed_on : (xs ys zs rest all : List Item) (s s' : S) → ys ++ (zs ++ rest) ≡ all
      → IsFed h xs (piped line (trace ys end.Done)) (Ok fed.More) s
      → ((vs : List Item) → h s vs → IsFed h vs (piped line (trace zs end.Done)) (Ok fed.More) s')
      → (us : List Item) × IsFed h xs (piped line (trace us end.Done)) (Ok fed.More) s' × (us ++ rest ≡ all)
  fed_on xs ys zs rest all s s' e p later = (
    ys ++ zs,
    fed_both xs ys zs (ys ++ zs) (Ok fed.More) s s' refl p later,
    append_assoc ys zs rest ∙ e,
  )

  -- some items after those so far, at which the walk was stopped
  pub fed_last : (xs ys zs rest all : List Item) (r : Result Fed AllocError) (s s' : S) → ys ++ (zs ++ rest) ≡ all
      → (r ≡ Ok fed.More → ⊥) → IsFed h xs (piped line (trace ys end.Done)) (Ok fed.More) s
      → ((vs : List Item) → h s vs → IsFed h vs (piped line (trace zs end.Done)) r s')
      → IsFed h xs (piped line (trace all end.Done)) r s'
  fed_last xs ys zs rest all r s s' e stopped p later =
      fed_both xs ys (zs ++ rest) all r s s' (sym e) p
      (λ vs had. fed_stopped vs zs rest (zs ++ rest) r s' refl stopped (later vs had))
