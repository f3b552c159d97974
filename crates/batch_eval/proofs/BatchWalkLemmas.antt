-- How a walk into a sink goes on with a batch.
use Rattle.std.proofs.Common.{◌≡◌, ◌+◌, List, [], ◌∷◌, ◌++◌, ℕ, take, Result, Ok, Err, Some, refl, sym, ap, subst, ◌∙◌}
use Rattle.std.proofs.Common.{append_assoc, arith}
use Rattle.std.proofs.lemmas.List.{append-nil, take_more}
use Rattle.std.proofs.lemmas.Option.{slice_get_within, get_or_from_slice_get}
use Rattle.std.specs.List.{slice_get}
use Rattle.std.specs.declared.alloc.AllocError.{AllocError}
use Rattle.lambda_values.specs.Earlier.{Numbers}
use Rattle.lambda_values.specs.declared.item.Item.{Item}
use Rattle.trace.specs.declared.item.End.{End}
use Rattle.trace.specs.declared.item.End.TheVariants as end
use Rattle.trace.specs.declared.feeding.Fed.{Fed}
use Rattle.trace.specs.declared.feeding.Fed.TheVariants as fed
use Rattle.trace.specs.Trace.{Trace, trace, append}
use Rattle.trace.specs.Sinks.{IsFed}
use Rattle.trace.specs.Stages.{AbstractStage, pipe}
use Rattle.trace.proofs.JoinLemmas.{pipe_ended, pipe_more}
use Rattle.trace.proofs.WalkLemmas.{IsFed_on, IsFed_ended}
use Rattle.batch_eval.specs.Batches.{fed_of}

module _ {S : Type 0} (h : S → List Item → Type 0) (n : ℕ) (gs : List AbstractStage) (env : Numbers)
    (xs : List Item) where
  -- more items
  pub IsFed_more : (before part whole : List Item) (r : Result Fed AllocError) (s s' : S) → whole ≡ before ++ part
      → IsFed h xs (pipe n gs env (trace before end.Done)) (Ok fed.More) s
      → ((vs : List Item) → h s vs → IsFed h vs (pipe n gs env (trace part end.Done)) r s')
      → IsFed h xs (pipe n gs env (trace whole end.Done)) r s'
  IsFed_more before part whole r s s' is so_far here =
      let a : Trace = pipe n gs env (trace before end.Done) in
      let b : Trace = pipe n gs env (trace part end.Done) in
      let joined : pipe n gs env (trace whole end.Done) ≡ append a b =
      ap (λ (ys : List Item). pipe n gs env (trace ys end.Done)) is ∙ pipe_more n gs env before part end.Done in
      subst (λ (t : Trace). IsFed h xs t r s') (sym joined)
      (IsFed_on h xs a b r s' so_far.1 (here (xs ++ a.items) so_far.0))

  -- the end after all items
  pub IsFed_end : (items : List Item) (e : End) (s : S)
      → IsFed h xs (pipe n gs env (trace items end.Done)) (Ok fed.More) s
      → IsFed h xs (pipe n gs env (trace items e)) (Ok (fed_of e)) s
  IsFed_end items end.Done s so_far = so_far
  IsFed_end items (end.Fault f) s so_far =
      let a : Trace = pipe n gs env (trace items end.Done) in
      let b : Trace = trace [] (end.Fault f) in
      let one = pipe_more n gs env items [] (end.Fault f) in
      let joined : pipe n gs env (trace items (end.Fault f)) ≡ append a b =
      ap (λ (ys : List Item). pipe n gs env (trace ys (end.Fault f))) (sym (append-nil items)) ∙ one
      ∙ ap (append a) (pipe_ended n gs env (end.Fault f)) in
      subst (λ (t : Trace). IsFed h xs t (Ok (fed.Fault f)) s) (sym joined)
      (IsFed_on h xs a b (Ok (fed.Fault f)) s so_far.1
      (subst (h s) (sym (append-nil (xs ++ a.items))) so_far.0, refl))

  -- a walk that was stopped at one of the items
  pub IsFed_cut : (items : List Item) (e : End) (r : Result Fed AllocError) (s : S) → (r ≡ Ok fed.More → ⊥)
      → IsFed h xs (pipe n gs env (trace items end.Done)) r s → IsFed h xs (pipe n gs env (trace items e)) r s
  IsFed_cut items e r s stopped so_far =
      subst (λ (ys : List Item). IsFed h xs (pipe n gs env (trace ys e)) r s) (append-nil items)
      (IsFed_ended h n gs env xs items [] e r s stopped so_far)

module _ {S : Type 0} (h : S → List Item → Type 0) (xs : List Item) where
  -- one item more was taken
  pub one_taken : (items : List Item) (i : ℕ) (y : Item) (s : S) → slice_get items i ≡ Some y
      → h s ((xs ++ take i items) ++ y ∷ []) → h s (xs ++ take (i + 1) items)
  one_taken items i y s here took =
      let more : take (i + 1) items ≡ take i items ++ y ∷ [] =
      take_more items i y (slice_get_within items i y here)
      ∙ ap (λ (z : Item). take i items ++ z ∷ []) (get_or_from_slice_get items i y y here) in
      subst (h s) (append_assoc xs (take i items) (y ∷ []) ∙ ap (λ (ys : List Item). xs ++ ys) (sym more)) took

  -- the sink had enough after this one
  pub IsFed_enough : (t : Trace) (i : ℕ) (y : Item) (s : S) → slice_get t.items i ≡ Some y
      → h s ((xs ++ take i t.items) ++ y ∷ []) → IsFed h xs t (Ok fed.Enough) s
  IsFed_enough t i y s here took = (
    i + 1,
    omega (arith, slice_get_within t.items i y here),
    one_taken t.items i y s here took,
  )

  -- the sink refused this one
  pub IsFed_refused : (t : Trace) (i : ℕ) (y : Item) (e : AllocError) (s : S) → slice_get t.items i ≡ Some y
      → h s (xs ++ take i t.items) → IsFed h xs t (Err e) s
  IsFed_refused t i y e s here took = (i, slice_get_within t.items i y here, took)

  -- the sink took all of them
  pub IsFed_given : (t : Trace) (s : S) → h s (xs ++ t.items) → IsFed h xs t (Ok (fed_of t.ending)) s
  IsFed_given t s took = by_end t.ending where
    by_end : (e : End) → IsFed h xs (trace t.items e) (Ok (fed_of e)) s
    by_end end.Done = (took, refl)
    by_end (end.Fault f) = (took, refl)
