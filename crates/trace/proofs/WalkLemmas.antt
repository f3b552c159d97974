-- How a walk into a sink goes on.
use Rattle.std.proofs.Common.{◌≡◌, ℕ, [], ◌∷◌, ◌+◌, ◌≤◌, List, ◌++◌, length, take, drop, Result, Ok, Err, Some, refl}
use Rattle.std.proofs.Common.{sym, ap, subst, ◌∙◌, append_assoc, arith, length-append}
use Rattle.lambda_values.specs.Earlier.{Numbers}
use Rattle.std.proofs.Math.Seq.{take-append-add}
use Rattle.std.proofs.lemmas.List.{append-nil, take-append-drop, take-append-le, take_more, take_all}
use Rattle.std.proofs.lemmas.Option.{slice_get_within, get_or_from_slice_get}
use Rattle.std.specs.List.{slice_get}
use Rattle.std.specs.declared.alloc.AllocError.{AllocError}
use Rattle.lambda_values.specs.declared.item.Item.{Item}
use Rattle.trace.specs.declared.item.End.{End}
use Rattle.trace.specs.declared.item.End.TheVariants as end
use Rattle.trace.specs.declared.feeding.Fed.{Fed}
use Rattle.trace.specs.declared.feeding.Fed.TheVariants as fed
use Rattle.trace.specs.Trace.{Trace, trace, then_on, append}
use Rattle.trace.specs.Sinks.{IsFed}
use Rattle.trace.specs.Stages.{AbstractStage, pipe}
use Rattle.trace.proofs.JoinLemmas.{append_faulted, pipe_ended, pipe_more}

-- a beginning of what comes after ys, with ys before it
behind : (xs ys zs : List Item) (k : ℕ) → (xs ++ ys) ++ take k zs ≡ xs ++ take (length ys + k) (ys ++ zs)
behind xs ys zs k = append_assoc xs ys (take k zs) ∙ ap (λ (ws : List Item). xs ++ ws) (sym (take-append-add ys zs k))

-- a beginning of ys is one of ys with whatever comes after it
front : (ys : List Item) (e : End) (b : Trace) (k : ℕ) → k ≤ length ys → take k (then_on ys e b).items ≡ take k ys
front ys end.Done b k within = take-append-le k ys b.items within
front ys (end.Fault f) b k within = refl

longer : (ys : List Item) (e : End) (b : Trace) → length ys ≤ length (then_on ys e b).items
longer ys end.Done b = omega (arith, length-append ys b.items)
longer ys (end.Fault f) b = omega arith

module _ {S : Type 0} (h : S → List Item → Type 0) where
  on_from : (xs ys : List Item) (b : Trace) (r : Result Fed AllocError) (s : S) → IsFed h (xs ++ ys) b r s
      → IsFed h xs (trace (ys ++ b.items) b.ending) r s
  on_from xs ys b (Ok fed.More) s p = (subst (h s) (append_assoc xs ys b.items) p.0, p.1)
  on_from xs ys b (Ok (fed.Fault f)) s p = (subst (h s) (append_assoc xs ys b.items) p.0, p.1)
  on_from xs ys b (Ok fed.Enough) s p =
      (length ys + p.0, omega (arith, length-append ys b.items, p.1), subst (h s) (behind xs ys b.items p.0) p.2)
  on_from xs ys b (Err m) s p =
      (length ys + p.0, omega (arith, length-append ys b.items, p.1), subst (h s) (behind xs ys b.items p.0) p.2)

  -- a walk that was done goes on with another
  pub IsFed_on : (xs : List Item) (a b : Trace) (r : Result Fed AllocError) (s : S) → a.ending ≡ end.Done
      → IsFed h (xs ++ a.items) b r s → IsFed h xs (append a b) r s
  IsFed_on xs a b r s done p = subst (λ (e : End). IsFed h xs (then_on a.items e b) r s) (sym done)
      (on_from xs a.items b r s p)

  -- a walk that was stopped is the whole, whatever was to come
  pub IsFed_stopped : (xs : List Item) (a b : Trace) (r : Result Fed AllocError) (s : S) → (r ≡ Ok fed.More → ⊥)
      → IsFed h xs a r s → IsFed h xs (append a b) r s
  IsFed_stopped xs a b (Ok fed.More) s stopped p = absurd (stopped refl)
  IsFed_stopped xs a b (Ok (fed.Fault f)) s stopped p =
      subst (λ (t : Trace). IsFed h xs t (Ok (fed.Fault f)) s) (sym (append_faulted a b f p.1)) p
  IsFed_stopped xs a b (Ok fed.Enough) s stopped p = (
    p.0,
    omega (arith, longer a.items a.ending b, p.1),
    subst (λ (zs : List Item). h s (xs ++ zs)) (sym (front a.items a.ending b p.0 p.1)) p.2,
  )
  IsFed_stopped xs a b (Err m) s stopped p = (
    p.0,
    omega (arith, longer a.items a.ending b, p.1),
    subst (λ (zs : List Item). h s (xs ++ zs)) (sym (front a.items a.ending b p.0 (omega (arith, p.1)))) p.2,
  )

  -- a sink that took all so far leaves the walk
  pub IsFed_left : (xs : List Item) (t : Trace) (s s' : S) → ((ys : List Item) → h s ys → h s' ys)
      → IsFed h xs t (Ok fed.More) s → IsFed h xs t (Ok fed.Enough) s'
  IsFed_left xs t s s' kept p =
      let all : take (length t.items) t.items ≡ t.items = take_all (length t.items) t.items (omega arith) in
      (length t.items, omega arith, subst (λ (zs : List Item). h s' (xs ++ zs)) (sym all) (kept (xs ++ t.items) p.0))

  -- a walk of items through stages, before its first item
  pub IsFed_none : (n : ℕ) (gs : List AbstractStage) (env : Numbers) (xs : List Item) (s : S) → h s xs
      → IsFed h xs (pipe n gs env (trace [] end.Done)) (Ok fed.More) s
  IsFed_none n gs env xs s took = rw pipe_ended (subst (h s) (sym (append-nil xs)) took, refl)

  -- one item more
  pub IsFed_one_more : (n : ℕ) (gs : List AbstractStage) (env : Numbers) (xs ys : List Item) (y : Item)
      (r : Result Fed AllocError) (s s' : S) → IsFed h xs (pipe n gs env (trace ys end.Done)) (Ok fed.More) s
      → ((vs : List Item) → h s vs → IsFed h vs (pipe n gs env (trace (y ∷ []) end.Done)) r s')
      → IsFed h xs (pipe n gs env (trace (ys ++ y ∷ []) end.Done)) r s'
  IsFed_one_more n gs env xs ys y r s s' before one =
      let a : Trace = pipe n gs env (trace ys end.Done) in
      let b : Trace = pipe n gs env (trace (y ∷ []) end.Done) in
      subst (λ (t : Trace). IsFed h xs t r s') (sym (pipe_more n gs env ys (y ∷ []) end.Done))
      (IsFed_on xs a b r s' before.1 (one (xs ++ a.items) before.0))

  -- a walk that was stopped at one of the items is the walk of them all
  pub IsFed_ended : (n : ℕ) (gs : List AbstractStage) (env : Numbers) (xs ys zs : List Item) (e : End)
      (r : Result Fed AllocError) (s : S) → (r ≡ Ok fed.More → ⊥) → IsFed h xs (pipe n gs env (trace ys end.Done)) r s
      → IsFed h xs (pipe n gs env (trace (ys ++ zs) e)) r s
  IsFed_ended n gs env xs ys zs e r s stopped p =
      subst (λ (t : Trace). IsFed h xs t r s) (sym (pipe_more n gs env ys zs e))
      (IsFed_stopped xs (pipe n gs env (trace ys end.Done)) (pipe n gs env (trace zs e)) r s stopped p)

  -- a walk of the items of a list, by their position, that was stopped at one of them is the walk of them all
  pub IsFed_next : (n : ℕ) (gs : List AbstractStage) (env : Numbers) (xs items : List Item) (i : ℕ) (y : Item)
      (r : Result Fed AllocError) (s s' : S) → slice_get items i ≡ Some y
      → IsFed h xs (pipe n gs env (trace (take i items) end.Done)) (Ok fed.More) s
      → ((vs : List Item) → h s vs → IsFed h vs (pipe n gs env (trace (y ∷ []) end.Done)) r s')
      → IsFed h xs (pipe n gs env (trace (take (i + 1) items) end.Done)) r s'
  IsFed_next n gs env xs items i y r s s' here before one =
      let more : take (i + 1) items ≡ take i items ++ y ∷ [] =
      take_more items i y (slice_get_within items i y here)
      ∙ ap (λ (z : Item). take i items ++ z ∷ []) (get_or_from_slice_get items i y y here) in
      subst (λ (zs : List Item). IsFed h xs (pipe n gs env (trace zs end.Done)) r s') (sym more)
      (IsFed_one_more n gs env xs (take i items) y r s s' before one)

  pub IsFed_whole : (n : ℕ) (gs : List AbstractStage) (env : Numbers) (xs items : List Item) (i : ℕ) (e : End)
      (r : Result Fed AllocError) (s : S) → (r ≡ Ok fed.More → ⊥)
      → IsFed h xs (pipe n gs env (trace (take i items) end.Done)) r s → IsFed h xs (pipe n gs env (trace items e)) r s
  IsFed_whole n gs env xs items i e r s stopped p =
      subst (λ (zs : List Item). IsFed h xs (pipe n gs env (trace zs e)) r s) (take-append-drop i items)
      (IsFed_ended n gs env xs (take i items) (drop i items) e r s stopped p)

  -- all items of a list went through
  pub IsFed_all : (n : ℕ) (gs : List AbstractStage) (env : Numbers) (xs items : List Item) (i : ℕ)
      (r : Result Fed AllocError) (s : S) → length items ≤ i
      → IsFed h xs (pipe n gs env (trace (take i items) end.Done)) r s
      → IsFed h xs (pipe n gs env (trace items end.Done)) r s
  IsFed_all n gs env xs items i r s past =
      subst (λ (zs : List Item). IsFed h xs (pipe n gs env (trace zs end.Done)) r s) (take_all i items past)
