-- Walks of segments in pieces.
use Rattle.std.proofs.Common.{◌≡◌, ℕ, ◌<◌, ◌≤◌, append-nil, length, arith, Bool, true, false, List, [], ◌++◌, take}
use Rattle.std.proofs.Common.{Option, Some, None, IfSome, IfOk, Result, Ok, Err, refl, sym, subst, ◌∙◌, drop, ap}
use Rattle.std.proofs.lemmas.List.{take_all, append-nil, take-append-drop}
use Rattle.lambda_values.specs.Earlier.{Numbers}
use Rattle.lambda_values.specs.declared.item.Item.{Item}
use Rattle.trace.specs.declared.item.Fault.{Fault}
use Rattle.trace.specs.declared.item.End.TheVariants as end
use Rattle.trace.specs.Trace.{Trace, trace, append}
use Rattle.trace.proofs.JoinLemmas.{append_grouped, append_nothing, pipe_append, append_faulted, pipe_ended, pipe_more}
use Rattle.job_meaning.specs.declared.answer.Answer.{Answer}
use Rattle.job_plan.specs.declared.part.Part.{Part}
use Rattle.std.specs.declared.alloc.AllocError.{AllocError}
use Rattle.trace.specs.declared.feeding.Fed.{Fed}
use Rattle.trace.specs.declared.feeding.Fed.TheVariants as fed
use Rattle.trace.specs.Sinks.{IsFed}
use Rattle.trace.specs.declared.sink.Flow.TheVariants as flow
use Rattle.job_plan.specs.Parts.{EndsFor, HasTaken, StandsFor, flow_of, is_settled, may_search}
use Rattle.job_routes.specs.Legs.{AbstractEnd, AbstractSegment, last_stage, walk_of}
use Rattle.prefix_walks.specs.Pieces.{IsNotAfter, elements, piece_of}
use Rattle.job_plan.proofs.LentLemmas.{grown}
use Rattle.job_plan.proofs.PartLemmas.{settled}
use Rattle.prefix_walks.proofs.ScanLemmas.{pieces_joined}
use Rattle.trace.specs.declared.item.End.{End}

-- a piece: its items, and then its end
pub piece_in_two : (g : AbstractSegment) (env : Numbers) (from : ℕ) (to : Option ℕ) (t : Trace)
    → walk_of g env (piece_of from to t)
    ≡ append (walk_of g env (trace (elements from to t.items) end.Done)) (trace [] (piece_of from to t).ending)
piece_in_two g env from to t =
    let xs = elements from to t.items in
    let e = (piece_of from to t).ending in
    let ends : List Item = [] in
    ap (walk_of g env) (as_piece from to t ∙ ap (λ (ys : List Item). trace ys e) (sym (append-nil xs)))
    ∙ pipe_more g.first g.stages env xs ends e
    ∙ ap (append (walk_of g env (trace xs end.Done))) (pipe_ended g.first g.stages env e)
  where
    as_piece : (from : ℕ) (to : Option ℕ) (t : Trace)
        → piece_of from to t ≡ trace (elements from to t.items) (piece_of from to t).ending
    as_piece from None t = refl
    as_piece from (Some to) t = refl

-- what a walk leaves, by how it ended: P holds of the walks that a value describes
module _ (P : Trace → Type 0) (w : Trace) (e : End) where
  pub stands_more : w.ending ≡ end.Done → P (append (trace ([] ++ w.items) end.Done) (trace [] e))
      → P (append w (trace [] e))
  stands_more done p = subst P (ap (λ (f : End). append (trace w.items f) (trace [] e)) (sym done)) p

  pub stands_fault : (f : Fault) → w.ending ≡ end.Fault f
      → P (append (trace ([] ++ w.items) end.Done) (trace [] (end.Fault f))) → P (append w (trace [] e))
  stands_fault f h p =
      subst P ((λ i. trace (append-nil w.items i) (end.Fault f)) ∙ ap (λ (x : End). trace w.items x) (sym h)
      ∙ sym (append_faulted w (trace [] e) f h)) p

  pub stands_enough : (k : ℕ) → ((u : Trace) → P (append (trace ([] ++ take k w.items) end.Done) u))
      → P (append w (trace [] e))
  stands_enough k p =
      let front : Trace = trace (take k w.items) end.Done in
      let back : Trace = trace (drop k w.items) w.ending in
      subst P (sym (append_grouped front back (trace [] e))
      ∙ ap (λ (t : Trace). append t (trace [] e)) (λ i. trace (take-append-drop k w.items i) w.ending))
      (p (append back (trace [] e)))

pub not_after : (m : ℕ) (to : Option ℕ) → IfSome to (λ last. m ≤ last) → IsNotAfter m to
not_after m None h = tt
not_after m (Some t) h = h

-- a part that is settled describes all that follows
pub settled_piece : (s : AbstractSegment) (env : Numbers) (p : Part) (t : Trace) (from middle : ℕ) (to : Option ℕ)
    → from ≤ middle → IsNotAfter middle to → is_settled p ≡ true
    → StandsFor s env p (piece_of from (Some middle) t) → StandsFor s env p (piece_of from to t)
settled_piece s env p t from middle to h k is x =
    let a : Trace = piece_of from (Some middle) t in
    let b : Trace = piece_of middle to t in
    let on : EndsFor s.ending (last_stage s) env p (append (walk_of s env a) (walk_of s env b)) =
    settled s.ending (last_stage s) env p (walk_of s env a) (walk_of s env b) is x in
    subst (λ (u : Trace). StandsFor s env p u) (pieces_joined t from middle to h k)
    (subst (λ (u : Trace). EndsFor s.ending (last_stage s) env p u) (sym (pipe_append s.first s.stages env a b)) on)

-- two parts side by side
pub merged_piece : (s : AbstractSegment) (env : Numbers) (p : Part) (t : Trace) (from middle : ℕ) (to : Option ℕ)
    → from ≤ middle → IsNotAfter middle to
    → StandsFor s env p (append (piece_of from (Some middle) t) (piece_of middle to t))
    → StandsFor s env p (piece_of from to t)
merged_piece s env p t from middle to h k x =
    subst (λ (u : Trace). StandsFor s env p u) (pieces_joined t from middle to h k) x

-- a part that goes on from another one with some items, and then with others
pub taken_on : (e : AbstractEnd) (n : ℕ) (env : Numbers) (begun p q : Part) (xs ys : List Item)
    → HasTaken e n env begun p xs
    → ((t : Trace) → EndsFor e n env p t → EndsFor e n env q (append t (trace ys end.Done)))
    → may_search q ≡ may_search p → HasTaken e n env begun q (xs ++ ys)
taken_on e n env begun p q xs ys took on kind = (
  λ t h. subst (EndsFor e n env q) (grown t xs ys) (on (append t (trace xs end.Done)) (took.0 t h)),
  kind ∙ took.1,
)

-- what was taken, said of an equal end, stage and numbers
pub taken_as : (e f : AbstractEnd) (m n : ℕ) (env named : Numbers) (begun p : Part) (xs : List Item) → e ≡ f → m ≡ n
    → env ≡ named → HasTaken f n named begun p xs → HasTaken e m env begun p xs
taken_as e f m n env named begun p xs a b c h =
    subst (λ (x : AbstractEnd). HasTaken x m env begun p xs) (sym a)
    (subst (λ (x : ℕ). HasTaken f x env begun p xs) (sym b)
    (subst (λ (x : Numbers). HasTaken f n x begun p xs) (sym c) h))

-- what a sink was fed, as another one sees it
pub fed_as : {S T : Type 0} (h : S → List Item → Type 0) (k : T → List Item → Type 0) (s : S) (u : T)
    → ((ys : List Item) → h s ys → k u ys)
    → (xs : List Item) (t : Trace) (r : Result Fed AllocError) → IsFed h xs t r s → IsFed k xs t r u
fed_as h k s u f xs t (Ok fed.More) p = (f (xs ++ t.items) p.0, p.1)
fed_as h k s u f xs t (Ok (fed.Fault x)) p = (f (xs ++ t.items) p.0, p.1)
fed_as h k s u f xs t (Ok fed.Enough) p = (p.0, p.1, f (xs ++ take p.0 t.items) p.2)
fed_as h k s u f xs t (Err e) p = (p.0, p.1, f (xs ++ take p.0 t.items) p.2)

-- before any item
pub taken_none : (e : AbstractEnd) (n : ℕ) (env : Numbers) (p : Part) → HasTaken e n env p p []
taken_none e n env p = (λ t h. subst (EndsFor e n env p) (sym (append_nothing t)) h, refl)

module _ (s : AbstractSegment) (env : Numbers) (p : Part) (before t : Trace) (from : ℕ) (to : Option ℕ) where
  abbrev walked : Trace
  walked = walk_of s env (trace (elements from to t.items) end.Done)

  abbrev Ends : Trace → Type 0
  Ends u = EndsFor s.ending (last_stage s) env p (append (walk_of s env before) u)

  -- of the walk before, and the piece
  of_both : Ends (walk_of s env (piece_of from to t)) → StandsFor s env p (append before (piece_of from to t))
  of_both x = subst (EndsFor s.ending (last_stage s) env p)
      (sym (pipe_append s.first s.stages env before (piece_of from to t))) x

  by_end : Ends (append walked (trace [] (piece_of from to t).ending))
      → StandsFor s env p (append before (piece_of from to t))
  by_end x = of_both (subst Ends (sym (piece_in_two s env from to t)) x)

  grouped : (a b : Trace) → EndsFor s.ending (last_stage s) env p (append (append (walk_of s env before) a) b)
      → Ends (append a b)
  grouped a b x = subst (EndsFor s.ending (last_stage s) env p) (append_grouped (walk_of s env before) a b) x

  -- nothing after what came before matters
  pub settled_first : is_settled p ≡ true → StandsFor s env p before
      → StandsFor s env p (append before (piece_of from to t))
  settled_first is x = of_both (settled s.ending (last_stage s) env p (walk_of s env before)
      (walk_of s env (piece_of from to t)) is x)

  -- all items went through
  pub after_more : walked.ending ≡ end.Done
      → EndsFor s.ending (last_stage s) env p
      (append (append (walk_of s env before) (trace ([] ++ walked.items) end.Done))
      (trace [] (piece_of from to t).ending))
      → StandsFor s env p (append before (piece_of from to t))
  after_more done x = by_end (stands_more Ends walked (piece_of from to t).ending done
      (grouped (trace ([] ++ walked.items) end.Done) (trace [] (piece_of from to t).ending) x))

  -- one of them ended the walk in a fault
  pub after_fault : (f : Fault) → walked.ending ≡ end.Fault f
      → EndsFor s.ending (last_stage s) env p
      (append (append (walk_of s env before) (trace ([] ++ walked.items) end.Done)) (trace [] (end.Fault f)))
      → StandsFor s env p (append before (piece_of from to t))
  after_fault f h x = by_end (stands_fault Ends walked (piece_of from to t).ending f h
      (grouped (trace ([] ++ walked.items) end.Done) (trace [] (end.Fault f)) x))

  -- nothing more mattered
  pub after_enough : (k : ℕ) → is_settled p ≡ true
      → EndsFor s.ending (last_stage s) env p
      (append (walk_of s env before) (trace ([] ++ take k walked.items) end.Done))
      → StandsFor s env p (append before (piece_of from to t))
  after_enough k is x =
      by_end (stands_enough Ends walked (piece_of from to t).ending k
      (λ u. grouped (trace ([] ++ take k walked.items) end.Done) u
      (settled s.ending (last_stage s) env p
      (append (walk_of s env before) (trace ([] ++ take k walked.items) end.Done)) u is x)))

-- how a piece ends doesn't depend on where it begins
pub same_ending : (from : ℕ) (to : Option ℕ) (t : Trace) → (piece_of 0 to t).ending ≡ (piece_of from to t).ending
same_ending from None t = refl
same_ending from (Some to) t = refl

pub enough_is_settled : (b : Bool) → flow_of b ≡ flow.Enough → b ≡ true
enough_is_settled true h = refl
enough_is_settled false h = cc

-- which walk a part describes, said of an equal end, stage and numbers
pub unpinned : (e f : AbstractEnd) (m n : ℕ) (env named : Numbers) (p : Part) (t : Trace) → e ≡ f → m ≡ n → env ≡ named
    → EndsFor f n named p t → EndsFor e m env p t
unpinned e f m n env named p t a b c h =
    subst (λ (x : AbstractEnd). EndsFor x m env p t) (sym a)
    (subst (λ (x : ℕ). EndsFor f x env p t) (sym b) (subst (λ (x : Numbers). EndsFor f n x p t) (sym c) h))

-- all of these items were taken, and nothing more matters
pub enough_at_last : (h : List Item → Type 0) (xs items : List Item) → h (xs ++ items)
    → (k : ℕ) × (k ≤ length items) × h (xs ++ take k items)
enough_at_last h xs items took = (
  length items,
  omega arith,
  subst (λ (zs : List Item). h (xs ++ zs)) (sym (take_all (length items) items (omega arith))) took,
)

-- an answer, if there is one
pub same_answer : (r : Result Answer AllocError) (x y : Answer) → x ≡ y → IfOk r (λ a. a ≡ x) → IfOk r (λ a. a ≡ y)
same_answer r x y e h = subst (λ (z : Answer). IfOk r (λ a. a ≡ z)) e h

-- a walk that was refused at its first item
pub refused_at_first : {S : Type 0} (has_taken : S → List Item → Type 0) (xs : List Item) (t : Trace) (s : S)
    (e : AllocError) (r : Result Fed AllocError) → r ≡ Err e → 0 < length t.items → has_taken s xs
    → IsFed has_taken xs t r s
refused_at_first has_taken xs t s e r is some h = rw is (0, some, rw (append-nil xs) h)
