-- How a walk goes on while some of its items wait, and what `flatMap` makes of items one after the other.
use Rattle.std.proofs.Common.{◌≡◌, ◌+◌, ◌≤◌, ℕ, List, [], ◌∷◌, ◌++◌, length, take, drop, Result, Ok, Err, Some, refl}
use Rattle.std.proofs.Common.{sym, ap, subst, ◌∙◌, append_assoc}
use Rattle.std.proofs.lemmas.List.{append-nil, take_more, take_all, take-append-drop}
use Rattle.std.proofs.lemmas.Option.{slice_get_within, get_or_from_slice_get}
use Rattle.std.specs.List.{slice_get}
use Rattle.std.specs.declared.alloc.AllocError.{AllocError}
use Rattle.lambda_values.specs.declared.item.Item.{Item}
use Rattle.trace.specs.declared.item.Fault.{Fault}
use Rattle.trace.specs.declared.item.End.{End}
use Rattle.trace.specs.declared.item.End.TheVariants as end
use Rattle.trace.specs.declared.feeding.Fed.{Fed}
use Rattle.trace.specs.declared.feeding.Fed.TheVariants as fed
use Rattle.trace.specs.Trace.{Trace, trace, then_on, append, each}
use Rattle.trace.specs.Sinks.{IsFed}
use Rattle.trace.specs.Stages.{stages_of}
use Rattle.trace.proofs.JoinLemmas.{append_nothing, append_faulted, each_append, pipe_append, pipe_more}
use Rattle.trace.proofs.WalkLemmas.{IsFed_on, IsFed_none, IsFed_stopped, IsFed_ended}
use Rattle.batch_eval.specs.declared.pipeline.Pipeline.{Pipeline}
use Rattle.batch_eval.specs.Pipelines.{piped}
use Rattle.batch_eval.specs.Pours.{Holds, Poured}

module _ {S : Type 0} (h : S → List Item → Type 0) (line : Pipeline) (xs : List Item) where
  pub holds_none : (s : S) → h s xs → Holds h line xs [] [] s
  holds_none s took = ([], refl, IsFed_none h line.first (stages_of line.stages.now) line.env.now xs s took)

  -- more items wait
  pub holds_more : (whole pending part : List Item) (s : S) → Holds h line xs whole pending s
      → Holds h line xs (whole ++ part) (pending ++ part) s
  holds_more whole pending part s held =
      (held.0, ap (λ (ys : List Item). ys ++ part) held.1 ∙ append_assoc held.0 pending part, held.2)

  -- more items wait, of a walk that goes on from another one
  pub holds_further : (front next : Trace) (part pending pending' : List Item) (s : S)
      → next ≡ trace (front.items ++ part) end.Done → pending' ≡ pending ++ part → Holds h line xs front.items pending s
      → Holds h line xs next.items pending' s
  holds_further front next part pending pending' s more waits held =
      let longer : Holds h line xs (front.items ++ part) pending' s =
      subst (λ (ys : List Item). Holds h line xs (front.items ++ part) ys s) (sym waits)
      (holds_more front.items pending part s held) in
      subst (λ (u : Trace). Holds h line xs u.items pending' s) (sym more) longer

  -- what waits goes on, and the walk ends so
  pub holds_ended : (whole pending : List Item) (e : End) (r : Result Fed AllocError) (s s' : S)
      → Holds h line xs whole pending s → ((vs : List Item) → h s vs → IsFed h vs (piped line (trace pending e)) r s')
      → IsFed h xs (piped line (trace whole e)) r s'
  holds_ended whole pending e r s s' held here =
      let a : Trace = piped line (trace held.0 end.Done) in
      let b : Trace = piped line (trace pending e) in
      let joined : piped line (trace whole e) ≡ append a b =
      ap (λ (ys : List Item). piped line (trace ys e)) held.1
      ∙ pipe_more line.first (stages_of line.stages.now) line.env.now held.0 pending e in
      subst (λ (t : Trace). IsFed h xs t r s') (sym joined)
      (IsFed_on h xs a b r s' held.2.1 (here (xs ++ a.items) held.2.0))

  -- nothing waits any more
  pub flushed : (whole : List Item) (r : Result Fed AllocError) (s : S)
      → IsFed h xs (piped line (trace whole end.Done)) r s → Poured h line xs whole r [] s
  flushed whole (Ok fed.More) s p = (whole, sym (append-nil whole), p)
  flushed whole (Ok fed.Enough) s p = p
  flushed whole (Ok (fed.Fault f)) s p = p
  flushed whole (Err e) s p = p

  -- a walk that was stopped, whatever was to come
  pub poured_stopped : (whole more : List Item) (r : Result Fed AllocError) (pending : List Item) (s : S)
      → (r ≡ Ok fed.More → ⊥) → Poured h line xs whole r pending s → Poured h line xs (whole ++ more) r pending s
  poured_stopped whole more (Ok fed.More) pending s stopped p = absurd (stopped refl)
  poured_stopped whole more (Ok fed.Enough) pending s stopped p =
      IsFed_ended h line.first (stages_of line.stages.now) line.env.now xs whole more end.Done (Ok fed.Enough) s stopped
      p
  poured_stopped whole more (Ok (fed.Fault f)) pending s stopped p =
      IsFed_ended h line.first (stages_of line.stages.now) line.env.now xs whole more end.Done (Ok (fed.Fault f)) s
      stopped p
  poured_stopped whole more (Err e) pending s stopped p =
      IsFed_ended h line.first (stages_of line.stages.now) line.env.now xs whole more end.Done (Err e) s stopped p

  -- some of the items that come were added to those that wait
  pub holds_added : (whole zs : List Item) (p q : ℕ) (part pending pending' : List Item) (s : S)
      → Holds h line xs (whole ++ take p zs) pending s → pending' ≡ pending ++ part → take q zs ≡ take p zs ++ part
      → Holds h line xs (whole ++ take q zs) pending' s
  holds_added whole zs p q part pending pending' s held waits more =
      let longer = holds_more (whole ++ take p zs) pending part s held in
      let same : (whole ++ take p zs) ++ part ≡ whole ++ take q zs =
      append_assoc whole (take p zs) part ∙ ap (λ (ys : List Item). whole ++ ys) (sym more) in
      subst (λ (ys : List Item). Holds h line xs ys pending' s) same
      (subst (λ (ys : List Item). Holds h line xs ((whole ++ take p zs) ++ part) ys s) (sym waits) longer)

  pub poured_rest : (whole zs : List Item) (p : ℕ) (r : Result Fed AllocError) (pending : List Item) (s : S)
      → (r ≡ Ok fed.More → ⊥) → Poured h line xs (whole ++ take p zs) r pending s
      → Poured h line xs (whole ++ zs) r pending s
  poured_rest whole zs p r pending s stopped poured =
      let same : (whole ++ take p zs) ++ drop p zs ≡ whole ++ zs =
      append_assoc whole (take p zs) (drop p zs) ∙ ap (λ (ys : List Item). whole ++ ys) (take-append-drop p zs) in
      subst (λ (ys : List Item). Poured h line xs ys r pending s) same
      (poured_stopped (whole ++ take p zs) (drop p zs) r pending s stopped poured)

  -- and what was to come is any walk
  pub poured_cut : (whole : List Item) (later : Trace) (r : Result Fed AllocError) (pending : List Item) (s : S)
      → (r ≡ Ok fed.More → ⊥) → Poured h line xs whole r pending s
      → IsFed h xs (piped line (append (trace whole end.Done) later)) r s
  poured_cut whole later r pending s stopped p =
      let a : Trace = piped line (trace whole end.Done) in
      let b : Trace = piped line later in
      subst (λ (t : Trace). IsFed h xs t r s)
      (sym (pipe_append line.first (stages_of line.stages.now) line.env.now (trace whole end.Done) later))
      (IsFed_stopped h xs a b r s stopped (as_fed r stopped p))
    where
      as_fed : (r : Result Fed AllocError) → (r ≡ Ok fed.More → ⊥) → Poured h line xs whole r pending s
          → IsFed h xs (piped line (trace whole end.Done)) r s
      as_fed (Ok fed.More) stopped p = absurd (stopped refl)
      as_fed (Ok fed.Enough) stopped p = p
      as_fed (Ok (fed.Fault f)) stopped p = p
      as_fed (Err e) stopped p = p

module _ (f : Item → Trace) (os : List Item) (p : ℕ) (y : Item) where
  abbrev front : ℕ → Trace
  front i = each f (take i os) end.Done

  one_front : slice_get os p ≡ Some y → front (p + 1) ≡ append (front p) (append (f y) (trace [] end.Done))
  one_front here =
      let more : take (p + 1) os ≡ take p os ++ y ∷ [] =
      take_more os p y (slice_get_within os p y here)
      ∙ ap (λ (z : Item). take p os ++ z ∷ []) (get_or_from_slice_get os p y y here) in
      ap (λ (ys : List Item). each f ys end.Done) more
      ∙ each_append f (trace (take p os) end.Done) (trace (y ∷ []) end.Done)

  -- the items of one outer item more
  pub each_next : (zs : List Item) → slice_get os p ≡ Some y → (front p).ending ≡ end.Done → f y ≡ trace zs end.Done
      → front (p + 1) ≡ trace ((front p).items ++ zs) end.Done
  each_next zs here done gives =
      let one : append (f y) (trace [] end.Done) ≡ trace zs end.Done = append_nothing (f y) ∙ gives in
      one_front here ∙ ap (append (front p)) one ∙ ap (λ (e : End). then_on (front p).items e (trace zs end.Done)) done

  -- the outer items after the first ones
  pub each_rest : (i : ℕ) (e : End) → each f os e ≡ append (front i) (each f (drop i os) e)
  each_rest i e = ap (λ (ys : List Item). each f ys e) (sym (take-append-drop i os))
      ∙ each_append f (trace (take i os) end.Done) (trace (drop i os) e)

  -- one that has a fault ends the walk
  pub each_fault : (e : End) (fault : Fault) → slice_get os p ≡ Some y → (front p).ending ≡ end.Done
      → f y ≡ trace [] (end.Fault fault) → each f os e ≡ trace (front p).items (end.Fault fault)
  each_fault e fault here done gives =
      let one : append (f y) (trace [] end.Done) ≡ trace [] (end.Fault fault) = append_nothing (f y) ∙ gives in
      let first : front (p + 1) ≡ trace ((front p).items ++ []) (end.Fault fault) =
      one_front here ∙ ap (append (front p)) one
      ∙ ap (λ (e : End). then_on (front p).items e (trace [] (end.Fault fault))) done in
      let all = each_rest (p + 1) e ∙ append_faulted (front (p + 1)) (each f (drop (p + 1) os) e) fault
      (ap (λ (t : Trace). t.ending) first) in
      all ∙ first ∙ ap (λ (ys : List Item). trace ys (end.Fault fault)) (append-nil (front p).items)

-- all outer items
pub each_whole : (f : Item → Trace) (os : List Item) (i : ℕ) (e : End) → length os ≤ i
    → (each f (take i os) end.Done).ending ≡ end.Done → each f os e ≡ trace (each f (take i os) end.Done).items e
each_whole f os i e past done =
    let same : take i os ≡ os = take_all i os past in
    let ended : (each f os end.Done).ending ≡ end.Done =
    subst (λ (ys : List Item). (each f ys end.Done).ending ≡ end.Done) same done in
    let one = each_append f (trace os end.Done) (trace [] e) in
    let two : each f os e ≡ append (each f os end.Done) (trace [] e) =
    ap (λ (ys : List Item). each f ys e) (sym (append-nil os)) ∙ one in
    two ∙ ap (λ (d : End). then_on (each f os end.Done).items d (trace [] e)) ended
    ∙ ap (λ (ys : List Item). trace ys e) (append-nil (each f os end.Done).items)
    ∙ ap (λ (ys : List Item). trace (each f ys end.Done).items e) (sym same)

-- a walk that was stopped at one of the inner items is the walk of all outer items
pub inner_stopped : {S : Type 0} (h : S → List Item → Type 0) (line : Pipeline) (xs : List Item) (f : Item → Trace)
    (os : List Item) (p : ℕ) (y : Item) (zs : List Item) (e : End) (r : Result Fed AllocError) (pending : List Item)
    (s : S) → slice_get os p ≡ Some y → (each f (take p os) end.Done).ending ≡ end.Done → f y ≡ trace zs end.Done
    → (r ≡ Ok fed.More → ⊥) → Poured h line xs ((each f (take p os) end.Done).items ++ zs) r pending s
    → IsFed h xs (piped line (each f os e)) r s
inner_stopped h line xs f os p y zs e r pending s here done gives stopped poured =
    let whole : List Item = (each f (take p os) end.Done).items ++ zs in
    let later : Trace = each f (drop (p + 1) os) e in
    let next : each f (take (p + 1) os) end.Done ≡ trace whole end.Done = each_next f os p y zs here done gives in
    let all : each f os e ≡ append (trace whole end.Done) later =
    each_rest f os p y (p + 1) e ∙ ap (λ (t : Trace). append t later) next in
    subst (λ (t : Trace). IsFed h xs (piped line t) r s) (sym all)
    (poured_cut h line xs whole later r pending s stopped poured)
