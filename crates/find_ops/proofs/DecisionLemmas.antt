-- What joined walks decide.
use Rattle.std.proofs.Common.{◌≡◌, ◌≢◌, ℕ, List, [], ◌∷◌, ◌++◌, true, false, is_some, drop, flat_map, length, Result}
use Rattle.std.proofs.Common.{get_or, Option, Some, None, refl, sym, ap, ◌∙◌, arith, ◌<◌, ◌≤◌, ◌+◌, suc, slice_get}
use Rattle.std.proofs.Common.{take}
use Rattle.std.proofs.lemmas.List.{take-append-drop, drop_all}
use Rattle.std.specs.Option.{option_or}
use Rattle.std.proofs.lemmas.Option.{slice_get_within, get_or_from_slice_get}
use Rattle.std.proofs.Math.Seq.{drop-cons}
use Rattle.lambda_values.specs.declared.item.Item.{Item}
use Rattle.trace.specs.declared.item.Fault.{Fault}
use Rattle.trace.specs.declared.item.End.{End}
use Rattle.trace.specs.declared.item.End.TheVariants as end
use Rattle.trace.specs.Trace.{Trace, trace, then_on, append}
use Rattle.find_ops.specs.declared.find_part.Found.{Found}
use Rattle.find_ops.specs.declared.find_part.FindPart.{FindPart}
use Rattle.lambda_values.specs.Earlier.{Numbers}
use Rattle.find_ops.specs.Finds.{Find, decision, first_decision, decision_at_end, decision_of, decided_or, find_answer}
use Rattle.find_ops.specs.Finds.{answer_of_none}
use Rattle.find_ops.specs.Parts.{StandsFor}

or_grouped : {A : Type 0} → (a b c : Option A) → option_or (option_or a b) c ≡ option_or a (option_or b c)
or_grouped (Some a) b c = refl
or_grouped None b c = refl

pub or_none : {A : Type 0} → (a : Option A) → option_or a None ≡ a
or_none (Some a) = refl
or_none None = refl

some_kept : {A : Type 0} → (u v : Option A) → is_some u ≡ true → option_or u v ≡ u
some_kept (Some a) v h = refl
some_kept None v h = absurd (let z : false ≡ true = h in cc)

pub open_or : {A : Type 0} → (u v : Option A) → is_some u ≡ false → option_or u v ≡ v
open_or (Some a) v h = absurd (let z : true ≡ false = h in cc)
open_or None v h = refl

module _ (d : Find) (n : ℕ) (env : Numbers) where
  pub first_joined : (xs ys : List Item)
      → first_decision d n env (xs ++ ys) ≡ option_or (first_decision d n env xs) (first_decision d n env ys)
  first_joined [] ys = refl
  first_joined (x ∷ xs) ys = ap (option_or (decision d n env x)) (first_joined xs ys)
      ∙ sym (or_grouped (decision d n env x) (first_decision d n env xs) (first_decision d n env ys))

  on_end : (xs : List Item) (e : End) (b : Trace)
      → decision_of d n env (then_on xs e b) ≡ option_or (decision_of d n env (trace xs e)) (decision_of d n env b)
  on_end xs end.Done b =
      ap (λ o. option_or o (decision_at_end b.ending)) (first_joined xs b.items)
      ∙ or_grouped (first_decision d n env xs) (first_decision d n env b.items) (decision_at_end b.ending)
      ∙ ap (λ o. option_or o (decision_of d n env b)) (sym (or_none (first_decision d n env xs)))
  on_end xs (end.Fault f) b = sym (or_grouped (first_decision d n env xs) (decision_at_end (end.Fault f))
      (decision_of d n env b))

  -- the left walk decides, or else the right one
  pub decision_joined : (a b : Trace) → decision_of d n env (append a b)
      ≡ option_or (decision_of d n env a) (decision_of d n env b)
  decision_joined a b = on_end a.items a.ending b

  kept : {A : Type 0} → (u v : Option A) → u ≢ None → option_or u v ≡ u
  kept (Some a) v h = refl
  kept None v h = absurd (h refl)

  pub decided_stays : (a b : Trace) → decision_of d n env a ≢ None
      → find_answer d n env (append a b) ≡ find_answer d n env a
  decided_stays a b h = ap (decided_or (answer_of_none d))
      (decision_joined a b ∙ kept (decision_of d n env a) (decision_of d n env b) h)

  -- parts side by side
  pub merged : (p q r : FindPart) (a b : Trace) → StandsFor d n env p a → StandsFor d n env q b
      → r.decision ≡ option_or p.decision q.decision → r.otherwise ≡ p.otherwise → StandsFor d n env r (append a b)
  merged p q r a b sa sb e o = record {
    decision = e ∙ (λ i. option_or (sa.decision i) (sb.decision i)) ∙ sym (decision_joined a b);
    otherwise = o ∙ sa.otherwise;
  }

  -- a loop over the items goes on where one doesn't decide, and ends where one does
  pub first_step : (xs : List Item) (i : ℕ) (x : Item) → i < length xs → x ≡ get_or xs i x
      → first_decision d n env (drop i xs) ≡ option_or (decision d n env x) (first_decision d n env (drop (i + 1) xs))
  first_step xs i x h e =
      let k : suc i ≡ i + 1 = omega arith in
      ap (first_decision d n env) (drop-cons xs i x h)
      ∙ (λ j. option_or (decision d n env (sym e j)) (first_decision d n env (drop (k j) xs)))

  one_item : (x : Item) → StandsFor d n env (record { decision = decision d n env x; otherwise = answer_of_none d })
      (trace (x ∷ []) end.Done)
  one_item x = record {
    decision = sym (or_none (option_or (decision d n env x) None) ∙ or_none (decision d n env x));
    otherwise = refl;
  }

  -- one more item is looked at, if nothing was decided before it
  pub looked : (p r : FindPart) (t : Trace) (x : Item) → StandsFor d n env p t
      → r.decision ≡ option_or p.decision (decision d n env x) → r.otherwise ≡ p.otherwise
      → StandsFor d n env r (append t (trace (x ∷ []) end.Done))
  looked p r t x s e o = merged p (record { decision = decision d n env x; otherwise = answer_of_none d }) r t
      (trace (x ∷ []) end.Done) s (one_item x) e o

  -- the piece ends
  pub ended : (p r : FindPart) (t : Trace) (e : End) → StandsFor d n env p t
      → r.decision ≡ option_or p.decision (decision_at_end e) → r.otherwise ≡ p.otherwise
      → StandsFor d n env r (append t (trace [] e))
  ended p r t e s k o = merged p (record { decision = decision_at_end e; otherwise = answer_of_none d }) r t
      (trace [] e) s (record { decision = refl; otherwise = refl }) k o

  -- what is decided stays
  pub settled : (p : FindPart) (a b : Trace) → is_some p.decision ≡ true → StandsFor d n env p a
      → StandsFor d n env p (append a b)
  settled p a b h s = merged p (record { decision = decision_of d n env b; otherwise = answer_of_none d }) p a b s
      (record { decision = refl; otherwise = refl }) (sym (some_kept p.decision (decision_of d n env b) h)) refl

  -- what is decided stays, in a loop over pieces
  pub piece_step : {X : Type 0} (f : X → List Item) (ps : List X) (i : ℕ) (p : X) → i < length ps → p ≡ get_or ps i p
      → first_decision d n env (flat_map f (drop i ps))
      ≡ option_or (first_decision d n env (f p)) (first_decision d n env (flat_map f (drop (i + 1) ps)))
  piece_step f ps i p h e =
      let k : suc i ≡ i + 1 = omega arith in
      ap (λ qs. first_decision d n env (flat_map f qs)) (drop-cons ps i p h)
      ∙ (λ j. first_decision d n env (f (sym e j) ++ flat_map f (drop (k j) ps)))
      ∙ first_joined (f p) (flat_map f (drop (i + 1) ps))

  -- a piece that decides, and one that doesn't
  pub piece_decides : {X : Type 0} (f : X → List Item) (ps : List X) (i : ℕ) (p : X) (r : Result Found Fault)
      → i < length ps → p ≡ get_or ps i p → first_decision d n env (f p) ≡ Some r
      → first_decision d n env (flat_map f (drop i ps)) ≡ Some r
  piece_decides f ps i p r h e k = piece_step f ps i p h e
      ∙ ap (λ o. option_or o (first_decision d n env (flat_map f (drop (i + 1) ps)))) k

  pub piece_passed : {X : Type 0} (f : X → List Item) (ps : List X) (i : ℕ) (p : X) → i < length ps → p ≡ get_or ps i p
      → first_decision d n env (f p) ≡ None
      → first_decision d n env (flat_map f (drop i ps)) ≡ first_decision d n env (flat_map f (drop (i + 1) ps))
  piece_passed f ps i p h e k = piece_step f ps i p h e
      ∙ ap (λ o. option_or o (first_decision d n env (flat_map f (drop (i + 1) ps)))) k

  -- items whose first ones decide nothing, and a loop over the others
  pub decided_later : (xs : List Item) (i : ℕ) → first_decision d n env (take i xs) ≡ None
      → first_decision d n env (drop i xs) ≡ first_decision d n env xs
  decided_later xs i h =
      ap (λ o. option_or o (first_decision d n env (drop i xs))) (sym h) ∙ sym (first_joined (take i xs) (drop i xs))
      ∙ ap (first_decision d n env) (take-append-drop i xs)

  pub later_step : (xs : List Item) (i : ℕ) (x : Item) → slice_get xs i ≡ Some x
      → first_decision d n env (drop i xs) ≡ option_or (decision d n env x) (first_decision d n env (drop (i + 1) xs))
  later_step xs i x here = first_step xs i x (slice_get_within xs i x here) (sym (get_or_from_slice_get xs i x x here))

  pub none_later : (xs : List Item) (i : ℕ) → length xs ≤ i → first_decision d n env (drop i xs) ≡ None
  none_later xs i h = ap (first_decision d n env) (drop_all i xs h)

  -- the items of a whole source are looked at
  pub looked_on : (p r : FindPart) (t : Trace) (xs : List Item) → StandsFor d n env p t
      → r.decision ≡ option_or p.decision (first_decision d n env xs) → r.otherwise ≡ p.otherwise
      → StandsFor d n env r (append t (trace xs end.Done))
  looked_on p r t xs s e o = merged p (record { decision = first_decision d n env xs; otherwise = answer_of_none d }) r
      t (trace xs end.Done) s (record { decision = sym (or_none (first_decision d n env xs)); otherwise = refl }) e o
