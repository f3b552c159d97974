-- The answers of a terminal over two walks, as one.
use Rattle.std.proofs.Common.{◌≡◌, ℕ, ◌<◌, ℤ, pos, Bool, true, false, List, [], ◌∷◌, ◌++◌, length, Option, Some, None}
use Rattle.std.proofs.Common.{Result, Ok, Err, refl, sym, ap, ◌∙◌, arith}
use Rattle.std.specs.Prelude.{map as each_of, nat_lt, if◌then◌else◌}
use Rattle.std.specs.Ordering.{int_eq}
use Rattle.std.specs.Option.{option_or}
use Rattle.std.proofs.lemmas.Grind.{common_steps}
use Rattle.lambda_values.specs.declared.fault.FaultKind.{FaultKind}
use Rattle.lambda_values.specs.Earlier.{Numbers}
use Rattle.lambda_values.specs.Places.{truth_is_placeless}
use Rattle.lambda_values.specs.Term.{Truth}
use Rattle.lambda_values.specs.Value.{truth_value}
use Rattle.lambda_values.specs.Wrap.{wrap}
use Rattle.lambda_values.specs.declared.item.Item.{Item}
use Rattle.lambda_values.proofs.Placeless.{placeless_truth}
use Rattle.trace.specs.declared.item.Fault.{Fault}
use Rattle.trace.specs.declared.item.End.{End}
use Rattle.trace.specs.declared.item.End.TheVariants as end
use Rattle.trace.specs.Trace.{Trace, trace, then_on, append}
use Rattle.reduce_ops.specs.declared.op.Op.TheVariants as op
use Rattle.reduce_ops.specs.Folds.{fold_from, fold_items, total}
use Rattle.reduce_ops.specs.Operators.{value_of, identity_of}
use Rattle.find_ops.specs.declared.find_part.Found.{Found}
use Rattle.find_ops.specs.declared.find_part.Found.TheVariants as found
use Rattle.find_ops.specs.Finds.{Find, first, any_match, all_match, none_match, answer_of_none, if_true, if_false}
use Rattle.find_ops.specs.Finds.{tested, decision, first_decision, decision_at_end, decision_of, decided_or}
use Rattle.find_ops.proofs.DecisionLemmas.{decision_joined}
use Rattle.job_language.specs.Jobs.{AbstractTerminal, sum, count, min, max, to_array, reduce, reduce_from, find}
use Rattle.job_language.specs.Jobs.{exact_sum}
use Rattle.job_language.specs.Places.{terminal_is_placeless}
use Rattle.job_meaning.specs.declared.answer.Answer.{Answer}
use Rattle.job_meaning.specs.declared.answer.Answer.TheVariants as answer
use Rattle.job_meaning.specs.Walks.{answer_of, found_answer, unless_fault}
use Rattle.report_merge.specs.Mergeable.{is_identity, terminal_cause, unless}
use Rattle.report_merge.specs.declared.unmergeable.Unmergeable.TheVariants as cause
use Rattle.report_merge.specs.Merging.{after, beside, is_final, is_within, joined, moved, right_fault}
use Rattle.report_merge.proofs.FoldLemmas.{counts_join, folds_join, optionals_join, sums_join, values_join}
use Rattle.report_merge.proofs.LaterLemmas.{EndWithin, ItemsWithin, PlaceWithin, Within, later, later_end, later_item}
use Rattle.report_merge.proofs.LaterLemmas.{later_items}

chosen : {A : Type 0} (a b : A) (t : Bool) → t ≡ false → (if t then a else b) ≡ b
chosen a b true h = absurd (let z : true ≡ false = h in cc)
chosen a b false h = refl

below_test : (i m : ℕ) → i < m → nat_lt i m ≡ true
below_test i m h = grind (arith, common_steps)

place_test : (m : ℕ) (o : Option ℕ) → PlaceWithin m o → is_within m o ≡ true
place_test m None h = refl
place_test m (Some i) h = below_test i m h

fault_kept : (k m : ℕ) (f : Fault) → PlaceWithin m f.origin → right_fault k m f ≡ Some (answer.Fault (moved k f))
fault_kept k m f h = ap (λ (t : Bool). if t then Some (answer.Fault (moved k f)) else None) (place_test m f.origin h)

-- ---- terminals that ask for all items

module _ (d : AbstractTerminal) (A : List Item → Answer) (k m : ℕ)
    (open_left : (xs : List Item) → is_final (A xs) d ≡ false)
    (open_right : (a : Answer) (ys : List Item) → after (A ys) d k m a ≡ joined d a (A ys))
    (join : (xs ys : List Item) → joined d (A xs) (A ys) ≡ Some (A (xs ++ later_items k ys))) where
  ends_join : (xs : List Item) (e : End) (ys : List Item) (f : End) → EndWithin m f
      → beside d k m (unless_fault e (A xs)) (unless_fault f (A ys))
      ≡ Some (unless_fault (then_on xs e (later k (trace ys f))).ending
      (A (then_on xs e (later k (trace ys f))).items))
  ends_join xs (end.Fault g) ys f h = refl
  ends_join xs end.Done ys (end.Fault g) h =
      chosen (Some (A xs)) (right_fault k m g) (is_final (A xs) d) (open_left xs) ∙ fault_kept k m g h
  ends_join xs end.Done ys end.Done h = chosen (Some (A xs)) (after (A ys) d k m (A xs)) (is_final (A xs) d)
      (open_left xs) ∙ open_right (A xs) ys ∙ join xs ys

-- ---- terminals that look for an item

-- an item decides only what is final, and what an end decides is a fault
abbrev IsDecision : Find → Option (Result Found Fault) → Type 0
IsDecision d None = Unit {0}
IsDecision d (Some (Ok a)) = is_final (found_answer (Ok a)) (find d) ≡ true
IsDecision d (Some (Err f)) = Unit {0}

any_decides : (n : ℕ) (p : Truth) (x : Item) (r : Result Bool FaultKind)
    → IsDecision (any_match p) (tested n x (if_true (found.Truth true)) r)
any_decides n p x (Ok true) = refl
any_decides n p x (Ok false) = tt
any_decides n p x (Err f) = tt

all_decide : (n : ℕ) (p : Truth) (x : Item) (r : Result Bool FaultKind)
    → IsDecision (all_match p) (tested n x (if_false (found.Truth false)) r)
all_decide n p x (Ok true) = tt
all_decide n p x (Ok false) = refl
all_decide n p x (Err f) = tt

none_decides : (n : ℕ) (p : Truth) (x : Item) (r : Result Bool FaultKind)
    → IsDecision (none_match p) (tested n x (if_true (found.Truth false)) r)
none_decides n p x (Ok true) = refl
none_decides n p x (Ok false) = tt
none_decides n p x (Err f) = tt

module _ (n : ℕ) (env : Numbers) where
  item_decides : (d : Find) (x : Item) → IsDecision d (decision d n env x)
  item_decides first x = refl
  item_decides (any_match p) x = any_decides n p x (truth_value p x env)
  item_decides (all_match p) x = all_decide n p x (truth_value p x env)
  item_decides (none_match p) x = none_decides n p x (truth_value p x env)

  or_decides : (d : Find) (u v : Option (Result Found Fault)) → IsDecision d u → IsDecision d v
      → IsDecision d (option_or u v)
  or_decides d None v h k = k
  or_decides d (Some r) v h k = h

  items_decide : (d : Find) (xs : List Item) → IsDecision d (first_decision d n env xs)
  items_decide d [] = tt
  items_decide d (x ∷ xs) = or_decides d (decision d n env x) (first_decision d n env xs) (item_decides d x)
      (items_decide d xs)

  end_decides : (d : Find) (e : End) → IsDecision d (decision_at_end e)
  end_decides d end.Done = tt
  end_decides d (end.Fault f) = tt

  walk_decides : (d : Find) (t : Trace) → IsDecision d (decision_of d n env t)
  walk_decides d t = or_decides d (first_decision d n env t.items) (decision_at_end t.ending) (items_decide d t.items)
      (end_decides d t.ending)

-- a decision, its place moved by k
abbrev later_decision : ℕ → Option (Result Found Fault) → Option (Result Found Fault)
later_decision k None = None
later_decision k (Some (Ok a)) = Some (Ok a)
later_decision k (Some (Err f)) = Some (Err (moved k f))

test_later : (k n : ℕ) (x : Item) (a : Found) (r : Result Bool FaultKind)
    → tested n (later_item k x) (if_true a) r ≡ later_decision k (tested n x (if_true a) r)
test_later k n x a (Ok true) = refl
test_later k n x a (Ok false) = refl
test_later k n x a (Err f) = refl

failed_later : (k n : ℕ) (x : Item) (a : Found) (r : Result Bool FaultKind)
    → tested n (later_item k x) (if_false a) r ≡ later_decision k (tested n x (if_false a) r)
failed_later k n x a (Ok true) = refl
failed_later k n x a (Ok false) = refl
failed_later k n x a (Err f) = refl

-- the test of a find has neither cells nor rows
abbrev pub IsPlaceless : Find → Type 0
IsPlaceless d = terminal_is_placeless (find d) ≡ true

module _ (k n : ℕ) (env : Numbers) where
  test_same : (p : Truth) (x : Item) → truth_is_placeless p ≡ true
      → truth_value p (later_item k x) env ≡ truth_value p x env
  test_same p x h = placeless_truth p (later_item k x) x env env refl refl h

  decision_later : (d : Find) (x : Item) → IsPlaceless d
      → decision d n env (later_item k x) ≡ later_decision k (decision d n env x)
  decision_later first x h = refl
  decision_later (any_match p) x h = ap (tested n (later_item k x) (if_true (found.Truth true))) (test_same p x h)
      ∙ test_later k n x (found.Truth true) (truth_value p x env)
  decision_later (all_match p) x h = ap (tested n (later_item k x) (if_false (found.Truth false))) (test_same p x h)
      ∙ failed_later k n x (found.Truth false) (truth_value p x env)
  decision_later (none_match p) x h = ap (tested n (later_item k x) (if_true (found.Truth false))) (test_same p x h)
      ∙ test_later k n x (found.Truth false) (truth_value p x env)

  or_later : (u v : Option (Result Found Fault))
      → option_or (later_decision k u) (later_decision k v) ≡ later_decision k (option_or u v)
  or_later None v = refl
  or_later (Some (Ok a)) v = refl
  or_later (Some (Err f)) v = refl

  items_later : (d : Find) (xs : List Item) → IsPlaceless d
      → first_decision d n env (later_items k xs) ≡ later_decision k (first_decision d n env xs)
  items_later d [] h = refl
  items_later d (x ∷ xs) h =
      ap (λ o. option_or o (first_decision d n env (later_items k xs))) (decision_later d x h)
      ∙ ap (option_or (later_decision k (decision d n env x))) (items_later d xs h)
      ∙ or_later (decision d n env x) (first_decision d n env xs)

  end_later : (e : End) → decision_at_end (later_end k e) ≡ later_decision k (decision_at_end e)
  end_later end.Done = refl
  end_later (end.Fault f) = refl

  walk_later : (d : Find) (t : Trace) → IsPlaceless d
      → decision_of d n env (later k t) ≡ later_decision k (decision_of d n env t)
  walk_later d t h =
      ap (λ o. option_or o (decision_at_end (later_end k t.ending))) (items_later d t.items h)
      ∙ ap (option_or (later_decision k (first_decision d n env t.items))) (end_later t.ending)
      ∙ or_later (first_decision d n env t.items) (decision_at_end t.ending)

-- a fault that a walk decides is within it
abbrev FaultWithin : ℕ → Option (Result Found Fault) → Type 0
FaultWithin m None = Unit {0}
FaultWithin m (Some (Ok a)) = Unit {0}
FaultWithin m (Some (Err f)) = PlaceWithin m f.origin

true_within : (m n : ℕ) (x : Item) (a : Found) (r : Result Bool FaultKind) → x.origin < m
    → FaultWithin m (tested n x (if_true a) r)
true_within m n x a (Ok true) h = tt
true_within m n x a (Ok false) h = tt
true_within m n x a (Err f) h = h

false_within : (m n : ℕ) (x : Item) (a : Found) (r : Result Bool FaultKind) → x.origin < m
    → FaultWithin m (tested n x (if_false a) r)
false_within m n x a (Ok true) h = tt
false_within m n x a (Ok false) h = tt
false_within m n x a (Err f) h = h

module _ (m n : ℕ) (env : Numbers) where
  decision_within : (d : Find) (x : Item) → x.origin < m → FaultWithin m (decision d n env x)
  decision_within first x h = tt
  decision_within (any_match p) x h = true_within m n x (found.Truth true) (truth_value p x env) h
  decision_within (all_match p) x h = false_within m n x (found.Truth false) (truth_value p x env) h
  decision_within (none_match p) x h = true_within m n x (found.Truth false) (truth_value p x env) h

  or_within : (u v : Option (Result Found Fault)) → FaultWithin m u → FaultWithin m v → FaultWithin m (option_or u v)
  or_within None v h k = k
  or_within (Some r) v h k = h

  items_within : (d : Find) (xs : List Item) → ItemsWithin m xs → FaultWithin m (first_decision d n env xs)
  items_within d [] h = tt
  items_within d (x ∷ xs) h = or_within (decision d n env x) (first_decision d n env xs) (decision_within d x h.0)
      (items_within d xs h.1)

  end_within : (e : End) → EndWithin m e → FaultWithin m (decision_at_end e)
  end_within end.Done h = tt
  end_within (end.Fault f) h = h

  walk_within : (d : Find) (t : Trace) → Within m t → FaultWithin m (decision_of d n env t)
  walk_within d t w = or_within (first_decision d n env t.items) (decision_at_end t.ending)
      (items_within d t.items w.items) (end_within t.ending w.ending)

-- what a find answers that decides this, or nothing
abbrev answered : Find → Option (Result Found Fault) → Answer
answered d u = found_answer (decided_or (answer_of_none d) u)

impossible : {A : Type 0} → false ≡ true → A
impossible h = absurd (let z : false ≡ true = h in cc)

-- after a left walk that decides nothing
nothing_first : (d : Find) (k m : ℕ) (v : Option (Result Found Fault)) → IsDecision d v → FaultWithin m v
    → beside (find d) k m (answered d None) (answered d v) ≡ Some (answered d (later_decision k v))
nothing_first first k m None h w = refl
nothing_first first k m (Some (Ok (found.Value v))) h w = refl
nothing_first first k m (Some (Ok (found.Truth b))) h w = impossible h
nothing_first first k m (Some (Err f)) h w = fault_kept k m f w
nothing_first (any_match p) k m None h w = refl
nothing_first (any_match p) k m (Some (Ok (found.Value v))) h w = impossible h
nothing_first (any_match p) k m (Some (Ok (found.Truth b))) h w = refl
nothing_first (any_match p) k m (Some (Err f)) h w = fault_kept k m f w
nothing_first (all_match p) k m None h w = refl
nothing_first (all_match p) k m (Some (Ok (found.Value v))) h w = impossible h
nothing_first (all_match p) k m (Some (Ok (found.Truth b))) h w = refl
nothing_first (all_match p) k m (Some (Err f)) h w = fault_kept k m f w
nothing_first (none_match p) k m None h w = refl
nothing_first (none_match p) k m (Some (Ok (found.Value v))) h w = impossible h
nothing_first (none_match p) k m (Some (Ok (found.Truth b))) h w = refl
nothing_first (none_match p) k m (Some (Err f)) h w = fault_kept k m f w

finds_join : (d : Find) (k m : ℕ) (u v : Option (Result Found Fault)) → IsDecision d u → IsDecision d v
    → FaultWithin m v
    → beside (find d) k m (answered d u) (answered d v) ≡ Some (answered d (option_or u (later_decision k v)))
finds_join d k m None v g h w = nothing_first d k m v h w
finds_join d k m (Some (Err f)) v g h w = refl
finds_join d k m (Some (Ok a)) v g h w =
    ap (λ (t : Bool). if t then Some (answered d (Some (Ok a)))
    else after (answered d v) (find d) k m (answered d (Some (Ok a)))) g

-- ---- all terminals

same_number : (o : Option ℤ) (a : ℤ) → unless (is_identity o a) cause.NoIdentity ≡ None → o ≡ Some a
same_number None a h = absurd cc
same_number (Some i) a h = ap Some (equal i a (int_eq i a) refl h)
  where
    equal : (i a : ℤ) (t : Bool) → int_eq i a ≡ t → unless t cause.NoIdentity ≡ None → i ≡ a
    equal i a true e h = grind (arith, common_steps)
    equal i a false e h = absurd cc

-- the answers over two walks, merged: the answer over both as one, where the second begins k places later
pub answers_join : (d : AbstractTerminal) (n : ℕ) (env : Numbers) (k m : ℕ) (t u : Trace) → terminal_cause d ≡ None
    → terminal_is_placeless d ≡ true → Within m u
    → beside d k m (answer_of n env d t) (answer_of n env d u) ≡ Some (answer_of n env d (append t (later k u)))
answers_join sum n env k m t u c p w =
    ends_join sum (λ (xs : List Item). answer.Number (wrap (total xs))) k m (λ xs. refl) (λ a ys. refl)
    (λ xs ys. ap (λ z. Some (answer.Number z)) (sums_join k xs ys)) t.items t.ending u.items u.ending w.ending
answers_join count n env k m t u c p w =
    ends_join count (λ (xs : List Item). answer.Number (wrap (pos (length xs)))) k m (λ xs. refl) (λ a ys. refl)
    (λ xs ys. ap (λ z. Some (answer.Number z)) (counts_join k xs ys)) t.items t.ending u.items u.ending w.ending
answers_join min n env k m t u c p w =
    ends_join min (λ (xs : List Item). answer.Optional (fold_items (value_of op.Min) xs)) k m (λ xs. refl)
    (λ a ys. refl) (λ xs ys. ap (λ o. Some (answer.Optional o)) (optionals_join op.Min k xs ys)) t.items t.ending
    u.items u.ending w.ending
answers_join max n env k m t u c p w =
    ends_join max (λ (xs : List Item). answer.Optional (fold_items (value_of op.Max) xs)) k m (λ xs. refl)
    (λ a ys. refl) (λ xs ys. ap (λ o. Some (answer.Optional o)) (optionals_join op.Max k xs ys)) t.items t.ending
    u.items u.ending w.ending
answers_join to_array n env k m t u c p w =
    ends_join to_array (λ (xs : List Item). answer.Array (each_of (λ (x : Item). x.value) xs)) k m (λ xs. refl)
    (λ a ys. refl) (λ xs ys. ap (λ (vs : List ℤ). Some (answer.Array vs)) (values_join k xs ys)) t.items t.ending
    u.items u.ending w.ending
answers_join (reduce f) n env k m t u c p w =
    ends_join (reduce f) (λ (xs : List Item). answer.Optional (fold_items (value_of f) xs)) k m (λ xs. refl)
    (λ a ys. refl) (λ xs ys. ap (λ o. Some (answer.Optional o)) (optionals_join f k xs ys)) t.items t.ending u.items
    u.ending w.ending
answers_join (reduce_from a f) n env k m t u c p w =
    let e = same_number (identity_of f) a c in
    ends_join (reduce_from a f) (λ (xs : List Item). answer.Number (fold_from (value_of f) a xs)) k m (λ xs. refl)
    (λ b ys. refl) (λ xs ys. ap (λ z. Some (answer.Number z)) (folds_join f a k xs ys e)) t.items t.ending u.items
    u.ending w.ending
answers_join (find d) n env k m t u c p w =
    finds_join d k m (decision_of d n env t) (decision_of d n env u) (walk_decides n env d t) (walk_decides n env d u)
    (walk_within m n env d u w)
    ∙ ap (λ o. Some (answered d o)) (ap (option_or (decision_of d n env t)) (sym (walk_later k n env d u p))
    ∙ sym (decision_joined d n env t (later k u)))
answers_join exact_sum n env k m t u c p w = absurd cc

-- ---- over another table

module _ (n : ℕ) (a b : Numbers) (same : a.earlier ≡ b.earlier) where
  decision_over : (d : Find) (x : Item) → IsPlaceless d → decision d n a x ≡ decision d n b x
  decision_over first x p = refl
  decision_over (any_match t) x p = ap (tested n x (if_true (found.Truth true))) (placeless_truth t x x a b refl same p)
  decision_over (all_match t) x p = ap (tested n x (if_false (found.Truth false)))
      (placeless_truth t x x a b refl same p)
  decision_over (none_match t) x p = ap (tested n x (if_true (found.Truth false)))
      (placeless_truth t x x a b refl same p)

  items_over : (d : Find) (xs : List Item) → IsPlaceless d → first_decision d n a xs ≡ first_decision d n b xs
  items_over d [] p = refl
  items_over d (x ∷ xs) p = λ i. option_or (decision_over d x p i) (items_over d xs p i)

  -- a terminal without cells and rows doesn't look at the table
  pub answer_over : (d : AbstractTerminal) (t : Trace) → terminal_is_placeless d ≡ true
      → answer_of n a d t ≡ answer_of n b d t
  answer_over sum t p = refl
  answer_over count t p = refl
  answer_over min t p = refl
  answer_over max t p = refl
  answer_over to_array t p = refl
  answer_over (reduce f) t p = refl
  answer_over (reduce_from i f) t p = refl
  answer_over (find d) t p = ap (λ o. answered d (option_or o (decision_at_end t.ending))) (items_over d t.items p)
  answer_over exact_sum t p = refl
