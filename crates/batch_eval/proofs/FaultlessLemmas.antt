-- Stages that are maps, and expressions and stages that can't have a fault.
use Rattle.std.proofs.Common.{◌≡◌, ℕ, suc, ℤ, pos, ◌≤◌, if◌then◌else◌, Bool, true, false, not, List, [], ◌∷◌, ◌++◌}
use Rattle.std.proofs.Common.{length, length-append, Result, Ok, Err, Option, Some, None, IfSome, refl, sym, ap, subst}
use Rattle.std.proofs.Common.{◌∙◌, le_trans, arith, ◌++◌, OnErr}
use Rattle.std.specs.Ordering.{int_eq}
use Rattle.std.specs.Prelude.{is_some}
use Rattle.lambda_values.specs.Earlier.{Numbers, nothing_named}
use Rattle.lambda_values.specs.Operators.{BinaryRule, UnaryRule, always, always_one, binary_by, binary_faults}
use Rattle.lambda_values.specs.Operators.{binary_faults_by, binary_rule, binary_value, comparison_value, divided}
use Rattle.lambda_values.specs.Operators.{exactly, exactly_one, on, unary_by, unary_faults, unary_faults_by, unary_rule}
use Rattle.lambda_values.specs.Operators.{unary_value, unless_zero}
use Rattle.lambda_values.specs.Term.{Long, reference, cell, row, unary, binary, choose, Truth, compare, opposite}
use Rattle.lambda_values.specs.Term.{connect, choose_truth}
use Rattle.lambda_values.specs.Value.{chosen, long_value, truth_value}
use Rattle.lambda_values.specs.declared.fault.FaultKind.{FaultKind}
use Rattle.lambda_values.specs.declared.fault.FaultKind.TheVariants.{DivideByZero}
use Rattle.lambda_values.specs.declared.operator.BinaryOperator.{BinaryOperator}
use Rattle.lambda_values.specs.declared.operator.Comparison.{Comparison}
use Rattle.lambda_values.specs.declared.operator.Connective.{Connective}
use Rattle.lambda_values.specs.declared.operator.Connective.TheVariants as connective
use Rattle.lambda_values.specs.declared.operator.Faults.TheVariants as faults
use Rattle.lambda_values.specs.declared.operator.UnaryOperator.{UnaryOperator}
use Rattle.trace.specs.Stages.{AbstractStage, map, filter, image, of_item, passed, pipe, through}
use Rattle.trace.specs.Trace.{Trace, trace, append, nothing}
use Rattle.lambda_values.specs.declared.item.Item.{Item}
use Rattle.trace.specs.declared.item.End.{End}
use Rattle.trace.specs.declared.item.Fault.{Fault}
use Rattle.trace.specs.declared.item.End.TheVariants as end
use Rattle.batch_eval.specs.Faultless.{Agree, AreFaultless, AreMaps, HasTruths, HasValues, left_with, left_by, one_or}
use Rattle.std.specs.declared.alloc.AllocError.{AllocError}
use Rattle.trace.specs.Sinks.{IsFed, flow_after}
use Rattle.trace.specs.declared.feeding.Fed.{Fed}
use Rattle.trace.specs.declared.feeding.Fed.TheVariants as fed
use Rattle.trace.specs.declared.sink.Flow.TheVariants as flow
use Rattle.trace.proofs.JoinLemmas.{pipe_ended, pipe_more}

pub when_some : {A P Q : Type 0} (o : Option A) → (P → Q) → IfSome o (λ _. P) → IfSome o (λ _. Q)
when_some None f h = h
when_some (Some a) f h = f h

pub when_there : {A P : Type 0} (o : Option A) → is_some o ≡ true → IfSome o (λ _. P) → P
when_there None there h = absurd cc
when_there (Some a) there h = h

-- ---- maps

pub no_maps : AreMaps []
no_maps m env x = (Ok x, refl)

pub more_maps : (e : Long) (gs : List AbstractStage) → AreMaps gs → AreMaps (map e ∷ gs)
more_maps e gs h m env x = by (long_value e x env)
  where
    by : (r : Result ℤ FaultKind) → (made : Result Item Fault)
        × (pipe (suc m) gs env (append (image m x r) nothing) ≡ one_or made)
    by (Ok v) = h (suc m) env (record { origin = x.origin; value = v })
    by (Err k) = (Err _, pipe_ended (suc m) gs env _)

-- ---- operators

abbrev HasValue : Result ℤ FaultKind → Type 0
HasValue r = (v : ℤ) × (r ≡ Ok v)

pub unary_there : (o : UnaryOperator) → unary_faults o ≡ faults.Never → (v : ℤ) → HasValue (unary_value o v)
unary_there o never v = by (unary_rule o) never
  where
    by : (r : UnaryRule) → unary_faults_by r ≡ faults.Never → HasValue (unary_by r v)
    by (always_one f) h = (_, refl)
    by (exactly_one f) h = absurd cc

pub binary_there : (o : BinaryOperator) → binary_faults o ≡ faults.Never → (v w : ℤ) → HasValue (binary_value o v w)
binary_there o never v w = by (binary_rule o) never
  where
    by : (r : BinaryRule) → binary_faults_by r ≡ faults.Never → HasValue (binary_by r v w)
    by (always f) h = (_, refl)
    by (unless_zero f) h = absurd cc
    by (exactly f) h = absurd cc

-- with a number other than 0 on the right
pub divided_there : (o : BinaryOperator) → binary_faults o ≡ faults.ByZero → (v w : ℤ) → int_eq w (pos 0) ≡ false
    → HasValue (binary_value o v w)
divided_there o zero v w some = by (binary_rule o) zero
  where
    divides : (z : ℤ) → HasValue (divided w z)
    divides z = (z, ap (λ (b : Bool). if b then Err DivideByZero else Ok z) some)

    by : (r : BinaryRule) → binary_faults_by r ≡ faults.ByZero → HasValue (binary_by r v w)
    by (always f) h = absurd cc
    by (unless_zero f) h = divides _
    by (exactly f) h = absurd cc

pub divisor_value : (b : Long) (x : Item) (env : Numbers) (z w : ℤ) → int_eq z (pos 0) ≡ false
    → long_value b x env ≡ Ok z → long_value b x env ≡ Ok w → int_eq w (pos 0) ≡ false
divisor_value b x env z w some is also = subst (λ (y : ℤ). int_eq y (pos 0) ≡ false) (one (sym is ∙ also)) some
  where
    made : ℤ → Result ℤ FaultKind
    made y = Ok y

    one : made z ≡ Ok w → z ≡ w
    one h = cc

-- ---- expressions and tests

pub agrees : (names : Bool) (env : Numbers) → Agree names env env
agrees true env = refl
agrees false env = tt

pub reference_values : (names : Bool) (name : List ℕ) → names ≡ true → HasValues names (reference name)
reference_values true name h env x = (_, λ other same. ap (λ ns. long_value (reference name) x ns) same)
reference_values false name h env x = absurd cc

pub cell_values : (names : Bool) (name : List ℕ) → names ≡ true → HasValues names (cell name)
cell_values true name h env x = (_, λ other same. ap (λ ns. long_value (cell name) x ns) same)
cell_values false name h env x = absurd cc

pub row_values : (names : Bool) → HasValues names row
row_values names env x = (_, λ other same. refl)

pub unary_values : (names : Bool) (o : UnaryOperator) (a : Long) → ((v : ℤ) → HasValue (unary_value o v))
    → HasValues names a → HasValues names (unary o a)
unary_values names o a total h env x =
    let v = h env x in
    let w = total v.0 in
    (w.0, λ other same. ap (λ r. on r (λ n. unary_value o n)) (v.1 other same) ∙ w.1)

pub binary_values : (names : Bool) (o : BinaryOperator) (a b : Long)
    → ((x : Item) (env : Numbers) (v w : ℤ) → long_value b x env ≡ Ok w → HasValue (binary_value o v w))
    → HasValues names a → HasValues names b
    → HasValues names (binary o a b)
binary_values names o a b total h k env x =
    let v = h env x in
    let w = k env x in
    let u = total x env v.0 w.0 (w.1 env (agrees names env)) in (
      u.0,
      λ other same. ap (λ r. on r (λ n. on (long_value b x other) (λ m. binary_value o n m))) (v.1 other same)
          ∙ ap (λ r. on r (λ m. binary_value o v.0 m)) (w.1 other same) ∙ u.1,
    )

choose_by : {A : Type 0} {S : Numbers → Type 0} (c : Truth) (x : Item) (p q : Numbers → Result A FaultKind)
    → ((b : Bool) × ((env : Numbers) → S env → truth_value c x env ≡ Ok b))
    → ((v : A) × ((env : Numbers) → S env → p env ≡ Ok v))
    → ((v : A) × ((env : Numbers) → S env → q env ≡ Ok v))
    → (v : A) × ((env : Numbers) → S env → on (truth_value c x env) (λ t. chosen t (p env) (q env)) ≡ Ok v)
choose_by c x p q (true, is) h k = (h.0, λ env s. ap (λ r. on r (λ t. chosen t (p env) (q env))) (is env s) ∙ h.1 env s)
choose_by c x p q (false, is) h k = (
  k.0,
  λ env s. ap (λ r. on r (λ t. chosen t (p env) (q env))) (is env s) ∙ k.1 env s,
)

pub choose_values : (names : Bool) (c : Truth) (a b : Long) → HasTruths names c → HasValues names a → HasValues names b
    → HasValues names (choose c a b)
choose_values names c a b t h k env x = choose_by c x (long_value a x) (long_value b x) (t env x) (h env x) (k env x)

pub compare_truths : (names : Bool) (o : Comparison) (a b : Long) → HasValues names a → HasValues names b
    → HasTruths names (compare o a b)
compare_truths names o a b h k env x =
    let v = h env x in
    let w = k env x in (
      comparison_value o v.0 w.0,
      λ other same. ap
          (λ r. on r (λ n. on (long_value b x other) (λ m. Ok (comparison_value o n m)))) (v.1 other same)
          ∙ ap (λ r. on r (λ m. Ok (comparison_value o v.0 m))) (w.1 other same),
    )

pub opposite_truths : (names : Bool) (p : Truth) → HasTruths names p → HasTruths names (opposite p)
opposite_truths names p h env x = (
  not (h env x).0,
  λ other same. ap (λ r. on r (λ s. Ok (not s))) ((h env x).1 other same),
)

pub connect_truths : (names : Bool) (o : Connective) (p q : Truth) → HasTruths names p → HasTruths names q
    → HasTruths names (connect o p q)
connect_truths names connective.And p q h k env x =
    choose_by p x (truth_value q x) (λ ns. Ok false) (h env x) (k env x) (false, λ ns s. refl)
connect_truths names connective.Or p q h k env x =
    choose_by p x (λ ns. Ok true) (truth_value q x) (h env x) (true, λ ns s. refl) (k env x)

pub choose_truths : (names : Bool) (c p q : Truth) → HasTruths names c → HasTruths names p → HasTruths names q
    → HasTruths names (choose_truth c p q)
choose_truths names c p q t h k env x = choose_by c x (truth_value p x) (truth_value q x) (t env x) (h env x) (k env x)

-- ---- stages

-- stages that make just this of a walk
made_faultless : (names : Bool) (gs : List AbstractStage) (makes : Numbers → List Item → List Item)
    → ((env : Numbers) (n : ℕ) (other : Numbers) → Agree names env other → (xs : List Item) (ending : End)
    → pipe n gs other (trace xs ending) ≡ trace (makes env xs) ending)
    → ((env : Numbers) (xs : List Item) → length (makes env xs) ≤ length xs) → AreFaultless names gs
made_faultless names gs makes walk few env =
    let left : (xs : List Item) → left_with env gs xs ≡ makes env xs =
    λ xs. ap (λ (t : Trace). t.items) (walk env 0 env (agrees names env) xs end.Done) in (
      λ n other same xs ending. walk env n other same xs ending
          ∙ ap (λ (l : List Item). trace l ending) (sym (left xs)),
      λ xs. subst (λ (l : List Item). length l ≤ length xs) (sym (left xs)) (few env xs),
    )

pub more_faultless : (names : Bool) (g : AbstractStage) (gs : List AbstractStage) → AreFaultless names (g ∷ [])
    → AreFaultless names gs → AreFaultless names (g ∷ gs)
more_faultless names g gs h k = made_faultless names (g ∷ gs) (λ env xs. left_with env gs (left_with env (g ∷ []) xs))
    (λ env n other same xs ending. ap (pipe (suc n) gs other) ((h env).0 n other same xs ending)
    ∙ (k env).0 (suc n) other same (left_with env (g ∷ []) xs) ending)
    (λ env xs. le_trans ((k env).1 (left_with env (g ∷ []) xs)) ((h env).1 xs))

-- a stage that makes of each item just these, one at most
one_faultless : (names : Bool) (g : AbstractStage) (makes : Numbers → Item → List Item)
    → ((env : Numbers) (n : ℕ) (other : Numbers) → Agree names env other → (x : Item)
    → of_item n g other x ≡ trace (makes env x) end.Done)
    → ((env : Numbers) (x : Item) → length (makes env x) ≤ 1) → AreFaultless names (g ∷ [])
one_faultless names g makes item one = made_faultless names (g ∷ []) all walk few
  where
    all : Numbers → List Item → List Item
    all env [] = []
    all env (x ∷ xs) = makes env x ++ all env xs

    walk : (env : Numbers) (n : ℕ) (other : Numbers) → Agree names env other → (xs : List Item) (ending : End)
        → through n g other (trace xs ending) ≡ trace (all env xs) ending
    walk env n other same [] ending = refl
    walk env n other same (x ∷ xs) ending =
        (λ i. append (item env n other same x i) (walk env n other same xs ending i))

    few : (env : Numbers) (xs : List Item) → length (all env xs) ≤ length xs
    few env [] = omega arith
    few env (x ∷ xs) = let l = few env xs in let k = one env x in let both = length-append (makes env x) (all env xs) in
        omega (arith, l, k, both)

pub map_faultless : (names : Bool) (e : Long) → HasValues names e → AreFaultless names (map e ∷ [])
map_faultless names e h =
    one_faultless names (map e) (λ env x. record { origin = x.origin; value = (h env x).0 } ∷ [])
    (λ env n other same x. ap (image n x) ((h env x).1 other same)) (λ env x. omega arith)

pub filter_faultless : (names : Bool) (p : Truth) → HasTruths names p → AreFaultless names (filter p ∷ [])
filter_faultless names p h =
    one_faultless names (filter p) (λ env x. kept (h env x).0 x)
    (λ env n other same x. ap (passed n x) ((h env x).1 other same) ∙ is_kept n x (h env x).0)
    (λ env x. one (h env x).0 x)
  where
    kept : Bool → Item → List Item
    kept true x = x ∷ []
    kept false x = []

    is_kept : (n : ℕ) (x : Item) (b : Bool) → passed n x (Ok b) ≡ trace (kept b x) end.Done
    is_kept n x true = refl
    is_kept n x false = refl

    one : (b : Bool) (x : Item) → length (kept b x) ≤ 1
    one true x = omega arith
    one false x = omega arith

-- ---- items that cheap stages leave where they are read

pub left_none : (gs : List AbstractStage) → left_by gs [] ≡ []
left_none gs =
    let none : Numbers = nothing_named in
    ap (λ (t : Trace). t.items) (pipe_ended 0 gs none end.Done)

pub left_both : (gs : List AbstractStage) → AreFaultless false gs → (xs ys : List Item)
    → left_by gs (xs ++ ys) ≡ left_by gs xs ++ left_by gs ys
left_both gs h xs ys =
    let none : Numbers = nothing_named in
    ap (λ (t : Trace). t.items) (pipe_more 0 gs none xs ys end.Done
    ∙ (λ i. append ((h none).0 0 none tt xs end.Done i) ((h none).0 0 none tt ys end.Done i)))

-- ---- a sink that takes all

pub all_taken : {B : Type 0} (taken : B → List Item → Type 0) (xs : List Item) (b : B) (r : Result Fed AllocError)
    → flow.More ≡ flow_after r → OnErr r ⊥ → IsFed taken [] (trace xs end.Done) r b → taken b xs
all_taken taken xs b (Ok fed.More) wants safe given = given.0
all_taken taken xs b (Ok (fed.Fault f)) wants safe given = absurd (let e = given.1 in cc)
all_taken taken xs b (Ok fed.Enough) wants safe given = absurd cc
all_taken taken xs b (Err e) wants safe given = absurd safe
