-- A call of the grammar has the parts that its row takes.
use Rattle.std.proofs.Common.{◌≡◌, ◌⊎◌, ⊎_elim, ℕ, suc, ◌<◌, ℤ, Bool, true, false, inl, inr, List, [], ◌∷◌, ◌++◌}
use Rattle.std.proofs.Common.{length, Option, Some, None, Result, Ok, Err, refl, sym, ap, subst, append-nil, arith}
use Rattle.std.specs.Prelude.{max, pos, not, ◌||◌, ◌==◌, nat_lt, int_lt, if◌then◌else◌}
use Rattle.std.specs.Option.{is_none, is_some}
use Rattle.std.specs.Ordering.{int_eq}
use Rattle.std.proofs.lemmas.Bool.{eqb-true}
use Rattle.stream_tokens.specs.CutTexts.{TokenizedText}
use Rattle.lambda_expr.specs.Words.{Word}
use Rattle.lambda_values.specs.Lambda.{AbstractLambda, long, boolean, stream as inner_stream, pair}
use Rattle.lambda_expr.specs.Refusals.{wanted, expression_verdict, stream_verdict, lambda_of, streamed, verdict, Judged}
use Rattle.lambda_values.specs.Cells.{cells_of}
use Rattle.lambda_values.specs.References.{names_of}
use Rattle.lambda_expr.specs.Checks.{depth, fit, literals, names_known}
use Rattle.lambda_expr.specs.Grammar.{Shape}
use Rattle.lambda_expr.specs.Heads.{BodyShape, expression, operands, parameters, IsBody}
use Rattle.lambda_expr.specs.PairForms.{whole_form, form as form_of}
use Rattle.lambda_expr.specs.StreamChecks.{all_fit, all_known, deepest, numbers, stream_of}
use Rattle.lambda_values.specs.Streams.{Inner}
use Rattle.lambda_values.specs.Term.{Long}
use Rattle.lambda_expr.specs.Lexemes.{Names, names_in}
use Rattle.lambda_expr.specs.Typing.{Typed, typed}
use Rattle.lambda_expr.specs.Typing as typing
use Rattle.lambda_expr.specs.declared.fault.ReadFault.{ReadFault}
use Rattle.lambda_expr.specs.declared.fault.ReadFault.TheVariants.{LiteralTooLarge, TooDeep, UnknownName}
use Rattle.lambda_values.specs.declared.lambda.PairForm.{PairForm}
use Rattle.lambda_values.specs.declared.lambda.PairForm.TheVariants as form
use Rattle.lambda_expr.specs.declared.want.Want.{Want}
use Rattle.lambda_expr.specs.declared.want.Want.TheVariants as want
use Rattle.reduce_ops.specs.declared.op.Op.{Op}
use Rattle.reduce_ops.specs.Operators.{identity_of}
use Rattle.job_language.specs.declared.fault.Cause.{Cause}
use Rattle.job_language.specs.declared.fault.Cause.TheVariants as cause
use Rattle.job_language.specs.declared.operation.Operation.{Operation}
use Rattle.job_language.specs.declared.operation.Param.{Param}
use Rattle.job_language.specs.declared.operation.Param.TheVariants as param
use Rattle.job_language.specs.declared.operation.Params.{Params}
use Rattle.job_language.specs.declared.operation.Params.TheVariants as params
use Rattle.job_language.specs.declared.terminal.Gives.{Gives}
use Rattle.job_language.specs.declared.terminal.Gives.TheVariants as gives
use Rattle.lambda_expr.specs.NumberWords.{number_read}
use Rattle.job_language.specs.Rows.{Argument, nothing, column, job, number, test, stream, operator, exact, source}
use Rattle.job_language.specs.Rows.{stage, terminal, fallback, Takes, of_nothing, of_bounds, of_values, of_number}
use Rattle.job_language.specs.Rows.{of_count, of_column, of_job, of_long, of_test, of_stream, of_positions, of_identity}
use Rattle.job_language.specs.Rows.{Row, as_source, as_concat, as_stage, as_terminal, as_fallback, params_taken}
use Rattle.job_language.specs.Rows.{params_in, taken, from_identity, made, built_by}
use Rattle.job_language.specs.Table.{row, params_of, allowed, param_at, param_of, fits, name_in, places_in, string_in}
use Rattle.job_language.specs.Calls.{Call, FitFrom, IsCall}
use Rattle.job_language.specs.Causes.{Scope, first_cause, when, count_of, number_cause, number_causes, number_in}
use Rattle.job_language.specs.Causes.{as_list, numbers_of, is_negative, values_cause, early_causes}
use Rattle.job_language.specs.Operators.{is_add_exact, spelled_op}
use Rattle.job_language.specs.Arguments.{PlacedCall, last_part, last_param, key_answer, key_in, keyed, column_answer}
use Rattle.job_language.specs.Arguments.{name_answer, result_answer, listed, pair_argument, argument_of, after_names}
use Rattle.job_language.specs.Arguments.{cell_cause, cell_causes, reference_cause, reference_causes, named_causes}
use Rattle.job_language.specs.Arguments.{lambda_answer, reads_cells, IsLambdaRead, IsOperatorRead, IsReadBy}
use Rattle.job_language.specs.Arguments.{IsArgumentRead, argument_text}
use Rattle.job_language.specs.Verdicts.{IsReadAfter, IsCallRead}

-- ---- causes that are no syntax fault

not_when : (b : Bool) (c : Cause) → (c ≡ cause.Syntax → ⊥) → when b c ≡ Some cause.Syntax → ⊥
not_when true c other e = other cc
not_when false c other e = absurd cc

no_count : (p : Params) (n : ℕ) → count_of p n ≡ Some cause.Syntax → ⊥
no_count params.Values n e = not_when (nat_lt 1024 n) cause.TooLong (λ h. cc) e
no_count p n e = absurd cc

no_number : (p : Param) (ws : List Word) → number_cause p ws ≡ Some cause.Syntax → ⊥
no_number param.Number ws e = not_when (is_none (number_read ws)) (cause.Expr LiteralTooLarge) (λ h. cc) e
no_number p ws e = absurd cc

first_not : (c : Option Cause) (cs : List (Option Cause)) → (c ≡ Some cause.Syntax → ⊥)
    → (first_cause cs ≡ Some cause.Syntax → ⊥) → first_cause (c ∷ cs) ≡ Some cause.Syntax → ⊥
first_not None cs h k e = k e
first_not (Some d) cs h k e = h e

first_both : (cs ds : List (Option Cause)) → (first_cause cs ≡ Some cause.Syntax → ⊥)
    → (first_cause ds ≡ Some cause.Syntax → ⊥) → first_cause (cs ++ ds) ≡ Some cause.Syntax → ⊥
first_both [] ds h k e = k e
first_both (None ∷ cs) ds h k e = first_both cs ds h k e
first_both (Some c ∷ cs) ds h k e = h e

no_numbers : (o : Operation) (n i : ℕ) (xs : List (List Word))
    → first_cause (number_causes o n i xs) ≡ Some cause.Syntax → ⊥
no_numbers o n i [] e = absurd cc
no_numbers o n i (a ∷ xs) e = first_not (number_cause (param_of o n i) a) (number_causes o n (suc i) xs)
    (no_number (param_of o n i) a) (no_numbers o n (suc i) xs) e

no_values : (p : Params) (ks : List ℤ) → values_cause p ks ≡ Some cause.Syntax → ⊥
no_values params.Count (k ∷ []) e = not_when (is_negative k) cause.NegativeCount (λ h. cc) e
no_values params.Positions (a ∷ b ∷ []) e = not_when (is_negative a || int_lt b a) cause.BadRange (λ h. cc) e
no_values p ks e = absurd cc

no_early : (c : Call) → first_cause (early_causes c) ≡ Some cause.Syntax → ⊥
no_early c e =
    let n = length c.parts in
    let p = params_of c.operation in
    let ks = numbers_of c.operation n 0 c.parts in
    first_not (count_of p n) (number_causes c.operation n 0 c.parts ++ values_cause p ks ∷ []) (no_count p n)
    (first_both (number_causes c.operation n 0 c.parts) (values_cause p ks ∷ []) (no_numbers c.operation n 0 c.parts)
    (first_not (values_cause p ks) [] (no_values p ks) (λ h. cc))) e

no_reference : (g : Option Gives) → reference_cause g ≡ Some cause.Syntax → ⊥
no_reference None e = absurd cc
no_reference (Some gives.Number) e = absurd cc
no_reference (Some g) e = absurd cc

no_references : (s : Scope) (ws : List (List ℕ)) → first_cause (reference_causes s ws) ≡ Some cause.Syntax → ⊥
no_references s [] e = absurd cc
no_references s (w ∷ ws) e = first_not (reference_cause _) (reference_causes s ws) (no_reference _) (no_references s ws)
    e

no_cell : (rows : Bool) (o : Option (List ℤ)) → cell_cause rows o ≡ Some cause.Syntax → ⊥
no_cell false o e = absurd cc
no_cell true None e = absurd cc
no_cell true (Some cells) e = absurd cc

no_cells : (s : Scope) (ws : List (List ℕ)) → first_cause (cell_causes s ws) ≡ Some cause.Syntax → ⊥
no_cells s [] e = absurd cc
no_cells s (w ∷ ws) e = first_not (cell_cause s.rows _) (cell_causes s ws) (no_cell s.rows _) (no_cells s ws) e

no_listed : (o : Option Op) → listed o ≡ Err cause.Syntax → ⊥
no_listed None e = absurd cc
no_listed (Some f) e = absurd cc

no_pair : (f : PairForm) → pair_argument f ≡ Err cause.Syntax → ⊥
no_pair form.First e = absurd cc
no_pair f e = absurd cc

no_argument : (l : AbstractLambda) → argument_of l ≡ Err cause.Syntax → ⊥
no_argument (pair f) e = no_pair f e
no_argument l e = absurd cc

no_after : (c : Option Cause) (l : AbstractLambda) → (c ≡ Some cause.Syntax → ⊥) → after_names c l ≡ Err cause.Syntax
    → ⊥
no_after None l h e = no_argument l e
no_after (Some d) l h e = let same : d ≡ cause.Syntax = cc in h (ap Some same)

no_lambda : (s : Scope) (o : Result AbstractLambda ReadFault) → lambda_answer s o ≡ Err cause.Syntax → ⊥
no_lambda s (Err f) e = absurd cc
no_lambda s (Ok l) e = no_after (first_cause (named_causes s l)) l
    (first_both (reference_causes s (names_of l)) (cell_causes s (cells_of l)) (no_references s (names_of l))
    (no_cells s (cells_of l))) e

no_operator : (b : Bool) (o : Option (Option Op)) (s : Scope) (text : List ℕ)
    → IsOperatorRead b o s text (Err cause.Syntax) → ⊥
no_operator true o s text e = absurd cc
no_operator false (Some f) s text e = no_listed f e
no_operator false None s text (o, out, e) = no_lambda s o e

no_column : (o : Option (List ℤ)) → column_answer o ≡ Err cause.Syntax → ⊥
no_column None e = absurd cc
no_column (Some cells) e = absurd cc

no_key : (s : Scope) (w : Option (List ℕ)) → key_answer s w ≡ Err cause.Syntax → ⊥
no_key s None e = absurd cc
no_key s (Some w) e = no_column _ e

no_result : (w : List ℕ) (g : Option Gives) → result_answer w g ≡ Err cause.Syntax → ⊥
no_result w None e = absurd cc
no_result w (Some gives.Array) e = absurd cc
no_result w (Some g) e = absurd cc

no_name : (s : Scope) (w : Option (List ℕ)) → name_answer s w ≡ Err cause.Syntax → ⊥
no_name s None e = absurd cc
no_name s (Some w) e = no_result w _ e

no_part : (p : Param) (s : Scope) (xs : List (List Word)) (text : List ℕ) → IsReadBy p s xs text (Err cause.Syntax) → ⊥
no_part param.Number s xs text e = absurd cc
no_part param.Text s xs text e = no_key s (key_in xs) e
no_part param.Places s xs text e = no_key s (key_in xs) e
no_part param.Name s xs text e = no_name s (name_in (last_part xs)) e
no_part param.Operator s xs text e = no_operator _ _ s text e
no_part x s xs text (o, out, e) = no_lambda s o e

-- ---- what a row takes

-- the last part and the numbers that a row takes
abbrev Accepted : Params → Argument → List ℤ → Type 0
Accepted params.Nothing nothing [] = Unit {0}
Accepted params.Bounds nothing (a ∷ b ∷ []) = Unit {0}
Accepted params.Values nothing ks = Unit {0}
Accepted params.Number nothing (k ∷ []) = Unit {0}
Accepted params.Count nothing (k ∷ []) = Unit {0}
Accepted params.Column (column cells) ks = Unit {0}
Accepted params.Job (job w) ks = Unit {0}
Accepted params.Long (number e) ks = Unit {0}
Accepted params.Test (test p) ks = Unit {0}
Accepted params.Stream (stream g) ks = Unit {0}
Accepted params.Positions (operator f) [] = Unit {0}
Accepted params.Positions (operator f) (a ∷ b ∷ []) = Unit {0}
Accepted params.Positions exact ks = Unit {0}
Accepted params.Identity (operator f) [] = Unit {0}
Accepted params.Identity (operator f) (k ∷ []) = Unit {0}
Accepted params.Identity exact ks = Unit {0}
Accepted p a ks = ⊥

by_same : {A : Type 0} (b : Bool) (x : A) → (if b then Ok x else Err cause.NotIdentity) ≡ Err cause.Syntax → ⊥
by_same true x e = absurd cc
by_same false x e = absurd cc

no_identity : {A : Type 0} (i : Option ℤ) (k : ℤ) (x : A) → from_identity i k x ≡ Err cause.Syntax → ⊥
no_identity None k x e = absurd cc
no_identity (Some i) k x e = by_same (int_eq i k) x e

takes : {A : Type 0} (t : Takes A) (a : Argument) (ks : List ℤ) → Accepted (params_taken t) a ks
    → taken t a ks ≡ Err cause.Syntax → ⊥
takes (of_nothing x) nothing [] h e = absurd cc
takes (of_bounds f) nothing (a ∷ b ∷ []) h e = absurd cc
takes (of_values f) nothing ks h e = absurd cc
takes (of_number f) nothing (k ∷ []) h e = absurd cc
takes (of_count f) nothing (k ∷ []) h e = absurd cc
takes (of_column f) (column cells) ks h e = absurd cc
takes (of_job f) (job w) ks h e = absurd cc
takes (of_long f) (number g) ks h e = absurd cc
takes (of_test f) (test p) ks h e = absurd cc
takes (of_stream f) (stream g) ks h e = absurd cc
takes (of_positions f) (operator o) [] h e = absurd cc
takes (of_positions f) (operator o) (a ∷ b ∷ []) h e = absurd cc
takes (of_positions f) exact ks h e = absurd cc
takes (of_identity f g x) (operator o) [] h e = absurd cc
takes (of_identity f g x) (operator o) (k ∷ []) h e = no_identity (identity_of o) k (g k o) e
takes (of_identity f g x) exact (k ∷ []) h e = no_identity (Some (pos 0)) k x e
takes (of_identity f g x) exact ks h e = absurd cc
takes t a ks h e = absurd h

unmade : {A B : Type 0} (f : A → B) (x : Result A Cause) (c : Cause) → made f x ≡ Err c → x ≡ Err c
unmade f (Ok v) c e = absurd cc
unmade f (Err d) c e = let same : d ≡ c = cc in ap Err same

builds : (r : Row) (a : Argument) (ks : List ℤ) → Accepted (params_in r) a ks → built_by r a ks ≡ Err cause.Syntax → ⊥
builds (as_source t) a ks h e = takes t a ks h (unmade source (taken t a ks) cause.Syntax e)
builds as_concat a ks h e = absurd h
builds (as_stage t) a ks h e = takes t a ks h (unmade stage (taken t a ks) cause.Syntax e)
builds (as_terminal t) a ks h e = takes t a ks h (unmade terminal (taken t a ks) cause.Syntax e)
builds (as_fallback t) a ks h e = takes t a ks h (unmade fallback (taken t a ks) cause.Syntax e)

-- ---- what the parts of a call of the grammar are read as

ok_same : (a b : Argument) → ◌≡◌ {A = Result Argument Cause} (Ok a) (Ok b) → a ≡ b
ok_same a b e = cc

unless_err : (b : Bool) (f : ReadFault) (r : Result AbstractLambda ReadFault) (l : AbstractLambda)
    → (if b then Err f else r) ≡ Ok l → r ≡ Ok l
unless_err true f r l e = absurd cc
unless_err false f r l e = e

-- a lambda is of the want that it was read with
abbrev IsOfWant : Want → AbstractLambda → Type 0
IsOfWant want.Long (long e) = Unit {0}
IsOfWant want.Bool (boolean p) = Unit {0}
IsOfWant want.Stream (inner_stream g) = Unit {0}
IsOfWant want.Pair (pair f) = Unit {0}
IsOfWant w l = ⊥

of_want : (w : Want) (t : Typed) (f : PairForm) (l : AbstractLambda) → wanted w t f ≡ Ok l → IsOfWant w l
of_want want.Long (typing.long a) f l e = let same : long a ≡ l = cc in subst (IsOfWant want.Long) same tt
of_want want.Bool (typing.boolean a) f l e = let same : boolean a ≡ l = cc in subst (IsOfWant want.Bool) same tt
of_want want.Pair (typing.long a) f l e = let same : pair f ≡ l = cc in subst (IsOfWant want.Pair) same tt
of_want w t f l e = absurd cc

of_some : (g : Option Inner) (l : AbstractLambda) → lambda_of g ≡ Ok l → IsOfWant want.Stream l
of_some None l e = absurd cc
of_some (Some g) l e = let same : inner_stream g ≡ l = cc in subst (IsOfWant want.Stream) same tt

of_inner : (s : _) (o : Option (List Long)) (l : AbstractLambda) → streamed s o ≡ Ok l → IsOfWant want.Stream l
of_inner s None l e = absurd cc
of_inner s (Some es) l e = of_some (stream_of s es) l e

by_expression : (w : Want) (h : Names) (x : Shape) (l : AbstractLambda) → expression_verdict w h x ≡ Ok l → IsOfWant w l
by_expression w h x l e =
    of_want w (typed h x) (whole_form (form_of x)) l
    (unless_err (not (names_known (parameters w) x)) UnknownName (wanted w (typed h x) (whole_form (form_of x))) l
    (unless_err (nat_lt 64 (depth x)) TooDeep _ l
    (unless_err (not (fit (literals x))) LiteralTooLarge _ l e)))

by_operands : (h : Names) (s : _) (es : List Shape) (l : AbstractLambda) → stream_verdict h s es ≡ Ok l
    → IsOfWant want.Stream l
by_operands h s es l e =
    of_inner s (numbers h es) l
    (unless_err (not (all_known 1 es)) UnknownName (streamed s (numbers h es)) l
    (unless_err (nat_lt 64 (max (suc (deepest es)) (length es))) TooDeep _ l
    (unless_err (not (all_fit es)) LiteralTooLarge _ l e)))

by_body : (w : Want) (ws : _) (h : Names) (b : BodyShape) (l : AbstractLambda) → IsBody w ws b → verdict w h b ≡ Ok l
    → IsOfWant w l
by_body want.Long ws h (expression x) l is e = by_expression want.Long h x l e
by_body want.Bool ws h (expression x) l is e = by_expression want.Bool h x l e
by_body want.Pair ws h (expression x) l is e = by_expression want.Pair h x l e
by_body want.Stream ws h (operands s es) l is e = by_operands h s es l e
by_body w ws h b l is e = absurd is

judged_want : (cells : Bool) (text : List ℕ) (w : Want) (l : AbstractLambda) → Judged cells text w (Ok l) → IsOfWant w l
judged_want cells text w l j = by_body w j.spelled.lambda.rest (names_in text j.spelled.tokens) j.body l
    j.spelled.lambda.stands j.gives

-- the last part of a row of one kind of lambda
abbrev IsRead : Want → Argument → Type 0
IsRead want.Long (number e) = Unit {0}
IsRead want.Bool (test p) = Unit {0}
IsRead want.Stream (stream g) = Unit {0}
IsRead want.Pair (operator f) = Unit {0}
IsRead want.Pair exact = Unit {0}
IsRead w a = ⊥

of_listed : (o : Option Op) (a : Argument) → listed o ≡ Ok a → IsRead want.Pair a
of_listed None a e = absurd cc
of_listed (Some f) a e = subst (IsRead want.Pair) (ok_same (operator f) a e) tt

of_pair : (f : PairForm) (a : Argument) → pair_argument f ≡ Ok a → IsRead want.Pair a
of_pair form.Other a e = absurd cc
of_pair f a e = subst (IsRead want.Pair) (ok_same _ a e) tt

of_lambda : (w : Want) (l : AbstractLambda) (a : Argument) → IsOfWant w l → argument_of l ≡ Ok a → IsRead w a
of_lambda want.Long (long e) a is h = subst (IsRead want.Long) (ok_same (number e) a h) tt
of_lambda want.Bool (boolean p) a is h = subst (IsRead want.Bool) (ok_same (test p) a h) tt
of_lambda want.Stream (inner_stream g) a is h = subst (IsRead want.Stream) (ok_same (stream g) a h) tt
of_lambda want.Pair (pair f) a is h = of_pair f a h
of_lambda w l a is h = absurd is

of_references : (w : Want) (c : Option Cause) (l : AbstractLambda) (a : Argument) → IsOfWant w l
    → after_names c l ≡ Ok a → IsRead w a
of_references w None l a is h = of_lambda w l a is h
of_references w (Some d) l a is h = absurd cc

lambda_is : (s : Scope) (text : List ℕ) (w : Want) (a : Argument) → IsLambdaRead s text w (Ok a) → IsRead w a
lambda_is s text w a (Err f, out, e) = absurd cc
lambda_is s text w a (Ok l, out, e) = of_references w (first_cause (named_causes s l)) l a
    (judged_want (reads_cells s) text w l out) e

operator_is : (b : Bool) (o : Option (Option Op)) (s : Scope) (text : List ℕ) (a : Argument)
    → IsOperatorRead b o s text (Ok a) → IsRead want.Pair a
operator_is true o s text a e = subst (IsRead want.Pair) (ok_same exact a e) tt
operator_is false (Some f) s text a e = of_listed f a e
operator_is false None s text a h = lambda_is s text want.Pair a h

-- numbers, kinds and the last part, by what the row takes
abbrev numbers_at : Params → ℕ → ℕ → List (List Word) → List ℤ
numbers_at p n i [] = []
numbers_at p n i (a ∷ xs) = number_in (param_at p n i) a ++ numbers_at p n (suc i) xs

numbers_are : (o : Operation) (n i : ℕ) (xs : List (List Word)) → numbers_of o n i xs ≡ numbers_at (params_of o) n i xs
numbers_are o n i [] = refl
numbers_are o n i (a ∷ xs) = ap (λ v. number_in (param_of o n i) a ++ v) (numbers_are o n (suc i) xs)

abbrev FitAt : Params → ℕ → ℕ → List (List Word) → Type 0
FitAt p n i [] = Unit {0}
FitAt p n i (a ∷ xs) = (fits (param_at p n i) a ≡ true) × FitAt p n (suc i) xs

fit_at : (o : Operation) (n i : ℕ) (xs : List (List Word)) → FitFrom o n i xs → FitAt (params_of o) n i xs
fit_at o n i [] h = tt
fit_at o n i (a ∷ xs) h = (h.0, fit_at o n (suc i) xs h.1)

-- each number among the parts has a value
abbrev AreRead : Params → ℕ → ℕ → List (List Word) → Type 0
AreRead p n i [] = Unit {0}
AreRead p n i (a ∷ xs) = (number_cause (param_at p n i) a ≡ None) × AreRead p n (suc i) xs

no_first : (c : Option Cause) (cs : List (Option Cause)) → first_cause (c ∷ cs) ≡ None
    → (c ≡ None) × (first_cause cs ≡ None)
no_first None cs e = (refl, e)
no_first (Some c) cs e = absurd cc

no_both : (cs ds : List (Option Cause)) → first_cause (cs ++ ds) ≡ None → first_cause cs ≡ None
no_both [] ds e = refl
no_both (None ∷ cs) ds e = no_both cs ds e
no_both (Some c ∷ cs) ds e = absurd cc

are_read : (o : Operation) (n i : ℕ) (xs : List (List Word)) → first_cause (number_causes o n i xs) ≡ None
    → AreRead (params_of o) n i xs
are_read o n i [] e = tt
are_read o n i (a ∷ xs) e = let b = no_first (number_cause (param_of o n i) a) (number_causes o n (suc i) xs) e in
    (b.0, are_read o n (suc i) xs b.1)

are_read_early : (c : Call) → first_cause (early_causes c) ≡ None
    → AreRead (params_of c.operation) (length c.parts) 0 c.parts
are_read_early c e =
    let n = length c.parts in
    let causes = number_causes c.operation n 0 c.parts in
    let last = values_cause (params_of c.operation) (numbers_of c.operation n 0 c.parts) in
    are_read c.operation n 0 c.parts (no_both causes (last ∷ [])
    (no_first (count_of (params_of c.operation) n) (causes ++ last ∷ []) e).1)

-- a number that has a value
abbrev HasValue : Option ℤ → Type 0
HasValue o = when (is_none o) (cause.Expr LiteralTooLarge) ≡ None

abbrev last_at : Params → List (List Word) → Param
last_at p [] = param.Number
last_at p (a ∷ xs) = param_at p (suc (length xs)) (length xs)

last_are : (o : Operation) (xs : List (List Word)) → last_param o xs ≡ last_at (params_of o) xs
last_are o [] = refl
last_are o (a ∷ xs) = refl

by_or : (b c : Bool) → b || c ≡ true → (b ≡ true) ⊎ (c ≡ true)
by_or true c h = inl refl
by_or false c h = inr h

far : (n m k : ℕ) → (n == m) || (n == k) ≡ true → m < n → k < n → ⊥
far n m k h p q = ⊎_elim (λ (e : (n == m) ≡ true). let f = eqb-true n m e in omega arith)
    (λ (e : (n == k) ≡ true). let f = eqb-true n k e in omega arith) (by_or (n == m) (n == k) h)

by_cells : (o : Option (List ℤ)) (a : Argument) → column_answer o ≡ Ok a → Accepted params.Column a []
by_cells None a r = absurd cc
by_cells (Some cells) a r = subst (λ v. Accepted params.Column v []) (ok_same (column cells) a r) tt

column_is : (s : Scope) (o : Option (List ℕ)) (p : Option ℕ) (a : Argument) → is_some o ≡ true → is_some p ≡ true
    → key_answer s (keyed o p) ≡ Ok a → Accepted params.Column a []
column_is s None p a fit known r = let e : false ≡ true = fit in absurd cc
column_is s o None a fit known r = let e : false ≡ true = known in absurd cc
column_is s (Some w) (Some p) a fit known r = by_cells _ a r

by_given : (w : List ℕ) (g : Option Gives) (a : Argument) → result_answer w g ≡ Ok a → Accepted params.Job a []
by_given w (Some gives.Array) a r = subst (λ v. Accepted params.Job v []) (ok_same (job w) a r) tt
by_given w x a r = absurd cc

job_is : (s : Scope) (o : Option (List ℕ)) (a : Argument) → is_some o ≡ true → name_answer s o ≡ Ok a
    → Accepted params.Job a []
job_is s None a fit r = let e : false ≡ true = fit in absurd cc
job_is s (Some w) a fit r = by_given w _ a r

long_is : (a : Argument) → IsRead want.Long a → Accepted params.Long a []
long_is (number e) h = tt
long_is a h = absurd h

test_is : (a : Argument) → IsRead want.Bool a → Accepted params.Test a []
test_is (test p) h = tt
test_is a h = absurd h

stream_is : (a : Argument) → IsRead want.Stream a → Accepted params.Stream a []
stream_is (stream g) h = tt
stream_is a h = absurd h

pair_is : (a : Argument) → IsRead want.Pair a → Accepted params.Positions a [] × Accepted params.Identity a []
pair_is (operator f) h = (tt, tt)
pair_is exact h = (tt, tt)
pair_is a h = absurd h

positions_are : (a : Argument) (j k : Option ℤ) → HasValue j → HasValue k → IsRead want.Pair a
    → Accepted params.Positions a (as_list j ++ as_list k)
positions_are (operator f) (Some j) (Some k) v w h = tt
positions_are exact (Some j) (Some k) v w h = tt
positions_are a None k v w h = absurd cc
positions_are a j None v w h = absurd cc
positions_are a j k v w h = absurd h

identity_is : (a : Argument) (k : Option ℤ) → HasValue k → IsRead want.Pair a → Accepted params.Identity a (as_list k)
identity_is (operator f) (Some k) v h = tt
identity_is exact (Some k) v h = tt
identity_is a None v h = absurd cc
identity_is a k v h = absurd h

bounds_are : (j k : Option ℤ) → HasValue j → HasValue k → Accepted params.Bounds nothing (as_list j ++ as_list k)
bounds_are (Some j) (Some k) v w = tt
bounds_are j k v w = absurd cc

number_is : (k : Option ℤ) → HasValue k → Accepted params.Number nothing (as_list k)
    × Accepted params.Count nothing (as_list k)
number_is (Some k) v = (tt, tt)
number_is None v = absurd cc

no_number_read : (p : Params) (ks : List ℤ) (a : Argument) → Accepted p nothing ks
    → ◌≡◌ {A = Result Argument Cause} (Ok nothing) (Ok a) → Accepted p a ks
no_number_read p ks a h r = subst (λ v. Accepted p v ks) (ok_same nothing a r) h

same_two : (j k : Option ℤ) → as_list j ++ as_list k ≡ as_list j ++ (as_list k ++ [])
same_two j k = ap (λ v. as_list j ++ v) (sym (append-nil (as_list k)))

-- what the parts of a call are read as, its row takes
accepted : (p : Params) (xs : List (List Word)) (s : Scope) (text : List ℕ) (a : Argument)
    → allowed p (length xs) ≡ true → FitAt p (length xs) 0 xs → AreRead p (length xs) 0 xs
    → IsReadBy (last_at p xs) s xs text (Ok a) → Accepted p a (numbers_at p (length xs) 0 xs)
accepted params.Nothing [] s text a al fit read r = no_number_read params.Nothing [] a tt r
accepted params.Nothing (x ∷ xs) s text a al fit read r = let e = eqb-true (length (x ∷ xs)) 0 al in
    absurd (omega arith)
accepted params.Bounds (x ∷ y ∷ []) s text a al fit read r =
    no_number_read params.Bounds (as_list (number_read x) ++ (as_list (number_read y) ++ [])) a
    (subst (Accepted params.Bounds nothing) (same_two (number_read x) (number_read y))
    (bounds_are (number_read x) (number_read y) read.0 read.1.0)) r
accepted params.Bounds (x ∷ y ∷ z ∷ xs) s text a al fit read r = let e = eqb-true (length (x ∷ y ∷ z ∷ xs)) 2 al in
    absurd (omega arith)
accepted params.Values [] s text a al fit read r = no_number_read params.Values [] a tt r
accepted params.Values (x ∷ xs) s text a al fit read r =
    no_number_read params.Values (numbers_at params.Values (length (x ∷ xs)) 0 (x ∷ xs)) a tt r
accepted params.Number (x ∷ []) s text a al fit read r =
    no_number_read params.Number (as_list (number_read x) ++ []) a
    (subst (Accepted params.Number nothing) (sym (append-nil (as_list (number_read x))))
    (number_is (number_read x) read.0).0) r
accepted params.Count (x ∷ []) s text a al fit read r =
    no_number_read params.Count (as_list (number_read x) ++ []) a
    (subst (Accepted params.Count nothing) (sym (append-nil (as_list (number_read x))))
    (number_is (number_read x) read.0).1) r
accepted params.Column (x ∷ []) s text a al fit read r = column_is s (string_in x) (Some 0) a fit.0 refl r
accepted params.Column (x ∷ y ∷ []) s text a al fit read r = column_is s (string_in x) (places_in y) a fit.0 fit.1.0 r
accepted params.Column (x ∷ y ∷ z ∷ xs) s text a al fit read r =
    absurd (far (length (x ∷ y ∷ z ∷ xs)) 1 2 al (omega arith) (omega arith))
accepted params.Job (x ∷ []) s text a al fit read r = job_is s (name_in x) a fit.0 r
accepted params.Long (x ∷ []) s text a al fit read r = long_is a (lambda_is s text want.Long a r)
accepted params.Test (x ∷ []) s text a al fit read r = test_is a (lambda_is s text want.Bool a r)
accepted params.Stream (x ∷ []) s text a al fit read r = stream_is a (lambda_is s text want.Stream a r)
accepted params.Positions (x ∷ []) s text a al fit read r =
    (pair_is a (operator_is (is_add_exact x) (spelled_op x) s text a r)).0
accepted params.Positions (x ∷ y ∷ z ∷ []) s text a al fit read r =
    subst (Accepted params.Positions a) (same_two (number_read x) (number_read y))
    (positions_are a (number_read x) (number_read y) read.0 read.1.0
    (operator_is (is_add_exact z) (spelled_op z) s text a r))
accepted params.Positions (x ∷ y ∷ z ∷ w ∷ xs) s text a al fit read r =
    absurd (far (length (x ∷ y ∷ z ∷ w ∷ xs)) 1 3 al (omega arith) (omega arith))
accepted params.Identity (x ∷ []) s text a al fit read r =
    (pair_is a (operator_is (is_add_exact x) (spelled_op x) s text a r)).1
accepted params.Identity (x ∷ y ∷ []) s text a al fit read r =
    subst (Accepted params.Identity a) (sym (append-nil (as_list (number_read x))))
    (identity_is a (number_read x) read.0 (operator_is (is_add_exact y) (spelled_op y) s text a r))
accepted params.Identity (x ∷ y ∷ z ∷ xs) s text a al fit read r =
    absurd (far (length (x ∷ y ∷ z ∷ xs)) 1 2 al (omega arith) (omega arith))
accepted params.Positions (x ∷ y ∷ []) s text a al fit read r = absurd cc
accepted params.Sources xs s text a al fit read r = absurd cc
accepted p (x ∷ y ∷ xs) s text a al fit read r = let e = eqb-true (length (x ∷ y ∷ xs)) 1 al in absurd (omega arith)
accepted p xs s text a al fit read r = absurd cc

by_cause : (f : Option Cause) (s : Scope) (t : TokenizedText) (c : PlacedCall) → IsCall c.call
    → (f ≡ None → AreRead (params_of c.call.operation) (length c.call.parts) 0 c.call.parts)
    → (f ≡ Some cause.Syntax → ⊥) → IsReadAfter f s t c (Err cause.Syntax) → ⊥
by_cause (Some e) s t c call valued h r = let same : e ≡ cause.Syntax = cc in h (ap Some same)
by_cause None s t c call valued h (Err e, arg, eq) =
    let same : e ≡ cause.Syntax = cc in
    no_part (last_param c.call.operation c.call.parts) s c.call.parts (argument_text t c).bytes
    (subst (λ v. IsArgumentRead s t c (Err v)) same arg)
by_cause None s t c call valued h (Ok a, arg, eq) =
    let o = c.call.operation in
    let xs = c.call.parts in
    let read = subst (λ p. IsReadBy p s xs (argument_text t c).bytes (Ok a)) (last_are o xs) arg in
    let fine = accepted (params_of o) xs s (argument_text t c).bytes a call.allowed (fit_at o (length xs) 0 xs call.fit)
    (valued refl) read in
    builds (row o) a (numbers_of o (length xs) 0 xs)
    (subst (Accepted (params_of o) a) (sym (numbers_are o (length xs) 0 xs)) fine) eq

pub no_syntax_fault : (s : Scope) (t : TokenizedText) (c : PlacedCall) → IsCall c.call
    → IsCallRead s t c (Err cause.Syntax) → ⊥
no_syntax_fault s t c call r = by_cause (first_cause (early_causes c.call)) s t c call (are_read_early c.call)
    (no_early c.call) r
