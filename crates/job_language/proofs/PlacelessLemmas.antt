-- Lambdas of versions 1 and 2 look at no places.
use Rattle.std.proofs.Common.{◌≡◌, ℕ, ℤ, Bool, true, false, ◌&&◌, inl, inr, List, [], ◌∷◌, ◌++◌, length, Option, Some}
use Rattle.std.proofs.Common.{None, Result, Ok, Err, refl, sym, ap, subst, ◌∙◌}
use Rattle.std.specs.Prelude.{if◌then◌else◌, nat_le, pos}
use Rattle.std.specs.List.{list_all}
use Rattle.std.specs.Ordering.{int_eq}
use Rattle.stream_tokens.specs.declared.job_text.JobText.{JobText}
use Rattle.stream_tokens.specs.declared.job_text.TextFault.{TextFault}
use Rattle.stream_tokens.specs.declared.job_text.TextFault.TheVariants as text
use Rattle.stream_tokens.specs.CutTexts.{TokenizedText}
use Rattle.stream_tokens.specs.JobTexts.{job_texts_of, version_of}
use Rattle.tables.specs.Table.{NamedColumn}
use Rattle.lambda_values.specs.declared.lambda.PairForm.{PairForm}
use Rattle.lambda_values.specs.declared.lambda.PairForm.TheVariants as form
use Rattle.lambda_values.specs.Lambda.{AbstractLambda, long, boolean, stream as inner_stream, pair}
use Rattle.lambda_values.specs.Places.{inner_is_placeless, is_placeless, long_is_placeless, truth_is_placeless}
use Rattle.lambda_values.specs.Streams.{Inner}
use Rattle.lambda_values.specs.Term.{Long, Truth}
use Rattle.lambda_expr.specs.Refusals.{Judged}
use Rattle.lambda_expr.specs.Words.{Word}
use Rattle.lambda_expr.specs.declared.want.Want.{Want}
use Rattle.lambda_expr.specs.declared.want.Want.TheVariants as want
use Rattle.lambda_expr.proofs.NoPlaces.{judged_placeless}
use Rattle.reduce_ops.specs.declared.op.Op.{Op}
use Rattle.reduce_ops.specs.Operators.{identity_of}
use Rattle.job_language.specs.declared.fault.Cause.{Cause}
use Rattle.job_language.specs.declared.fault.Cause.TheVariants as cause
use Rattle.job_language.specs.declared.operation.Operation.{Operation}
use Rattle.job_language.specs.declared.operation.Operation.TheVariants as op
use Rattle.job_language.specs.declared.operation.Param.{Param}
use Rattle.job_language.specs.declared.operation.Param.TheVariants as param
use Rattle.job_language.specs.declared.terminal.Gives.{Gives}
use Rattle.job_language.specs.declared.terminal.Gives.TheVariants as gives
use Rattle.job_language.specs.Rows.{Argument, nothing, column, job, number, test, stream, operator, exact, AbstractCall}
use Rattle.job_language.specs.Rows.{source, stage, terminal, fallback, Takes, of_nothing, of_bounds, of_values}
use Rattle.job_language.specs.Rows.{of_number, of_count, of_column, of_job, of_long, of_test, of_stream, of_positions}
use Rattle.job_language.specs.Rows.{of_identity, Row, as_source, as_concat, as_stage, as_terminal, as_fallback, taken}
use Rattle.job_language.specs.Rows.{from_identity, made, built_by}
use Rattle.job_language.specs.Table.{row, name_in, role_of}
use Rattle.job_language.specs.Jobs.{AbstractJob, AbstractJobStage, AbstractTerminal, given_by}
use Rattle.job_language.specs.Causes.{Scope, first_cause, given, goes_over_rows, early_causes, numbers_of, stage_cause}
use Rattle.job_language.specs.Operators.{is_add_exact, spelled_op}
use Rattle.job_language.specs.Arguments.{PlacedCall, IsLambdaRead, IsOperatorRead, IsReadBy, after_names, argument_of}
use Rattle.job_language.specs.Arguments.{column_answer, key_answer, key_in, last_param, last_part, listed, named_causes}
use Rattle.job_language.specs.Arguments.{name_answer, pair_argument, reads_cells, result_answer, argument_text}
use Rattle.job_language.specs.Verdicts.{AreRead, BegunJob, IsJobRead, IsNextCall, IsRead, IsReadAfter, IsReadInTurn}
use Rattle.job_language.specs.Verdicts.{added, below_terminal, fallback_below, fallback_for, finished_by, job_named}
use Rattle.job_language.specs.Verdicts.{placed_calls, scope_over, table_of}
use Rattle.job_language.specs.Verdicts as verdict
use Rattle.job_language.specs.Files.{AreJobsLeft, AreJobsRead, IsNext, scope_below}
use Rattle.job_language.specs.Parts.{causes_before}
use Rattle.job_language.proofs.EarlyVersions.{version_early}
use Rattle.job_language.specs.Places.{ArePlaceless, IsPlaceless, stage_is_placeless, terminal_is_placeless}

-- ---- last parts

abbrev argument_is_placeless : Argument → Bool
argument_is_placeless (number e) = long_is_placeless e
argument_is_placeless (test p) = truth_is_placeless p
argument_is_placeless (stream g) = inner_is_placeless g
argument_is_placeless a = true

abbrev IsPlain : Argument → Type 0
IsPlain a = argument_is_placeless a ≡ true

same_ok : (a b : Argument) → ◌≡◌ {A = Result Argument Cause} (Ok a) (Ok b) → IsPlain a → IsPlain b
same_ok a b e h = let same : a ≡ b = cc in subst IsPlain same h

of_pair : (f : PairForm) (a : Argument) → pair_argument f ≡ Ok a → IsPlain a
of_pair form.Other a e = absurd cc
of_pair f a e = same_ok _ a e refl

of_lambda : (l : AbstractLambda) (a : Argument) → is_placeless l ≡ true → argument_of l ≡ Ok a → IsPlain a
of_lambda (long e) a h is = same_ok (number e) a is h
of_lambda (boolean p) a h is = same_ok (test p) a is h
of_lambda (inner_stream g) a h is = same_ok (stream g) a is h
of_lambda (pair f) a h is = of_pair f a is

of_names : (c : Option Cause) (l : AbstractLambda) (a : Argument) → is_placeless l ≡ true → after_names c l ≡ Ok a
    → IsPlain a
of_names None l a h is = of_lambda l a h is
of_names (Some e) l a h is = absurd cc

lambda_plain : (s : Scope) (text : List ℕ) (w : Want) (a : Argument) → reads_cells s ≡ false
    → IsLambdaRead s text w (Ok a) → IsPlain a
lambda_plain s text w a early (Err f, out, is) = absurd cc
lambda_plain s text w a early (Ok l, out, is) =
    of_names (first_cause (named_causes s l)) l a
    (judged_placeless text w l (subst (λ b. Judged b text w (Ok l)) early out)) is

of_listed : (o : Option Op) (a : Argument) → listed o ≡ Ok a → IsPlain a
of_listed None a is = absurd cc
of_listed (Some f) a is = same_ok (operator f) a is refl

operator_plain : (b : Bool) (o : Option (Option Op)) (s : Scope) (text : List ℕ) (a : Argument) → reads_cells s ≡ false
    → IsOperatorRead b o s text (Ok a) → IsPlain a
operator_plain true o s text a early is = same_ok exact a is refl
operator_plain false (Some f) s text a early is = of_listed f a is
operator_plain false None s text a early h = lambda_plain s text want.Pair a early h

of_column_answer : (o : Option (List ℤ)) (a : Argument) → column_answer o ≡ Ok a → IsPlain a
of_column_answer None a is = absurd cc
of_column_answer (Some cells) a is = same_ok (column cells) a is refl

key_plain : (s : Scope) (o : Option (List ℕ)) (a : Argument) → key_answer s o ≡ Ok a → IsPlain a
key_plain s None a is = same_ok nothing a is refl
key_plain s (Some w) a is = of_column_answer _ a is

of_result : (w : List ℕ) (g : Option Gives) (a : Argument) → result_answer w g ≡ Ok a → IsPlain a
of_result w (Some gives.Array) a is = same_ok (job w) a is refl
of_result w x a is = absurd cc

name_plain : (s : Scope) (o : Option (List ℕ)) (a : Argument) → name_answer s o ≡ Ok a → IsPlain a
name_plain s None a is = same_ok nothing a is refl
name_plain s (Some w) a is = of_result w (given s.jobs w) a is

part_plain : (p : Param) (s : Scope) (xs : List (List Word)) (text : List ℕ) (a : Argument) → reads_cells s ≡ false
    → IsReadBy p s xs text (Ok a) → IsPlain a
part_plain param.Number s xs text a early h = same_ok nothing a h refl
part_plain param.Text s xs text a early h = key_plain s (key_in xs) a h
part_plain param.Places s xs text a early h = key_plain s (key_in xs) a h
part_plain param.Name s xs text a early h = name_plain s (name_in (last_part xs)) a h
part_plain param.Long s xs text a early h = lambda_plain s text want.Long a early h
part_plain param.Bool s xs text a early h = lambda_plain s text want.Bool a early h
part_plain param.Stream s xs text a early h = lambda_plain s text want.Stream a early h
part_plain param.Operator s xs text a early h =
    operator_plain (is_add_exact (last_part xs)) (spelled_op (last_part xs)) s text a early h

-- ---- calls

-- what a row builds of a plain last part is plain
abbrev Keeps : {A : Type 0} → (A → Bool) → Takes A → Type 0
Keeps p (of_nothing x) = p x ≡ true
Keeps p (of_bounds f) = (a b : ℤ) → p (f a b) ≡ true
Keeps p (of_values f) = (ks : List ℤ) → p (f ks) ≡ true
Keeps p (of_number f) = (k : ℤ) → p (f k) ≡ true
Keeps p (of_count f) = (k : ℕ) → p (f k) ≡ true
Keeps p (of_column f) = (cells : List ℤ) → p (f cells) ≡ true
Keeps p (of_job f) = (w : List ℕ) → p (f w) ≡ true
Keeps p (of_long f) = (e : Long) → long_is_placeless e ≡ true → p (f e) ≡ true
Keeps p (of_test f) = (t : Truth) → truth_is_placeless t ≡ true → p (f t) ≡ true
Keeps p (of_stream f) = (g : Inner) → inner_is_placeless g ≡ true → p (f g) ≡ true
Keeps p (of_positions f) = (o : Option (ℕ × ℕ)) (g : Op) → p (f o g) ≡ true
Keeps p (of_identity f g x) = ((o : Op) → p (f o) ≡ true) × ((k : ℤ) (o : Op) → p (g k o) ≡ true) × (p x ≡ true)

kept_ok : {A : Type 0} (p : A → Bool) (x y : A) → ◌≡◌ {A = Result A Cause} (Ok x) (Ok y) → p x ≡ true → p y ≡ true
kept_ok p x y e h = let same : x ≡ y = cc in subst (λ v. p v ≡ true) same h

by_identity : {A : Type 0} (p : A → Bool) (b : Bool) (x y : A) → (if b then Ok x else Err cause.NotIdentity) ≡ Ok y
    → p x ≡ true → p y ≡ true
by_identity p true x y e h = kept_ok p x y e h
by_identity p false x y e h = absurd cc

kept_identity : {A : Type 0} (p : A → Bool) (i : Option ℤ) (k : ℤ) (x y : A) → from_identity i k x ≡ Ok y → p x ≡ true
    → p y ≡ true
kept_identity p None k x y e h = absurd cc
kept_identity p (Some i) k x y e h = by_identity p (int_eq i k) x y e h

kept : {A : Type 0} (p : A → Bool) (t : Takes A) (a : Argument) (ks : List ℤ) (y : A) → Keeps p t → IsPlain a
    → taken t a ks ≡ Ok y → p y ≡ true
kept p (of_nothing x) nothing [] y h plain e = kept_ok p x y e h
kept p (of_bounds f) nothing (a ∷ b ∷ []) y h plain e = kept_ok p (f a b) y e (h a b)
kept p (of_values f) nothing ks y h plain e = kept_ok p (f ks) y e (h ks)
kept p (of_number f) nothing (k ∷ []) y h plain e = kept_ok p (f k) y e (h k)
kept p (of_count f) nothing (k ∷ []) y h plain e = kept_ok p _ y e (h _)
kept p (of_column f) (column cells) ks y h plain e = kept_ok p (f cells) y e (h cells)
kept p (of_job f) (job w) ks y h plain e = kept_ok p (f w) y e (h w)
kept p (of_long f) (number g) ks y h plain e = kept_ok p (f g) y e (h g plain)
kept p (of_test f) (test t) ks y h plain e = kept_ok p (f t) y e (h t plain)
kept p (of_stream f) (stream g) ks y h plain e = kept_ok p (f g) y e (h g plain)
kept p (of_positions f) (operator o) [] y h plain e = kept_ok p (f None o) y e (h None o)
kept p (of_positions f) (operator o) (a ∷ b ∷ []) y h plain e = kept_ok p _ y e (h _ o)
kept p (of_identity f g x) (operator o) [] y h plain e = kept_ok p (f o) y e (h.0 o)
kept p (of_identity f g x) (operator o) (k ∷ []) y h plain e = kept_identity p (identity_of o) k (g k o) y e (h.1 k o)
kept p (of_identity f g x) exact (k ∷ []) y h plain e = kept_identity p (Some (pos 0)) k x y e h.2
kept p (of_positions f) exact ks y h plain e = absurd cc
kept p (of_identity f g x) exact ks y h plain e = absurd cc
kept p t a ks y h plain e = absurd cc

abbrev RowKeeps : Row → Type 0
RowKeeps (as_source t) = Unit {0}
RowKeeps as_concat = Unit {0}
RowKeeps (as_stage t) = Keeps stage_is_placeless t
RowKeeps (as_terminal t) = Keeps terminal_is_placeless t
RowKeeps (as_fallback t) = Unit {0}

row_keeps : (o : Operation) → RowKeeps (row o)
row_keeps op.Range = tt
row_keeps op.RangeClosed = tt
row_keeps op.Of = tt
row_keeps op.Empty = tt
row_keeps op.Column = tt
row_keeps op.Result = tt
row_keeps op.Concat = tt
row_keeps op.Map = λ e h. h
row_keeps op.Filter = λ p h. h
row_keeps op.FlatMap = λ g h. h
row_keeps op.Limit = λ k. refl
row_keeps op.Skip = λ k. refl
row_keeps op.TakeWhile = λ p h. h
row_keeps op.DropWhile = λ p h. h
row_keeps op.Prefix = λ o f. refl
row_keeps op.Sorted = refl
row_keeps op.Distinct = refl
row_keeps op.Sum = refl
row_keeps op.Count = refl
row_keeps op.Min = refl
row_keeps op.Max = refl
row_keeps op.FindFirst = refl
row_keeps op.ToArray = refl
row_keeps op.Reduce = (λ f. refl, λ k f. refl, refl)
row_keeps op.AnyMatch = λ p h. h
row_keeps op.AllMatch = λ p h. h
row_keeps op.NoneMatch = λ p h. h
row_keeps op.SumExact = refl
row_keeps op.OnFault = tt

abbrev call_is_placeless : AbstractCall → Bool
call_is_placeless (source s) = true
call_is_placeless (stage g) = stage_is_placeless g
call_is_placeless (terminal d) = terminal_is_placeless d
call_is_placeless (fallback z) = true

abbrev IsPlainCall : AbstractCall → Type 0
IsPlainCall g = call_is_placeless g ≡ true

by_made : {A : Type 0} (p : A → Bool) (f : A → AbstractCall) (r : Result A Cause) (g : AbstractCall)
    → ((x : A) → call_is_placeless (f x) ≡ p x) → ((x : A) → r ≡ Ok x → p x ≡ true) → made f r ≡ Ok g → IsPlainCall g
by_made p f (Ok x) g same h e = let is : f x ≡ g = cc in subst IsPlainCall is (same x ∙ h x refl)
by_made p f (Err c) g same h e = absurd cc

row_plain : (r : Row) (a : Argument) (ks : List ℤ) (g : AbstractCall) → RowKeeps r → IsPlain a → built_by r a ks ≡ Ok g
    → IsPlainCall g
row_plain (as_source t) a ks g h plain e = by_made (λ x. true) source (taken t a ks) g (λ x. refl) (λ x is. refl) e
row_plain as_concat a ks g h plain e = absurd cc
row_plain (as_stage t) a ks g h plain e =
    by_made stage_is_placeless stage (taken t a ks) g (λ x. refl) (λ x is. kept stage_is_placeless t a ks x h plain is)
    e
row_plain (as_terminal t) a ks g h plain e =
    by_made terminal_is_placeless terminal (taken t a ks) g (λ x. refl)
    (λ x is. kept terminal_is_placeless t a ks x h plain is) e
row_plain (as_fallback t) a ks g h plain e = by_made (λ x. true) fallback (taken t a ks) g (λ x. refl) (λ x is. refl) e

after_plain : (f : Option Cause) (s : Scope) (t : TokenizedText) (c : PlacedCall) (g : AbstractCall)
    → reads_cells s ≡ false → IsReadAfter f s t c (Ok g) → IsPlainCall g
after_plain (Some e) s t c g early h = absurd cc
after_plain None s t c g early (Err e, arg, is) = absurd cc
after_plain None s t c g early (Ok a, arg, is) =
    let o = c.call.operation in
    row_plain (row o) a (numbers_of o (length c.call.parts) 0 c.call.parts) g (row_keeps o)
    (part_plain (last_param o c.call.parts) s c.call.parts (argument_text t c).bytes a early arg) is

turn_plain : (f : Option Cause) (s : Scope) (t : TokenizedText) (c : PlacedCall) (g : AbstractCall)
    → reads_cells s ≡ false → IsReadInTurn f s t c (Ok g) → IsPlainCall g
turn_plain (Some e) s t c g early h = absurd cc
turn_plain None s t c g early h = after_plain (first_cause (early_causes c.call)) s t c g early h

by_gives : (d : Gives) (z : ℤ) (g : AbstractCall) → fallback_for d z ≡ Ok g → IsPlainCall g
by_gives gives.Number z g e = let is : fallback z ≡ g = cc in subst IsPlainCall is refl
by_gives d z g e = absurd cc

by_fallback : (d : Option AbstractTerminal) (z : ℤ) (g : AbstractCall) → fallback_below d z ≡ Ok g → IsPlainCall g
by_fallback None z g e = absurd cc
by_fallback (Some d) z g e = by_gives (given_by d) z g e

below_plain : (d : Option AbstractTerminal) (q : Result AbstractCall Cause) (g : AbstractCall)
    → ((h : AbstractCall) → q ≡ Ok h → IsPlainCall h) → below_terminal d q ≡ Ok g → IsPlainCall g
below_plain d (Err e) g h is = absurd cc
below_plain d (Ok (fallback z)) g h is = by_fallback d z g is
below_plain d (Ok k) g h is = let same : k ≡ g = cc in subst IsPlainCall same (h k refl)

next_plain : (j : BegunJob) (s : Scope) (t : TokenizedText) (c : PlacedCall) (g : AbstractCall) → reads_cells s ≡ false
    → IsNextCall j s t c (Ok g) → IsPlainCall g
next_plain j s t c g early (q, turn, is) =
    below_plain j.terminal q g (λ h same. turn_plain (stage_cause (length j.stages) (role_of c.call.operation)) s t c h
    early (subst (λ r. IsReadInTurn (stage_cause (length j.stages) (role_of c.call.operation)) s t c r) same turn))
    is

-- ---- jobs

abbrev MayBePlain : Option AbstractTerminal → Type 0
MayBePlain None = Unit {0}
MayBePlain (Some d) = terminal_is_placeless d ≡ true

record IsBegun (j : BegunJob) : Type 0 where
  pub stages : list_all stage_is_placeless j.stages ≡ true
  pub terminal : MayBePlain j.terminal

both : (b c d : Bool) → (c ≡ true → d ≡ true) → b && c ≡ true → b && d ≡ true
both true c d h k = h k
both false c d h k = k

all_more : (gs : List AbstractJobStage) (g : AbstractJobStage) → list_all stage_is_placeless gs ≡ true
    → stage_is_placeless g ≡ true → list_all stage_is_placeless (gs ++ g ∷ []) ≡ true
all_more [] g h k = ap (λ b. b && true) k
all_more (f ∷ gs) g h k = both (stage_is_placeless f) _ _ (λ l. all_more gs g l k) h

grown : (j : BegunJob) (g : AbstractCall) → IsBegun j → IsPlainCall g → IsBegun (added j g)
grown j (source s) h k = record { stages = h.stages; terminal = h.terminal }
grown j (stage g) h k = record { stages = all_more j.stages g h.stages k; terminal = h.terminal }
grown j (terminal d) h k = record { stages = h.stages; terminal = k }
grown j (fallback z) h k = record { stages = h.stages; terminal = h.terminal }

no_table : (s : Scope) → reads_cells s ≡ false → table_of s ≡ []
no_table s early = ap (λ b. if b && s.rows then s.columns else []) early

by_end : (s : Scope) (j : BegunJob) (k : AbstractJob) (d : Option AbstractTerminal) → reads_cells s ≡ false
    → list_all stage_is_placeless j.stages ≡ true → MayBePlain d → finished_by s j d ≡ Ok k → IsPlaceless k
by_end s j k None early all last is = absurd cc
by_end s j k (Some d) early all last is =
    let same : record {
      name = j.name;
      sources = j.sources;
      stages = j.stages;
      terminal = d;
      on_fault = j.on_fault;
      table = table_of s;
    } ≡ k = cc in
    subst IsPlaceless same (record { stages = all; terminal = last; table = no_table s early })

calls_plain : (s : Scope) (t : TokenizedText) (j : BegunJob) (k : AbstractJob) (cs : List PlacedCall)
    → reads_cells s ≡ false → IsBegun j → AreRead s t j cs (Ok k) → IsPlaceless k
calls_plain s t j k [] early h is = by_end s j k j.terminal early h.stages h.terminal is
calls_plain s t j k (c ∷ cs) early h (inl (e, a, is)) = absurd cc
calls_plain s t j k (c ∷ cs) early h (inr (g, a, is)) =
    calls_plain s t (added j g) k cs early (grown j g h (next_plain j s t c g early a)) is

job_plain : (f : Option Cause) (s : Scope) (t : TokenizedText) (j : _) (k : AbstractJob) → reads_cells s ≡ false
    → IsJobRead f s t j (Ok k) → IsPlaceless k
job_plain (Some e) s t j k early h = absurd cc
job_plain None s t j k early h = calls_plain (scope_over s (goes_over_rows j)) t (job_named j.name) k (placed_calls j)
    early (record { stages = refl; terminal = tt }) h

read_plain : (s : Scope) (text : List ℕ) (k : AbstractJob) → reads_cells s ≡ false → IsRead s text (Ok k)
    → IsPlaceless k
read_plain s text k early (verdict.long a) = let no_job = a.refused in absurd cc
read_plain s text k early (verdict.outside a) = let no_job = a.refused in absurd cc
read_plain s text k early (verdict.inside a) =
    job_plain (causes_before s a.job) s (record { bytes = text; tokens = a.tokens }) a.job k early a.read

next_job_plain : (version : ℕ) (columns : List NamedColumn) (above : List AbstractJob) (text : List ℕ) (k : AbstractJob)
    → nat_le 3 version ≡ false → IsNext version columns above text (Ok k) → IsPlaceless k
next_job_plain version columns above text k early (inl h) = let no_job = h.1 in absurd cc
next_job_plain version columns above text k early (inr h) =
    read_plain (scope_below version columns above) text k early h.1

push_plain : (js : List AbstractJob) (j : AbstractJob) → ArePlaceless js → IsPlaceless j → ArePlaceless (js ++ j ∷ [])
push_plain [] j h k = (k, tt)
push_plain (i ∷ js) j h k = (h.0, push_plain js j h.1 k)

texts_plain : (version : ℕ) (columns : List NamedColumn) (above jobs : List AbstractJob) (ts : List JobText)
    → nat_le 3 version ≡ false → ArePlaceless above → AreJobsRead version columns above ts (Ok jobs) → ArePlaceless jobs
texts_plain version columns above jobs [] early h is = let same : jobs ≡ above = cc in subst ArePlaceless (sym same) h
texts_plain version columns above jobs (t ∷ ts) early h (inl k) = let no_jobs = k.2 in absurd cc
texts_plain version columns above jobs (t ∷ ts) early h (inr k) =
    texts_plain version columns (above ++ k.0 ∷ []) jobs ts early
    (push_plain above k.0 h (next_job_plain version columns above t.text k.0 early k.1)) k.2

left_plain : (version : ℕ) (columns : List NamedColumn) (jobs : List AbstractJob)
    (left : Result (List JobText) TextFault) → nat_le 3 version ≡ false → AreJobsLeft version columns [] left (Ok jobs)
    → ArePlaceless jobs
left_plain version columns jobs (Ok ts) early h = texts_plain version columns [] jobs ts early tt h
left_plain version columns jobs (Err (text.Syntax line)) early h = absurd cc
left_plain version columns jobs (Err text.NoMemory) early h = absurd h

pub file_plain : (bytes : List ℕ) (columns : List NamedColumn) (jobs : List AbstractJob)
    → AreJobsLeft (version_of bytes) columns [] (job_texts_of bytes) (Ok jobs) → ArePlaceless jobs
file_plain bytes columns jobs h = left_plain (version_of bytes) columns jobs (job_texts_of bytes) (version_early bytes)
    h
