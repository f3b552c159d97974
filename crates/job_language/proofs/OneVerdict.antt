-- A text has one verdict, and a job a name.
use Rattle.std.proofs.Common.{◌≡◌, ℕ, ◌-◌, Bool, false, inl, inr, List, [], ◌∷◌, length, drop, Option, Some, None}
use Rattle.std.proofs.Common.{Result, Ok, Err, refl, sym, ap, subst, ◌∙◌, arith}
use Rattle.stream_tokens.specs.declared.token.Token.{Token}
use Rattle.stream_tokens.specs.declared.symbol.Symbol.TheVariants as symbol
use Rattle.stream_tokens.specs.declared.token.TokenKind.{TokenKind}
use Rattle.stream_tokens.specs.declared.token.TokenKind.TheVariants.{Name}
use Rattle.stream_tokens.specs.Forms.{IsName}
use Rattle.stream_tokens.specs.Tokens.{CutBetween, IsFirstToken, token_text}
use Rattle.stream_tokens.specs.CutTexts.{TokenizedText}
use Rattle.stream_tokens.proofs.CutLemmas.{same_tokens}
use Rattle.lambda_expr.specs.Words.{Word, words_of, named, sign, word_for}
use Rattle.lambda_values.specs.Lambda.{AbstractLambda}
use Rattle.lambda_expr.specs.declared.fault.ReadFault.{ReadFault}
use Rattle.lambda_expr.specs.declared.fault.ReadFault.TheVariants as fault
use Rattle.lambda_expr.specs.declared.want.Want.{Want}
use Rattle.lambda_expr.specs.declared.want.Want.TheVariants as want
use Rattle.lambda_expr.proofs.OneAnswer.{Outcome, many, outside, judged, one_outcome}
use Rattle.lambda_expr.proofs.WordList.{named_kind, named_bytes}
use Rattle.reduce_ops.specs.declared.op.Op.{Op}
use Rattle.job_language.specs.declared.fault.Cause.{Cause}
use Rattle.job_language.specs.declared.operation.Param.{Param}
use Rattle.job_language.specs.declared.operation.Param.TheVariants as param
use Rattle.job_language.specs.Rows.{AbstractCall, Argument, source}
use Rattle.job_language.specs.Table.{role_of}
use Rattle.job_language.specs.Grammar.{Job, IsJob, IsNoJob, pieces_words, job_pieces}
use Rattle.job_language.specs.Jobs.{AbstractJob, AbstractTerminal}
use Rattle.job_language.specs.Causes.{Scope, first_cause, stage_cause, early_causes, goes_over_rows, numbers_of}
use Rattle.job_language.specs.Operators.{is_add_exact, spelled_op}
use Rattle.job_language.specs.Arguments.{PlacedCall, IsOutcome, lambda_answer, reads_cells, IsLambdaRead}
use Rattle.job_language.specs.Arguments.{IsOperatorRead, IsReadBy, IsArgumentRead, last_param, last_part, argument_text}
use Rattle.job_language.specs.Verdicts.{BegunJob, call_answer, added, below_terminal, finished_by, IsNextCall}
use Rattle.job_language.specs.Verdicts.{job_named, placed_calls, IsReadAfter, IsReadInTurn, AreRead, IsJobRead, IsRead}
use Rattle.job_language.specs.Verdicts.{IsInside, scope_over, table_of}
use Rattle.job_language.specs.Verdicts as verdict
use Rattle.job_language.specs.Parts.{causes_before}
use Rattle.job_language.proofs.ShapeLemmas.{one_spelled}

to_outcome : (cells : Bool) (text : List ℕ) (w : Want) (o : Result AbstractLambda ReadFault) → IsOutcome cells text w o
    → Outcome cells text w o
to_outcome cells text w (Ok l) j = judged j
to_outcome cells text w (Err (fault.Syntax at)) h = outside at h refl
to_outcome cells text w (Err fault.TooDeep) (inl m) = many m refl
to_outcome cells text w (Err fault.TooDeep) (inr j) = judged j
to_outcome cells text w (Err fault.LiteralTooLarge) j = judged j
to_outcome cells text w (Err fault.UnknownName) j = judged j
to_outcome cells text w (Err fault.WrongType) j = judged j
to_outcome cells text w (Err fault.NoMemory) h = absurd h

one_lambda : (s : Scope) (text : List ℕ) (w : Want) (r q : Result Argument Cause) → IsLambdaRead s text w r
    → IsLambdaRead s text w q → r ≡ q
one_lambda s text w r q h k = sym h.2 ∙ ap (lambda_answer s)
    (one_outcome (reads_cells s) text w h.0 k.0 (to_outcome (reads_cells s) text w h.0 h.1)
    (to_outcome (reads_cells s) text w k.0 k.1)) ∙ k.2

one_operator : (b : Bool) (o : Option (Option Op)) (s : Scope) (text : List ℕ) (r q : Result Argument Cause)
    → IsOperatorRead b o s text r → IsOperatorRead b o s text q → r ≡ q
one_operator false None s text r q h k = one_lambda s text want.Pair r q h k
one_operator x o s text r q h k = sym h ∙ k

one_by : (p : Param) (s : Scope) (xs : List (List Word)) (text : List ℕ) (r q : Result Argument Cause)
    → IsReadBy p s xs text r → IsReadBy p s xs text q → r ≡ q
one_by param.Long s xs text r q h k = one_lambda s text want.Long r q h k
one_by param.Bool s xs text r q h k = one_lambda s text want.Bool r q h k
one_by param.Stream s xs text r q h k = one_lambda s text want.Stream r q h k
one_by param.Operator s xs text r q h k =
    one_operator (is_add_exact (last_part xs)) (spelled_op (last_part xs)) s text r q h k
one_by x s xs text r q h k = sym h ∙ k

one_argument : (s : Scope) (t : TokenizedText) (c : PlacedCall) (r q : Result Argument Cause) → IsArgumentRead s t c r
    → IsArgumentRead s t c q → r ≡ q
one_argument s t c r q h k = one_by (last_param c.call.operation c.call.parts) s c.call.parts (argument_text t c).bytes
    r q h k

one_after : (o : Option Cause) (s : Scope) (t : TokenizedText) (c : PlacedCall) (r q : Result AbstractCall Cause)
    → IsReadAfter o s t c r → IsReadAfter o s t c q → r ≡ q
one_after (Some e) s t c r q h k = sym h ∙ k
one_after None s t c r q h k = sym h.2 ∙ ap
    (call_answer c.call.operation (numbers_of c.call.operation (length c.call.parts) 0 c.call.parts))
    (one_argument s t c h.0 k.0 h.1 k.1) ∙ k.2

one_turn : (o : Option Cause) (s : Scope) (t : TokenizedText) (c : PlacedCall) (r q : Result AbstractCall Cause)
    → IsReadInTurn o s t c r → IsReadInTurn o s t c q → r ≡ q
one_turn (Some e) s t c r q h k = sym h ∙ k
one_turn None s t c r q h k = one_after (first_cause (early_causes c.call)) s t c r q h k

one_next : (j : BegunJob) (s : Scope) (t : TokenizedText) (c : PlacedCall) (r q : Result AbstractCall Cause)
    → IsNextCall j s t c r → IsNextCall j s t c q → r ≡ q
one_next j s t c r q h k = sym h.2 ∙ ap (below_terminal j.terminal)
    (one_turn (stage_cause (length j.stages) (role_of c.call.operation)) s t c h.0 k.0 h.1 k.1) ∙ k.2

one_rest : (s : Scope) (t : TokenizedText) (j : BegunJob) (cs : List PlacedCall) (r q : Result AbstractJob Cause)
    → AreRead s t j cs r → AreRead s t j cs q → r ≡ q
one_rest s t j [] r q h k = sym h ∙ k
one_rest s t j (c ∷ cs) r q (inl (e, a, x)) (inl (f, b, y)) =
    let eq = one_next j s t c (Err e) (Err f) a b in
    let same : e ≡ f = cc in
    sym x ∙ ap Err same ∙ y
one_rest s t j (c ∷ cs) r q (inl (e, a, x)) (inr (g, b, y)) = let eq = one_next j s t c (Err e) (Ok g) a b in absurd cc
one_rest s t j (c ∷ cs) r q (inr (g, a, x)) (inl (e, b, y)) = let eq = one_next j s t c (Ok g) (Err e) a b in absurd cc
one_rest s t j (c ∷ cs) r q (inr (g, a, x)) (inr (h, b, y)) =
    let eq = one_next j s t c (Ok g) (Ok h) a b in
    let same : g ≡ h = cc in
    one_rest s t (added j h) cs r q (subst (λ v. AreRead s t (added j v) cs r) same x) y

one_job_read : (o : Option Cause) (s : Scope) (t : TokenizedText) (j : Job) (r q : Result AbstractJob Cause)
    → IsJobRead o s t j r → IsJobRead o s t j q → r ≡ q
one_job_read (Some e) s t j r q h k = sym h ∙ k
one_job_read None s t j r q h k = one_rest (scope_over s (goes_over_rows j)) t (job_named j.name) (placed_calls j) r q h
    k

abbrev text_of : List ℕ → List Token → TokenizedText
text_of text ts = record { bytes = text; tokens = ts }

both_inside : (s : Scope) (text : List ℕ) (r q : Result AbstractJob Cause) → IsInside s text r → IsInside s text q
    → r ≡ q
both_inside s text r q a b =
    let same : b.tokens ≡ a.tokens = same_tokens text 0 b.tokens a.tokens (length text) b.cut a.cut in
    let is : IsJob (words_of text a.tokens) b.job = subst (λ ts. IsJob (words_of text ts) b.job) same b.is in
    let job : b.job ≡ a.job = one_spelled (words_of text a.tokens) b.job a.job is.spelled a.is.spelled in
    let there = subst (λ ts. IsJobRead (causes_before s b.job) s (text_of text ts) b.job q) same b.read in
    one_job_read (causes_before s a.job) s (text_of text a.tokens) a.job r q a.read
    (subst (λ j. IsJobRead (causes_before s j) s (text_of text a.tokens) j q) job there)

pub one_read : (s : Scope) (text : List ℕ) (r q : Result AbstractJob Cause) → IsRead s text r → IsRead s text q → r ≡ q
one_read s text r q (verdict.long a) (verdict.long b) = sym a.refused ∙ b.refused
one_read s text r q (verdict.long a) (verdict.outside b) = let more = a.long in let less = b.short in
    absurd (omega arith)
one_read s text r q (verdict.long a) (verdict.inside b) = let more = a.long in let less = b.short in
    absurd (omega arith)
one_read s text r q (verdict.outside a) (verdict.long b) = let more = b.long in let less = a.short in
    absurd (omega arith)
one_read s text r q (verdict.outside a) (verdict.outside b) = sym a.refused ∙ b.refused
one_read s text r q (verdict.outside a) (verdict.inside b) =
    absurd (subst (λ ts. IsNoJob (words_of text ts)) (same_tokens text 0 a.tokens b.tokens (length text) a.cut b.cut)
    a.outside b.job b.is)
one_read s text r q (verdict.inside a) (verdict.long b) = let more = b.long in let less = a.short in
    absurd (omega arith)
one_read s text r q (verdict.inside a) (verdict.outside b) =
    absurd (subst (λ ts. IsNoJob (words_of text ts)) (same_tokens text 0 b.tokens a.tokens (length text) b.cut a.cut)
    b.outside a.job a.is)
one_read s text r q (verdict.inside a) (verdict.inside b) = both_inside s text r q a b

-- the name of a job is the first word of its text
same_name : (j : BegunJob) (g : AbstractCall) → (added j g).name ≡ j.name
same_name j (source s) = refl
same_name j x = refl

name_finished : (s : Scope) (j : BegunJob) (k : AbstractJob) (d : Option AbstractTerminal) → finished_by s j d ≡ Ok k
    → k.name ≡ j.name
name_finished s j k None h = absurd cc
name_finished s j k (Some d) h =
    let same : record {
      name = j.name;
      sources = j.sources;
      stages = j.stages;
      terminal = d;
      on_fault = j.on_fault;
      table = table_of s;
    } ≡ k = cc in
    ap (λ (v : AbstractJob). v.name) (sym same)

name_kept : (s : Scope) (t : TokenizedText) (j : BegunJob) (k : AbstractJob) (cs : List PlacedCall)
    → AreRead s t j cs (Ok k) → k.name ≡ j.name
name_kept s t j k [] h = name_finished s j k j.terminal h
name_kept s t j k (c ∷ cs) (inl (e, a, x)) = absurd cc
name_kept s t j k (c ∷ cs) (inr (g, a, x)) = name_kept s t (added j g) k cs x ∙ same_name j g

name_read : (o : Option Cause) (s : Scope) (t : TokenizedText) (j : Job) (k : AbstractJob) → IsJobRead o s t j (Ok k)
    → k.name ≡ j.name
name_read (Some e) s t j k h = absurd cc
name_read None s t j k h = name_kept (scope_over s (goes_over_rows j)) t (job_named j.name) k (placed_calls j) h

token_name : (text w : List ℕ) (k : TokenKind) (from to : ℕ) → k ≡ Name → IsFirstToken (drop from text) k (to - from)
    → token_text text (record { kind = k; from = from; to = to }) ≡ w → IsName w
token_name text w Name from to e (inl l) same = subst IsName same l.form
token_name text w Name from to e (inr b) same = let bad = b.bad in absurd cc
token_name text w k from to e h same = absurd cc

first_is_name : (text w : List ℕ) (ts : List Token) (vs : List Word) (n : ℕ) → CutBetween text 0 ts n
    → named w ∷ vs ≡ words_of text ts → IsName w
first_is_name text w [] vs n cut e = absurd cc
first_is_name text w (t ∷ ts) vs n cut e =
    let first : word_for t.kind (token_text text t) ≡ named w = cc in
    token_name text w t.kind t.from t.to (named_kind t.kind (token_text text t) w first) cut.3
    (named_bytes t.kind (token_text text t) w first)

pub name_is_name : (s : Scope) (text : List ℕ) (k : AbstractJob) → IsRead s text (Ok k) → IsName k.name
name_is_name s text k (verdict.long a) = let no_job = a.refused in absurd cc
name_is_name s text k (verdict.outside a) = let no_job = a.refused in absurd cc
name_is_name s text k (verdict.inside a) =
    subst IsName (sym (name_read (causes_before s a.job) s (text_of text a.tokens) a.job k a.read))
    (first_is_name text a.job.name a.tokens (sign symbol.Assign ∷ pieces_words (job_pieces a.job)) (length text)
    a.cut a.is.spelled.spelled)
