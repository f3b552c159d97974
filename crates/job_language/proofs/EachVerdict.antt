-- Each text has a verdict.
use Rattle.std.proofs.Common.{◌≢◌, ◌⊎◌, Bool, true, false, inl, inr, ⊎_elim, ℕ, ◌<◌, ◌≤◌, List, [], ◌∷◌, length, Option}
use Rattle.std.proofs.Common.{Some, None, Result, Ok, Err, refl}
use Rattle.std.proofs.str.Laws.{order}
use Rattle.stream_tokens.specs.declared.token.Token.{Token}
use Rattle.stream_tokens.specs.Tokens.{AreTokensOf}
use Rattle.stream_tokens.specs.CutTexts.{TokenizedText}
use Rattle.lambda_expr.specs.Words.{Word, words_of}
use Rattle.lambda_values.specs.Lambda.{AbstractLambda}
use Rattle.lambda_expr.specs.Refusals.{IsRefusedWithin}
use Rattle.lambda_expr.specs.declared.fault.ReadFault.{ReadFault}
use Rattle.lambda_expr.specs.declared.fault.ReadFault.TheVariants as fault
use Rattle.lambda_expr.specs.declared.want.Want.{Want}
use Rattle.lambda_expr.specs.declared.want.Want.TheVariants as want
use Rattle.lambda_expr.proofs.EachText.{HasAnswer, each_text}
use Rattle.reduce_ops.specs.declared.op.Op.{Op}
use Rattle.job_language.specs.declared.fault.Cause.{Cause}
use Rattle.job_language.specs.declared.fault.Cause.TheVariants as cause
use Rattle.job_language.specs.declared.operation.Param.{Param}
use Rattle.job_language.specs.declared.operation.Param.TheVariants as param
use Rattle.job_language.specs.Rows.{AbstractCall, Argument, nothing, exact}
use Rattle.job_language.specs.Table.{name_in, role_of}
use Rattle.job_language.specs.Grammar.{Job, IsJob, IsNoJob}
use Rattle.job_language.specs.Jobs.{AbstractJob}
use Rattle.job_language.specs.Causes.{Scope, first_cause, stage_cause, early_causes, goes_over_rows, numbers_of}
use Rattle.job_language.specs.Operators.{is_add_exact, spelled_op}
use Rattle.job_language.specs.Arguments.{PlacedCall, IsOutcome, lambda_answer, reads_cells, IsLambdaRead}
use Rattle.job_language.specs.Arguments.{IsOperatorRead, IsReadBy, IsArgumentRead, key_answer, key_in, last_param}
use Rattle.job_language.specs.Arguments.{last_part, argument_text, listed, name_answer}
use Rattle.job_language.specs.Verdicts.{BegunJob, call_answer, added, below_terminal, finished, IsNextCall, job_named}
use Rattle.job_language.specs.Verdicts.{placed_calls, IsReadAfter, IsReadInTurn, AreRead, IsJobRead, IsRead, scope_over}
use Rattle.job_language.specs.Verdicts as verdict
use Rattle.job_language.specs.Parts.{causes_before}
use Rattle.job_language.proofs.EachCut.{each_cut}
use Rattle.job_language.proofs.EachJob.{each_job}

refused : (cells : Bool) (text : List ℕ) (w : Want) (f : ReadFault) → f ≢ fault.NoMemory
    → IsRefusedWithin cells text w f → IsOutcome cells text w (Err f)
refused cells text w fault.NoMemory other h = absurd (other refl)
refused cells text w x other h = h

outcome : (cells : Bool) (text : List ℕ) (w : Want) → HasAnswer cells text w
    → (o : Result AbstractLambda ReadFault) × IsOutcome cells text w o
outcome cells text w (inl l) = (Ok l.0, l.1)
outcome cells text w (inr f) = (Err f.0, refused cells text w f.0 f.1 f.2)

each_lambda : (s : Scope) (text : List ℕ) (w : Want) → (r : Result Argument Cause) × IsLambdaRead s text w r
each_lambda s text w =
    let cut = each_cut text in
    let o = outcome (reads_cells s) text w (each_text (reads_cells s) text cut.0 w cut.1) in
    (lambda_answer s o.0, (o.0, o.1, refl))

each_operator : (b : Bool) (o : Option (Option Op)) (s : Scope) (text : List ℕ)
    → (r : Result Argument Cause) × IsOperatorRead b o s text r
each_operator true o s text = (Ok exact, refl)
each_operator false (Some f) s text = (listed f, refl)
each_operator false None s text = each_lambda s text want.Pair

each_by : (p : Param) (s : Scope) (xs : List (List Word)) (text : List ℕ)
    → (r : Result Argument Cause) × IsReadBy p s xs text r
each_by param.Number s xs text = (Ok nothing, refl)
each_by param.Text s xs text = (key_answer s (key_in xs), refl)
each_by param.Places s xs text = (key_answer s (key_in xs), refl)
each_by param.Name s xs text = (name_answer s (name_in (last_part xs)), refl)
each_by param.Long s xs text = each_lambda s text want.Long
each_by param.Bool s xs text = each_lambda s text want.Bool
each_by param.Stream s xs text = each_lambda s text want.Stream
each_by param.Operator s xs text = each_operator (is_add_exact (last_part xs)) (spelled_op (last_part xs)) s text

each_argument : (s : Scope) (t : TokenizedText) (c : PlacedCall) → (r : Result Argument Cause) × IsArgumentRead s t c r
each_argument s t c = each_by (last_param c.call.operation c.call.parts) s c.call.parts (argument_text t c).bytes

each_after : (o : Option Cause) (s : Scope) (t : TokenizedText) (c : PlacedCall)
    → (r : Result AbstractCall Cause) × IsReadAfter o s t c r
each_after (Some e) s t c = (Err e, refl)
each_after None s t c =
    let a = each_argument s t c in (
      call_answer c.call.operation (numbers_of c.call.operation (length c.call.parts) 0 c.call.parts) a.0,
      (a.0, a.1, refl),
    )

each_turn : (o : Option Cause) (s : Scope) (t : TokenizedText) (c : PlacedCall)
    → (r : Result AbstractCall Cause) × IsReadInTurn o s t c r
each_turn (Some e) s t c = (Err e, refl)
each_turn None s t c = each_after (first_cause (early_causes c.call)) s t c

abbrev HasRest : Scope → TokenizedText → BegunJob → List PlacedCall → Type 0
HasRest s t j cs = (r : Result AbstractJob Cause) × AreRead s t j cs r

rest_after : (s : Scope) (t : TokenizedText) (j : BegunJob) (c : PlacedCall) (cs : List PlacedCall)
    (r : Result AbstractCall Cause) → IsNextCall j s t c r → ((g : AbstractCall) → HasRest s t (added j g) cs)
    → HasRest s t j (c ∷ cs)
rest_after s t j c cs (Err e) h later = (Err e, inl (e, h, refl))
rest_after s t j c cs (Ok g) h later = let l = later g in (l.0, inr (g, h, l.1))

each_rest : (s : Scope) (t : TokenizedText) (j : BegunJob) (cs : List PlacedCall) → HasRest s t j cs
each_rest s t j [] = (finished s j, refl)
each_rest s t j (c ∷ cs) =
    let here = each_turn (stage_cause (length j.stages) (role_of c.call.operation)) s t c in
    rest_after s t j c cs (below_terminal j.terminal here.0) (here.0, here.1, refl) (λ g. each_rest s t (added j g) cs)

each_job_read : (o : Option Cause) (s : Scope) (t : TokenizedText) (j : Job)
    → (r : Result AbstractJob Cause) × IsJobRead o s t j r
each_job_read (Some e) s t j = (Err e, refl)
each_job_read None s t j = each_rest (scope_over s (goes_over_rows j)) t (job_named j.name) (placed_calls j)

by_job : (s : Scope) (text : List ℕ) (ts : List Token) → length text ≤ 65536 → AreTokensOf ts text
    → ((j : Job) × IsJob (words_of text ts) j) ⊎ IsNoJob (words_of text ts)
    → (r : Result AbstractJob Cause) × IsRead s text r
by_job s text ts short cut (inl j) =
    let r = each_job_read (causes_before s j.0) s (record { bytes = text; tokens = ts }) j.0 in
    (r.0, verdict.inside (record { short = short; tokens = ts; cut = cut; job = j.0; is = j.1; read = r.1 }))
by_job s text ts short cut (inr none_there) = (
  Err cause.Syntax,
  verdict.outside (record
      { short = short; tokens = ts; cut = cut; outside = none_there; refused = refl }),
)

pub each_read : (s : Scope) (text : List ℕ) → (r : Result AbstractJob Cause) × IsRead s text r
each_read s text =
    ⊎_elim (λ (long : 65536 < length text). (Err cause.TooLong, verdict.long (record { long = long; refused = refl })))
    (λ (short : length text ≤ 65536). let cut = each_cut text in
    by_job s text cut.0 short cut.1 (each_job (words_of text cut.0)))
    (order 65536 (length text))
