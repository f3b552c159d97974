-- What a whole text is read as.
use Rattle.std.proofs.Common.{◌≡◌, ◌≢◌, ℕ, ◌≤◌, List, length, None, Result, Ok, Err, sym, ap, subst, ◌∙◌}
use Rattle.std.specs.Prelude.{IfErr}
use Rattle.stream_tokens.specs.Tokens.{AreTokensOf}
use Rattle.stream_tokens.specs.CutTexts.{TokenizedText}
use Rattle.lambda_expr.specs.Words.{Word, words_of}
use Rattle.job_language.specs.declared.fault.Cause.{Cause}
use Rattle.job_language.specs.declared.fault.Cause.TheVariants.{NoMemory, Syntax}
use Rattle.job_language.specs.Grammar.{Job, IsJob, IsNoJob}
use Rattle.job_language.specs.declared.job.Job as code
use Rattle.job_language.specs.Jobs.{AbstractJob, job_of}
use Rattle.job_language.specs.Causes.{Scope, goes_over_rows}
use Rattle.job_language.specs.Verdicts.{IsJobRead, IsRead, outside, inside, AreRead, job_named, placed_calls}
use Rattle.job_language.specs.Verdicts.{scope_over}
use Rattle.job_language.specs.declared.piece.WrittenCall as written
use Rattle.job_language.specs.Shapes.{all_placed, AreCallsIn}
use Rattle.job_language.proofs.ShapeLemmas.{one_spelled}
use Rattle.job_language.specs.Parts.{Answers, causes_before}

pub inside_of : (s : Scope) (text : List ℕ) (t : TokenizedText) (j : Job) (r : Result AbstractJob Cause)
    → t.bytes ≡ text → AreTokensOf t.tokens t.bytes → length text ≤ 65536 → IsJob (words_of t.bytes t.tokens) j
    → IsJobRead (causes_before s j) s t j r → IsRead s text r
inside_of s text t j r e cut le is read =
    subst (λ x. IsRead s x r) e (inside (record
    { short = subst (λ x. length x ≤ 65536) (sym e) le; tokens = t.tokens; cut = cut; job = j; is = is; read = read }))

pub outside_of : (s : Scope) (text : List ℕ) (t : TokenizedText) (r : Result AbstractJob Cause) → t.bytes ≡ text
    → AreTokensOf t.tokens t.bytes → length text ≤ 65536 → IsNoJob (words_of t.bytes t.tokens) → Err Syntax ≡ r
    → IsRead s text r
outside_of s text t r e cut le stays eq =
    subst (λ x. IsRead s x r) e (outside
    (record {
      short = subst (λ x. length x ≤ 65536) (sym e) le;
      tokens = t.tokens;
      cut = cut;
      outside = stays;
      refused = eq;
    }))

pub answers_err : (P : Result AbstractJob Cause → Type 0) (r : Result code.Job Cause) → Answers job_of P r
    → IfErr r (λ e. e ≢ NoMemory → P (Err e))
answers_err P (Ok j) h = tt
answers_err P (Err e) h = h

pub answers_more : (P Q : Result AbstractJob Cause → Type 0) (r : Result code.Job Cause)
    → ((x : Result AbstractJob Cause) → P x → Q x) → Answers job_of P r → Answers job_of Q r
answers_more P Q (Ok j) f h = f (Ok (job_of j)) h
answers_more P Q (Err e) f h = λ other. f (Err e) (h other)

-- a job is read by its calls, if it has no cause before them
pub in_calls : (s : Scope) (t : TokenizedText) (ws : List Word) (cs : List written.WrittenCall) (j : Job)
    (r : Result AbstractJob Cause) → AreCallsIn ws (all_placed ws cs) → IsJob ws j → causes_before s j ≡ None
    → AreRead (scope_over s (goes_over_rows j)) t (job_named j.name) (all_placed ws cs) r
    → IsJobRead (causes_before s j) s t j r
in_calls s t ws cs j r a h none read =
    subst (λ f. IsJobRead f s t j r) (sym none)
    (subst (λ v. AreRead (scope_over s (goes_over_rows j)) t (job_named j.name) v r)
    (a.calls ∙ ap placed_calls (one_spelled ws a.job j a.is.spelled h.spelled)) read)
