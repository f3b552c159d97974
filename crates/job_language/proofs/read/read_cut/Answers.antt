use Rattle.std.proofs.Common.{◌≡◌, Err, refl, sym, ap, subst, ◌∙◌}
use Rattle.std.specs.Prelude.{MatchOption}
use Rattle.job_language.specs.declared.fault.Cause.TheVariants.{Syntax}
use Rattle.lambda_expr.specs.CodeWords.{words_in}
use Rattle.job_language.specs.Causes.{goes_over_rows}
use Rattle.job_language.specs.Scopes.{scope_of}
use Rattle.job_language.specs.Shapes.{all_placed, calls_in, has_one_column, AreCallsIn, StandIn}
use Rattle.job_language.specs.Grammar.{IsNoJob}
use Rattle.job_language.specs.Verdicts.{job_named, scope_over, AreRead, IsRead, IsJobRead}
use Rattle.job_language.proofs.WholeTextLemmas.{inside_of, outside_of, answers_more, in_calls}
use Rattle.job_language.proofs.JobCauseLemmas.{name_of_job, over_rows}
use Rattle.job_language.proofs.read.read_cut.Goals as goal

pub returns-in_default : goal.returns-in_default
returns-in_default c = λ other.
    let t = c.args.text.now in
    let ws = words_in t in
    let stays = subst (λ f. MatchOption f (IsNoJob ws)
    (λ calls. AreCallsIn ws (all_placed ws calls.items) × StandIn ws calls.items)) c.in_default.is
    c.in_ok-calls.ensures in
    outside_of (scope_of c.args.scope) t.bytes t (Err Syntax) refl c.requires.tokens c.requires.short stays refl

pub early_cause-requires : goal.early_cause-requires
early_cause-requires c =
    let ws = words_in c.args.text.now in
    let found = subst (λ f. MatchOption f (IsNoJob ws)
    (λ calls. AreCallsIn ws (all_placed ws calls.items) × StandIn ws calls.items)) c.in-Some.is
    c.in_ok-calls.ensures in
    subst (λ v. AreCallsIn ws (all_placed ws v)) (sym c.deref.ensures.value) found.0

pub read_parts-requires : goal.read_parts-requires
read_parts-requires c =
    let ws = words_in c.args.text.now in
    let found = subst (λ f. MatchOption f (IsNoJob ws)
    (λ calls. AreCallsIn ws (all_placed ws calls.items) × StandIn ws calls.items)) c.in-Some.is
    c.in_ok-calls.ensures in
    subst (StandIn ws) (sym c.deref-3.ensures.value) found.1

pub returns-in-Some-early_cause : goal.returns-in-Some-early_cause
returns-in-Some-early_cause c = λ other.
    let s = scope_of c.args.scope in
    let t = c.args.text.now in
    let ws = words_in t in
    let found = subst (λ f. MatchOption f (IsNoJob ws)
    (λ calls. AreCallsIn ws (all_placed ws calls.items) × StandIn ws calls.items)) c.in-Some.is
    c.in_ok-calls.ensures in
    let j = found.0.job in
    let e = c.in-Some-early_cause.cause in
    inside_of s t.bytes t j (Err e) refl c.requires.tokens c.requires.short found.0.is
    (subst (λ f. IsJobRead f s t j (Err e)) (sym c.in-Some-early_cause.is ∙ c.early_cause.ensures j found.0.is)
    refl)

pub returns : goal.returns
returns c =
    let s = scope_of c.args.scope in
    let t = c.args.text.now in
    let ws = words_in t in
    let found = subst (λ f. MatchOption f (IsNoJob ws)
    (λ calls. AreCallsIn ws (all_placed ws calls.items) × StandIn ws calls.items)) c.in-Some.is
    c.in_ok-calls.ensures in
    let j = found.0.job in
    let calls = c.in-Some.calls.items in
    let name : c.first_name.result.now ≡ j.name = c.first_name.ensures ∙ sym (name_of_job ws j found.0.is) in
    let none = sym (c.early_cause.ensures j found.0.is) ∙ c.in_default-early_cause.is in
    let rows : c.goes_over_rows.result ≡ goes_over_rows j =
    c.goes_over_rows.ensures ws ∙ ap (λ v. has_one_column (calls_in ws v)) c.deref-2.ensures.value
    ∙ over_rows ws calls j found.0 found.0.is in
    let over = scope_over s c.goes_over_rows.result in
    answers_more (λ r. AreRead over t (job_named c.first_name.result.now) (all_placed ws c.deref-3.result.now) r)
    (IsRead s t.bytes) c.read_parts.result
    (λ r read. inside_of s t.bytes t j r refl c.requires.tokens c.requires.short found.0.is
    (in_calls s t ws calls j r found.0 found.0.is none
    (subst (λ b. AreRead (scope_over s b) t (job_named j.name) (all_placed ws calls) r) rows
    (subst (λ v. AreRead over t (job_named j.name) (all_placed ws v) r) c.deref-3.ensures.value
    (subst (λ w. AreRead over t (job_named w) (all_placed ws c.deref-3.result.now) r) name read)))))
    c.read_parts.ensures
