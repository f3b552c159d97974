use Rattle.std.proofs.Common.{◌≡◌, None, ap, sym, ◌∙◌, arith}
use Rattle.lambda_expr.specs.CodeWords.{words_in}
use Rattle.job_language.specs.Shapes.{calls_in, sources_in, first_name}
use Rattle.job_language.specs.Causes.{first_cause, name_causes, version_cause}
use Rattle.job_language.specs.Scopes.{scope_of}
use Rattle.job_language.proofs.JobCauseLemmas.{after_version, by_name, by_none, by_sources, by_version, version_is}
use Rattle.job_language.proofs.read.early_cause.Goals as goal

pub returns-in-Some : goal.returns-in-Some
returns-in-Some c = λ j h.
    let s = scope_of c.args.scope in
    let ws = words_in c.args.text.now in
    let cs = c.args.calls.now in
    sym (by_version s j c.in-Some.cause (sym (version_is s ws cs j c.requires h) ∙ sym (c.version_cause.ensures ws)
    ∙ c.in-Some.is))

pub returns-in-Some-name_cause : goal.returns-in-Some-name_cause
returns-in-Some-name_cause c = λ j h.
    let s = scope_of c.args.scope in
    let ws = words_in c.args.text.now in
    let cs = c.args.calls.now in
    let version : version_cause s j ≡ None =
    sym (version_is s ws cs j c.requires h) ∙ sym (c.version_cause.ensures ws) ∙ c.in_default.is in
    let name : c.first_name.result.now ≡ first_name ws = c.first_name.ensures in
    sym (after_version s j version ∙ by_name s ws j c.in-Some-name_cause.cause h
    (ap (λ w. first_cause (name_causes s w)) (sym name) ∙ sym c.name_cause.ensures ∙ c.in-Some-name_cause.is))

pub returns-then-sources_in-gt-MAX_SOURCES : goal.returns-then-sources_in-gt-MAX_SOURCES
returns-then-sources_in-gt-MAX_SOURCES c = λ j h.
    let s = scope_of c.args.scope in
    let ws = words_in c.args.text.now in
    let cs = c.args.calls.now in
    let version : version_cause s j ≡ None =
    sym (version_is s ws cs j c.requires h) ∙ sym (c.version_cause.ensures ws) ∙ c.in_default.is in
    let name : c.first_name.result.now ≡ first_name ws = c.first_name.ensures in
    let none : first_cause (name_causes s (first_name ws)) ≡ None =
    ap (λ w. first_cause (name_causes s w)) (sym name) ∙ sym c.name_cause.ensures ∙ c.in_default-name_cause.is in
    let sources : c.sources_in.result ≡ sources_in (calls_in ws cs) = c.sources_in.ensures ws in
    sym (after_version s j version ∙ by_sources s ws cs j c.requires h none
    (omega (arith, c.if-sources_in-gt-MAX_SOURCES.true)))

pub returns : goal.returns
returns c = λ j h.
    let s = scope_of c.args.scope in
    let ws = words_in c.args.text.now in
    let cs = c.args.calls.now in
    let version : version_cause s j ≡ None =
    sym (version_is s ws cs j c.requires h) ∙ sym (c.version_cause.ensures ws) ∙ c.in_default.is in
    let name : c.first_name.result.now ≡ first_name ws = c.first_name.ensures in
    let none : first_cause (name_causes s (first_name ws)) ≡ None =
    ap (λ w. first_cause (name_causes s w)) (sym name) ∙ sym c.name_cause.ensures ∙ c.in_default-name_cause.is in
    let sources : c.sources_in.result ≡ sources_in (calls_in ws cs) = c.sources_in.ensures ws in
    sym (after_version s j version ∙ by_none s ws cs j c.requires h none
    (omega (arith, c.if-sources_in-gt-MAX_SOURCES.false)))
