use Rattle.std.proofs.Common.{ℕ, List, length, ap, sym, subst, ◌∙◌}
use Rattle.std.specs.Prelude.{All}
use Rattle.job_language.specs.Jobs.{jobs_of, names_of}
use Rattle.job_meaning.specs.declared.answer.Answer.{Answer}
use Rattle.report.specs.Named.{IsNamed, IsText}
use Rattle.report.specs.Reports.{report_in}
use Rattle.report_merge.specs.Merging.{parts_of}
use Rattle.report.proofs.NamedTexts.{names_text}
use Rattle.merge_run.proofs.MergedLemmas.{length_merged}
use Rattle.merge_run.proofs.NamedAnswers.{length_names, merged_named}
use Rattle.merge_run.proofs.ReportLemmas.{merge_of}
use Rattle.merge_run.specs.Merged.{AreReportsOf, IsRefusalOf}
use Rattle.merge_run.specs.Small.{ArePartsSmall}
use Rattle.merge_run.proofs.RefusalLemmas.{refused_by}
use Rattle.stream_tokens.specs.Forms.{IsName}
use Rattle.merge_run.proofs.merging.report_of.Goals as goal

pub answers_of-requires-clause-named : goal.answers_of-requires-clause-named
answers_of-requires-clause-named c = subst (λ (ns : List (List ℕ)). All IsName ns)
    (sym (c.deref.ensures.value ∙ c.in_ok-names.ensures)) c.requires.names

pub printed-requires-clause-text : goal.printed-requires-clause-text
printed-requires-clause-text c =
    subst (λ (ns : List (List ℕ)). All IsText ns) (sym (c.deref-2.ensures.value ∙ c.in_ok-names.ensures))
    (names_text (names_of (jobs_of c.args.jobs.now)) c.requires.names)

pub printed-requires-clause-paired : goal.printed-requires-clause-paired
printed-requires-clause-paired c =
    ap length (c.deref-2.ensures.value ∙ c.in_ok-names.ensures) ∙ length_names (jobs_of c.args.jobs.now)
    ∙ sym (ap length c.deref-3.ensures.value
    ∙ length_merged (jobs_of c.args.jobs.now) (parts_of c.in_ok-parts.parts.items) c.in-Ok.answers.items
    c.in-Ok.ensures.ok)

pub printed-requires-clause-named : goal.printed-requires-clause-named
printed-requires-clause-named c =
    let same = c.deref.ensures.value ∙ sym c.deref-2.ensures.value in
    subst (λ (ns : List (List ℕ)). All (IsNamed ns) c.deref-3.result.now) same
    (subst (λ (xs : List Answer). All (IsNamed c.deref.result.now) xs) (sym c.deref-3.ensures.value)
    (merged_named c.deref.result.now (jobs_of c.args.jobs.now) c.in_ok-parts.parts.items c.in-Ok.answers.items
    c.in_ok-parts.ensures.named c.in-Ok.ensures.ok))

pub returns-clause-ok : goal.returns-clause-ok
returns-clause-ok c =
    let form = c.args.form in
    let printed = c.in_ok-printed.ensures
    ∙ (ap (λ (ns : List (List ℕ)). report_in form ns c.deref-3.result.now)
    (c.deref-2.ensures.value ∙ sym c.deref.ensures.value)
    ∙ ap (λ (xs : List Answer). report_in form c.deref.result.now xs) c.deref-3.ensures.value) in
    merge_of form (jobs_of c.args.jobs.now) c.args.parts.items c.deref.result.now (parts_of c.in_ok-parts.parts.items)
    c.in-Ok.answers.items c.in_ok-printed.field-0.items
    (c.deref.ensures.value ∙ c.in_ok-names.ensures) c.requires.mergeable c.in_ok-parts.ensures.read
    c.in_ok-parts.ensures.small c.in_ok-parts.ensures.possible c.in-Ok.ensures.ok c.in-Ok.ensures.whole printed

pub answers_of-requires-clause-names : goal.answers_of-requires-clause-names
answers_of-requires-clause-names c = c.deref.ensures.value ∙ c.in_ok-names.ensures

pub returns-in-Err-clause-refused : goal.returns-in-Err-clause-refused
returns-in-Err-clause-refused c =
    let jobs = jobs_of c.args.jobs.now in
    let parts = parts_of c.in_ok-parts.parts.items in
    let same = c.deref.ensures.value ∙ c.in_ok-names.ensures in
    let read : AreReportsOf (names_of jobs) c.args.parts.items parts =
    subst (λ (ns : List (List ℕ)). AreReportsOf ns c.args.parts.items parts) same c.in_ok-parts.ensures.read in
    let small : ArePartsSmall (names_of jobs) parts =
    subst (λ (ns : List (List ℕ)). ArePartsSmall ns parts) same c.in_ok-parts.ensures.small in
    subst (IsRefusalOf jobs c.args.parts.items) (sym c.in_ok-fault_of-in-Err.ensures)
    (refused_by jobs c.args.parts.items parts read small c.in_ok-parts.ensures.possible c.in-Err.fault
    c.in-Err.ensures.says)
