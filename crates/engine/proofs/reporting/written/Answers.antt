use Rattle.std.proofs.Common.{◌≡◌, ℕ, List, length, IfOk, ap, sym, ◌∙◌, subst}
use Rattle.std.specs.Prelude.{All}
use Rattle.engine.specs.Run.{report_in}
use Rattle.job_language.specs.Jobs.{jobs_of, names_of}
use Rattle.job_meaning.specs.declared.answer.Answer.{Answer}
use Rattle.run_settings.specs.SettingsParts.{form_of}
use Rattle.job_meaning.specs.FileAnswers.{meaning_of}
use Rattle.report.specs.Named.{IsNamed, IsText}
use Rattle.report.proofs.EachNamed.{paired, named}
use Rattle.report.proofs.NamedTexts.{names_text}
use Rattle.engine.proofs.reporting.written.Goals as goal
use Rattle.engine.proofs.reporting.written.Given.{Over}
use Rattle.engine.proofs.reporting.written.Goals.{After-deref-3}

names : (g : Over) (c : After-deref-3 g) → names_of (jobs_of c.args.jobs.items) ≡ c.deref-2.result.now
names g c =
    sym (c.deref-2.ensures.value ∙ c.in_ok-names.ensures ∙ c.in_ok-plan.ensures.names)

answers : (g : Over) (c : After-deref-3 g) → meaning_of (jobs_of c.args.jobs.items) ≡ c.deref-3.result.now
answers g c =
    sym (c.deref-3.ensures.value ∙ c.in-Ok.ensures ∙ c.in_ok-plan.ensures.meaning)

pub printed-requires-clause-paired : goal.printed-requires-clause-paired
printed-requires-clause-paired g c = λ lifetimes lives.
    let b = (goal.at.printed-requires-clause-paired g c).After-deref-3 in
    ap length (sym (names g b)) ∙ paired (jobs_of c.args.jobs.items) ∙ ap length (answers g b)

pub printed-requires-clause-named : goal.printed-requires-clause-named
printed-requires-clause-named g c = λ lifetimes lives.
    let js = jobs_of c.args.jobs.items in
    let b = (goal.at.printed-requires-clause-named g c).After-deref-3 in
    subst (λ (ns : List (List ℕ)). All (IsNamed ns) c.deref-3.result.now) (names g b)
    (subst (λ (bs : List Answer). All (IsNamed (names_of js)) bs) (answers g b) (named js))

pub printed-requires-clause-text : goal.printed-requires-clause-text
printed-requires-clause-text g c = λ lifetimes lives.
    let js = jobs_of c.args.jobs.items in
    let b = (goal.at.printed-requires-clause-text g c).After-deref-3 in
    subst (λ (ns : List (List ℕ)). All IsText ns) (names g b) (names_text (names_of js) c.requires.names)

pub returns : goal.returns
returns g c =
    let b = (goal.at.returns g c).After-deref-3 in
    subst (λ (ns : List (List ℕ)). IfOk c.printed.result
    (λ (report : List ℕ). report ≡ report_in (form_of c.args.settings.now) ns
    (meaning_of (jobs_of c.args.jobs.items)))) (sym (names g b))
    (subst (λ (bs : List Answer). IfOk c.printed.result
    (λ (report : List ℕ). report ≡ report_in (form_of c.args.settings.now) c.deref-2.result.now bs))
    (sym (answers g b)) c.printed.ensures)
