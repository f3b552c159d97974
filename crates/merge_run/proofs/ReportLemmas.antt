-- One report more, and the report of a whole table.
use Rattle.std.proofs.Common.{◌≡◌, ℕ, List, [], ◌∷◌, ◌++◌, length, None, Some, refl, ap, subst, ◌∙◌}
use Rattle.columns.specs.TableForms.{AbstractForm}
use Rattle.job_language.specs.Jobs.{AbstractJob, names_of}
use Rattle.job_meaning.specs.declared.answer.Answer.{Answer}
use Rattle.job_meaning.specs.FileAnswers.{meaning_of}
use Rattle.merge_run.specs.declared.part_report.PartReport.{PartReport}
use Rattle.merge_run.specs.Merged.{ArePossible, AreReportsOf, IsMergeOf, IsReportOf, IsTableOf}
use Rattle.job_meaning.specs.Longs.{AnswerFits, AnswersFit}
use Rattle.merge_run.specs.Small.{ArePartsSmall}
use Rattle.merge_run.proofs.UniqueReports.{same_parts}
use Rattle.report_merge.specs.Possible.{first_impossible}
use Rattle.report.specs.Reports.{IsReport, form_for, report_in}
use Rattle.report_merge.specs.Cuts.{IsCut}
use Rattle.report_merge.specs.declared.part.PartAnswers.{PartAnswers}
use Rattle.report_merge.specs.Mergeable.{first_unmergeable}
use Rattle.report_merge.specs.Merging.{Part, merged, part_of, parts_of}
use Rattle.run_settings.specs.declared.settings.Form.{Form}
use Rattle.run_settings.specs.declared.table.TableSetting.{TableSetting}

pub parts_more : (ps : List PartAnswers) (p : PartAnswers) → parts_of (ps ++ p ∷ []) ≡ parts_of ps ++ part_of p ∷ []
parts_more [] p = refl
parts_more (q ∷ ps) p = ap (λ (qs : List Part). part_of q ∷ qs) (parts_more ps p)

pub reports_more : (names : List (List ℕ)) (rs : List PartReport) (ps : List Part) (r : PartReport) (p : Part)
    → AreReportsOf names rs ps → IsReportOf names r p → AreReportsOf names (rs ++ r ∷ []) (ps ++ p ∷ [])
reports_more names [] [] r p all one = (one, tt)
reports_more names [] (q ∷ ps) r p all one = absurd all
reports_more names (s ∷ rs) [] r p all one = absurd all
reports_more names (s ∷ rs) (q ∷ ps) r p all one = (all.0, reports_more names rs ps r p all.1 one)

-- answers that jobs can have
pub possible_more : (jobs : List AbstractJob) (ps : List Part) (p : Part) → ArePossible jobs ps
    → first_impossible jobs p ≡ None → ArePossible jobs (ps ++ p ∷ [])
possible_more jobs [] p h one = (one, tt)
possible_more jobs (q ∷ ps) p h one = (h.0, possible_more jobs ps p h.1 one)

-- answers that a report can hold
pub small_more : (names : List (List ℕ)) (xs : List Answer) (a : Answer) → AnswersFit names xs → AnswerFits names a
    → AnswersFit names (xs ++ a ∷ [])
small_more names [] a h one = (one, tt)
small_more names (x ∷ xs) a h one = (h.0, small_more names xs a h.1 one)

pub parts_small_more : (names : List (List ℕ)) (ps : List Part) (p : Part) → ArePartsSmall names ps
    → length names ≡ length p.answers → AnswersFit names p.answers → ArePartsSmall names (ps ++ p ∷ [])
parts_small_more names [] p h paired one = (paired, one, tt)
parts_small_more names (q ∷ ps) p h paired one = (h.0, h.1, parts_small_more names ps p h.2 paired one)

-- the answers of the whole, printed, are the report of a run over it
pub whole_report : (form : Form) (jobs : List AbstractJob) (parts : List Part) (answers : List Answer) (report : List ℕ)
    → report ≡ report_in form (names_of jobs) answers
    → ((shape : AbstractForm) (newest : ℕ) (bytes : List ℕ) (over : List AbstractJob)
    → IsCut shape newest bytes jobs parts over → (answers ≡ meaning_of over) × (names_of jobs ≡ names_of over))
    → (newest : ℕ) (table : TableSetting) (bytes file : List ℕ)
    → IsTableOf (record { form = form; newest = newest; table = table }) bytes jobs parts file
    → IsReport (record {
      columns = Some file;
      jobs = bytes;
      asked = record { form = form; newest = newest; table = table };
    }) report
whole_report form jobs parts answers report written means newest table bytes file is =
    let shape = form_for (record { form = form; newest = newest; table = table }) bytes in
    let over = is.cut.over in
    let same = means shape newest bytes is.over is.cut in
    record {
      columns = over.columns;
      given = is.read ∙ over.table;
      jobs = is.over;
      spelled = over.spelled;
      written = written ∙ (ap (λ (said : List Answer). report_in form (names_of jobs) said) same.0
          ∙ ap (λ (ns : List (List ℕ)). report_in form ns (meaning_of is.over)) same.1);
    }

pub merge_of : (form : Form) (jobs : List AbstractJob) (reports : List PartReport) (names : List (List ℕ))
    (parts : List Part) (answers : List Answer) (report : List ℕ)
    → names ≡ names_of jobs → first_unmergeable jobs ≡ None → AreReportsOf names reports parts
    → ArePartsSmall names parts → ArePossible jobs parts → merged jobs parts ≡ Some answers
    → ((shape : AbstractForm) (newest : ℕ) (bytes : List ℕ) (over : List AbstractJob) → first_unmergeable jobs ≡ None
    → IsCut shape newest bytes jobs parts over → (answers ≡ meaning_of over) × (names_of jobs ≡ names_of over))
    → report ≡ report_in form names answers → (newest : ℕ) → IsMergeOf newest jobs reports form report
merge_of form jobs reports names parts answers report same mergeable read small possible whole means written newest =
    let printed = written ∙ ap (λ (ns : List (List ℕ)). report_in form ns answers) same in
    let spelled : AreReportsOf (names_of jobs) reports parts =
    subst (λ (ns : List (List ℕ)). AreReportsOf ns reports parts) same read in
    let fits : ArePartsSmall (names_of jobs) parts =
    subst (λ (ns : List (List ℕ)). ArePartsSmall ns parts) same small in
    record {
      mergeable = mergeable;
      parts = parts;
      read = spelled;
      small = fits;
      possible = possible;
      answers = answers;
      whole = whole;
      written = printed;
      of_table = λ qs others others_fit table bytes file is.
          whole_report form jobs parts answers report printed
          (λ shape version bytes over cut. means shape version bytes over mergeable cut) newest table bytes file
          (subst (λ (ps : List Part). IsTableOf (record { form = form; newest = newest; table = table }) bytes jobs ps
          file)
          (same_parts (names_of jobs) reports qs parts others spelled others_fit fits) is);
    }
