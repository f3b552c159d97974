-- An input gives one thing.
use Rattle.std.proofs.Common.{◌≡◌, ◌≢◌, ◌⊎◌, inl, inr, ℕ, Bool, true, false, List, [], ◌++◌, ◌&&◌, Option, Some, None}
use Rattle.std.proofs.Common.{Result, Ok, Err, take, refl, sym, ap, subst, ◌∙◌}
use Rattle.std.specs.Prelude.{◌||◌, nat_le, if◌then◌else◌}
use Rattle.stream_tokens.specs.declared.job_text.JobText.{JobText}
use Rattle.stream_tokens.specs.declared.job_text.TextFault.{TextFault}
use Rattle.stream_tokens.specs.JobTexts.{job_texts_within, version_within}
use Rattle.stream_tokens.proofs.VersionLemmas.{AreAlike, alike}
use Rattle.columns.specs.declared.fault.ColumnFault.{ColumnFault}
use Rattle.columns.specs.declared.fault.ColumnFault.TheVariants as column
use Rattle.columns.specs.TableForms.{AbstractForm, default_form}
use Rattle.columns.proofs.CutLemmas.{tables_are_as_before}
use Rattle.job_names.specs.JobNames.{names_of_texts}
use Rattle.run_settings.specs.Asked.{Asked}
use Rattle.run_settings.specs.TableSettings.{integers}
use Rattle.run_settings.specs.declared.settings.Form.{Form}
use Rattle.run_settings.specs.declared.table.TableSetting.{TableSetting}
use Rattle.tables.specs.Table.{NamedColumn}
use Rattle.job_language.specs.declared.fault.JobFault.{JobFault}
use Rattle.job_language.specs.Files.{IsRefusedWithin, SpellsJobsWithin}
use Rattle.job_language.specs.Jobs.{AbstractJob, names_of}
use Rattle.job_language.proofs.EachFile.{each_file}
use Rattle.job_language.proofs.EarlyVersions.{version_early}
use Rattle.job_language.proofs.LaterVersions.{no_earlier, reads_more}
use Rattle.job_language.proofs.OneFile.{left_once}
use Rattle.job_meaning.specs.FileAnswers.{meaning_of}
use Rattle.engine.specs.declared.fault.EngineFault.TheVariants as engine_fault
use Rattle.engine.specs.Outcomes.{HasJobsRefused, HasOutcome, Outcome, columns_of, columns_refused, in_language}
use Rattle.engine.specs.Outcomes.{jobs_refused, reports}
use Rattle.engine.specs.Run.{Faulted, Input, IsColumnFault, IsReport, Reported, columns_by, columns_given, form_for}
use Rattle.engine.specs.Run.{form_with, names_for, report_in}

columns_once : (input : Input) (a b : List NamedColumn) → columns_given input ≡ Ok a → columns_given input ≡ Ok b
    → a ≡ b
columns_once input a b h k = let e = sym h ∙ k in cc

pub report_once : (input : Input) (a b : List ℕ) → IsReport input a → IsReport input b → a ≡ b
report_once input a b h k =
    let columns = columns_once input h.columns k.columns h.given k.given in
    let spelled = subst (λ (cs : List NamedColumn). SpellsJobsWithin input.asked.newest input.jobs cs h.jobs) columns
    h.spelled in
    let e = left_once (version_within input.asked.newest input.jobs) k.columns
    (job_texts_within input.asked.newest input.jobs) (Ok h.jobs) (Ok k.jobs) spelled k.spelled in
    let jobs : h.jobs ≡ k.jobs = cc in
    h.written ∙ ap (λ (js : List AbstractJob). report_in input.asked.form (names_of js) (meaning_of js)) jobs
    ∙ sym k.written

refusal_once : (input : Input) (f g : JobFault) → HasJobsRefused input f → HasJobsRefused input g → f ≡ g
refusal_once input f g h k =
    let columns = columns_once input h.columns k.columns h.given k.given in
    let refused = subst (λ (cs : List NamedColumn). IsRefusedWithin input.asked.newest input.jobs cs f) columns
    h.refused in
    let e = left_once (version_within input.asked.newest input.jobs) k.columns
    (job_texts_within input.asked.newest input.jobs) (Err f) (Err g) refused k.refused in
    cc

never_both : (input : Input) (a : List ℕ) (f : JobFault) → IsReport input a → HasJobsRefused input f → (o p : Outcome)
    → o ≡ p
never_both input a f h k o p =
    let columns = columns_once input h.columns k.columns h.given k.given in
    let spelled = subst (λ (cs : List NamedColumn). SpellsJobsWithin input.asked.newest input.jobs cs h.jobs) columns
    h.spelled in
    let e = left_once (version_within input.asked.newest input.jobs) k.columns
    (job_texts_within input.asked.newest input.jobs) (Ok h.jobs) (Err f) spelled k.refused in
    absurd (cc)

table_or_none : (input : Input) (columns : List NamedColumn) (f : ColumnFault) → columns_given input ≡ Ok columns
    → columns_given input ≡ Err f → (o p : Outcome) → o ≡ p
table_or_none input columns f h k o p = let e = sym h ∙ k in absurd (cc)

pub outcome_once : (input : Input) (o p : Outcome) → HasOutcome input o → HasOutcome input p → o ≡ p
outcome_once input (reports a) (reports b) h k = ap reports (report_once input a b h k)
outcome_once input (reports a) (columns_refused g) h k =
    table_or_none input h.columns g h.given k (reports a) (columns_refused g)
outcome_once input (reports a) (jobs_refused g) h k = never_both input a g h k (reports a) (jobs_refused g)
outcome_once input (columns_refused f) (reports b) h k =
    table_or_none input k.columns f k.given h (columns_refused f) (reports b)
outcome_once input (columns_refused f) (columns_refused g) h k = let e = sym h ∙ k in cc
outcome_once input (columns_refused f) (jobs_refused g) h k =
    table_or_none input k.columns f k.given h (columns_refused f) (jobs_refused g)
outcome_once input (jobs_refused f) (reports b) h k = never_both input b f k h (jobs_refused f) (reports b)
outcome_once input (jobs_refused f) (columns_refused g) h k =
    table_or_none input h.columns g h.given k (jobs_refused f) (columns_refused g)
outcome_once input (jobs_refused f) (jobs_refused g) h k = ap jobs_refused (refusal_once input f g h k)

pub each_outcome : (input : Input) → (o : Outcome) × HasOutcome input o
each_outcome input = by_columns (columns_given input) refl
  where
    by_jobs : (columns : List NamedColumn) → columns_given input ≡ Ok columns
        → ((jobs : List AbstractJob) × SpellsJobsWithin input.asked.newest input.jobs columns jobs)
        ⊎ ((fault : JobFault) × IsRefusedWithin input.asked.newest input.jobs columns fault)
        → (o : Outcome) × HasOutcome input o
    by_jobs columns is (inl h) = (
      reports (report_in input.asked.form (names_of h.0) (meaning_of h.0)),
      record { columns = columns; given = is; jobs = h.0; spelled = h.1; written = refl },
    )
    by_jobs columns is (inr h) = (jobs_refused h.0, record { columns = columns; given = is; refused = h.1 })

    by_columns : (r : Result (List NamedColumn) ColumnFault) → columns_given input ≡ r
        → (o : Outcome) × HasOutcome input o
    by_columns (Ok columns) is = by_jobs columns is (each_file input.asked.newest input.jobs columns)
    by_columns (Err f) is = (columns_refused f, is)

pub columns_said : (form : AbstractForm) (file : Option (List ℕ)) (f : ColumnFault) → IsColumnFault form file f
    → f ≢ column.Read → f ≢ column.NoMemory → columns_by form file ≡ Err f
columns_said form None f h read memory = absurd h
columns_said form (Some bytes) f h read memory = h read memory

pub written_once : (input : Input) (before : List ℕ) (a b : Option (List ℕ)) → Reported input (Some before) a
    → Reported input (Some before) b → a ≡ b
written_once input before None b h k = absurd h.2
written_once input before (Some x) None h k = absurd k.2
written_once input before (Some x) (Some y) h k =
    ap Some (h.2 ∙ ap (λ (r : List ℕ). before ++ r) (report_once input h.0 k.0 h.1 k.1) ∙ sym k.2)

pub cut_once : (input : Input) (before report : List ℕ) (after : Option (List ℕ)) (n : ℕ)
    → Faulted input (Some before) after (engine_fault.Write n) → IsReport input report
    → after ≡ Some (before ++ take n report)
cut_once input before report None n h k = absurd h.3
cut_once input before report (Some x) n h k =
    ap Some (h.3 ∙ ap (λ (r : List ℕ). before ++ take n r) (report_once input h.0 report h.1 k))

-- a file of jobs has the version and the texts that it has where version 3 is the newest
same_texts : (bytes : List ℕ) (columns : List NamedColumn) (jobs : List AbstractJob)
    → SpellsJobsWithin 2 bytes columns jobs
    → (version_within 2 bytes ≡ version_within 3 bytes) × (job_texts_within 2 bytes ≡ job_texts_within 3 bytes)
same_texts bytes columns jobs h = by_likeness (alike bytes)
  where
    by_likeness : AreAlike (version_within 3 bytes) (version_within 2 bytes) (job_texts_within 3 bytes)
        (job_texts_within 2 bytes)
        → (version_within 2 bytes ≡ version_within 3 bytes) × (job_texts_within 2 bytes ≡ job_texts_within 3 bytes)
    by_likeness (inl is) = absurd (no_earlier bytes columns jobs is h)
    by_likeness (inr (version, texts)) = (sym version, sym texts)

either_kept : (named b : Bool) → b ≡ false → (named || (true && b)) ≡ (named || false)
either_kept named b h = ap (λ (t : Bool). named || (true && t)) h

-- the names by which a file of an earlier version looks at columns, where version 3 is the newest
names_kept : (table : TableSetting) (form : Form) (bytes : List ℕ) → version_within 2 bytes ≡ version_within 3 bytes
    → job_texts_within 2 bytes ≡ job_texts_within 3 bytes
    → names_for (record { form = form; newest = 2; table = table }) bytes
    ≡ names_for (record { form = form; newest = 3; table = table }) bytes
names_kept table form bytes version texts =
    let below : nat_le 3 (version_within 3 bytes) ≡ false = ap (nat_le 3) (sym version) ∙ version_early bytes in
    ap (λ (c : Bool). if c then names_of_texts (job_texts_within 2 bytes) else [])
    (sym (either_kept table.only_named (nat_le 3 (version_within 3 bytes)) below))
    ∙ ap (λ (t : Result (List JobText) TextFault). if table.only_named || (true && nat_le 3 (version_within 3 bytes))
    then names_of_texts t else []) texts

pub later_report : (input : Input) (report : List ℕ) → input.asked.newest ≡ 2 → IsReport input report
    → IsReport (in_language 3 input) report
later_report input report two h =
    let spelled = subst (λ (n : ℕ). SpellsJobsWithin n input.jobs h.columns h.jobs) two h.spelled in
    let (version, texts) = same_texts input.jobs h.columns h.jobs spelled in
    let names = ap (λ (n : ℕ). names_for (record { form = input.asked.form; newest = n; table = input.asked.table })
    input.jobs) two ∙ names_kept input.asked.table input.asked.form input.jobs version texts in
    let given = subst (λ (ns : List (List ℕ)). columns_by (form_with input.asked.table ns) input.columns ≡ Ok h.columns)
    names h.given in
    record {
      columns = h.columns;
      given = given;
      jobs = h.jobs;
      spelled = reads_more input.jobs h.columns h.jobs spelled;
      written = h.written;
    }

pub as_before : (input : Input) → input.asked.table ≡ integers → input.asked.newest ≡ 2
    → columns_given input ≡ columns_of input.columns
as_before input is two = ap (λ (a : Asked). columns_by (form_for a input.jobs) input.columns)
    (asked_for input.asked is two) ∙ by_file input.columns
  where
    asked_for : (asked : Asked) → asked.table ≡ integers → asked.newest ≡ 2
        → asked ≡ record { form = asked.form; newest = 2; table = integers }
    asked_for asked h k = rw (h, k) refl

    by_file : (file : Option (List ℕ)) → columns_by default_form file ≡ columns_of file
    by_file None = refl
    by_file (Some bytes) = tables_are_as_before bytes
