-- Meaning: the report of the jobs that a job file spells over a column file, in the form that is asked for.
use Rattle.std.specs.Prelude.{◌≡◌, ◌||◌, ◌&&◌, ℕ, Bool, not, nat_le, List, [], Option, Some, None, Result, Ok}
use Rattle.std.specs.Prelude.{if◌then◌else◌}
use Rattle.columns.specs.declared.fault.ColumnFault.{ColumnFault}
use Rattle.columns.specs.TableForms.{AbstractForm, cells_by}
use Rattle.tables.specs.Table.{NamedColumn}
use Rattle.job_names.specs.JobNames.{names_of_texts}
use Rattle.job_language.specs.Files.{SpellsJobsWithin}
use Rattle.job_language.specs.Jobs.{AbstractJob, names_of}
use Rattle.job_meaning.specs.declared.answer.Answer.{Answer}
use Rattle.job_meaning.specs.FileAnswers.{meaning_of}
use Rattle.report.specs.Json.{report_json}
use Rattle.report.specs.Text.{report_text}
use Rattle.run_settings.specs.Asked.{Asked}
use Rattle.run_settings.specs.TableSettings.{byte_of}
use Rattle.run_settings.specs.declared.table.TableSetting.{TableSetting}
use Rattle.run_settings.specs.declared.settings.Form.{Form}
use Rattle.run_settings.specs.declared.settings.Form.TheVariants as form
use Rattle.stream_tokens.specs.JobTexts.{job_texts_within, version_within}

-- what a run is given: the bytes of the column file, if there is one, the bytes of the job file, and what its settings
-- ask for
pub record Input : Type 0 where
  pub columns : Option (List ℕ)
  pub jobs : List ℕ
  pub asked : Asked

-- helper: the form that a setting asks for, where columns are looked at under these names
abbrev pub form_with : TableSetting → List (List ℕ) → AbstractForm
form_with setting names = record {
  separator = byte_of setting.separator;
  is_all = not setting.only_named;
  names = names;
  blank = setting.blank;
}

-- whether how a column file is read depends on the job file: where only named columns are looked at, and where job
-- files
-- of version 3 are read, which may look at columns with decimal places
abbrev pub reads_by_jobs : Asked → Bool
reads_by_jobs asked = asked.table.only_named || nat_le 3 asked.newest

-- helper: whether how a column file is read depends on this job file
abbrev pub is_read_by : Asked → List ℕ → Bool
is_read_by asked jobs = asked.table.only_named || (nat_le 3 asked.newest && nat_le 3 (version_within asked.newest jobs))

-- the names under which a job file looks at columns, if how a column file is read depends on it
abbrev pub names_for : Asked → List ℕ → List (List ℕ)
names_for asked jobs = if is_read_by asked jobs then names_of_texts (job_texts_within asked.newest jobs) else []

-- the form in which a column file is read beside a job file
abbrev pub form_for : Asked → List ℕ → AbstractForm
form_for asked jobs = form_with asked.table (names_for asked jobs)

-- the columns of a file in a form; without a file there are none
abbrev pub columns_by : AbstractForm → Option (List ℕ) → Result (List NamedColumn) ColumnFault
columns_by form None = Ok []
columns_by form (Some bytes) = cells_by form bytes

-- the columns that an input gives
abbrev pub columns_given : Input → Result (List NamedColumn) ColumnFault
columns_given input = columns_by (form_for input.asked input.jobs) input.columns

-- the report of answers in each form, given the names of their jobs
abbrev pub report_in : Form → List (List ℕ) → List Answer → List ℕ
report_in form.Text names answers = report_text names answers
report_in form.Json names answers = report_json names answers

-- the report of the jobs that the input spells: what one thread writes that takes the jobs in file order and each
-- source in encounter order; a job that meets a fault has the first one as its answer
pub record IsReport (input : Input) (report : List ℕ) : Type 0 where
  pub columns : List NamedColumn
  pub given : columns_given input ≡ Ok columns
  pub jobs : List AbstractJob
  pub spelled : SpellsJobsWithin input.asked.newest input.jobs columns jobs
  pub written : report ≡ report_in input.asked.form (names_of jobs) (meaning_of jobs)
