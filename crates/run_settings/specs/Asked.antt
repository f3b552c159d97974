-- Meaning: what of the settings of a run its report depends on.
use Rattle.std.specs.Prelude.{ℕ}
use Rattle.run_settings.specs.declared.settings.Form.{Form}
use Rattle.run_settings.specs.declared.settings.Settings.{Settings}
use Rattle.run_settings.specs.declared.table.TableSetting.{TableSetting}
use Rattle.run_settings.specs.SettingsParts.{form_of, language_of, newest_in, table_of}

-- the form of the report, the newest version of job files that is read, and how the column file is read
pub record Asked : Type 0 where
  pub form : Form
  pub newest : ℕ
  pub table : TableSetting

-- what these settings ask for
abbrev pub asked_of : Settings → Asked
asked_of s = record { form = form_of s; newest = newest_in (language_of s); table = table_of s }
