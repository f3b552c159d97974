-- Meaning: the parts of the settings of a run.
use Rattle.std.specs.Prelude.{Bool, ℕ}
use Rattle.run_settings.specs.declared.settings.Form.{Form}
use Rattle.run_settings.specs.declared.settings.Language.{Language}
use Rattle.run_settings.specs.declared.settings.Language.TheVariants as language
use Rattle.run_settings.specs.declared.settings.Settings.{Settings}
use Rattle.run_settings.specs.declared.table.TableSetting.{TableSetting}

abbrev pub workers_of : Settings → ℕ
workers_of s = s.workers

abbrev pub threshold_of : Settings → ℕ
threshold_of s = s.threshold

-- whether a run may also cut pieces of no more items than the threshold
abbrev pub is_adaptive : Settings → Bool
is_adaptive s = s.is_adaptive

abbrev pub nodes_of : Settings → ℕ
nodes_of s = s.nodes

-- the form of the report
abbrev pub form_of : Settings → Form
form_of s = s.form

-- the newest version of job files that is read
abbrev pub language_of : Settings → Language
language_of s = s.language

-- how the column file is read
abbrev pub table_of : Settings → TableSetting
table_of s = s.table

abbrev pub newest_in : Language → ℕ
newest_in language.Two = 2
newest_in language.Three = 3
