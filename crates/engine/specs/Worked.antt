-- Design: a small job file of each version, with one job.
use Rattle.std.specs.Prelude.{ℕ, List, ◌++◌, codes, None}
use Rattle.run_settings.specs.TableSettings.{integers}
use Rattle.run_settings.specs.declared.settings.Form.TheVariants as form
use Rattle.engine.specs.Run.{Input}

-- a prefix up to a position that isn't there, and a number to give after its fault
abbrev pub job_text : List ℕ
job_text = codes "s = of(1).prefix(0, 2, sum).count().onFault(-1)"

-- what a run is given whose job file this is; there is no column file, the report is text, and version 2 is
-- the newest
abbrev pub jobs_alone : List ℕ → Input
jobs_alone bytes = record {
  columns = None;
  jobs = bytes;
  asked = record { form = form.Text; newest = 2; table = integers };
}

-- the job in a file of version 2
abbrev pub in_version_two : Input
in_version_two = jobs_alone (codes "version 2\n" ++ (job_text ++ codes "\n"))

-- the job in a file of version 1
abbrev pub in_version_one : Input
in_version_one = jobs_alone (job_text ++ codes "\n")
