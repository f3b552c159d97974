use Rattle.std.proofs.Common.{◌<◌, ◌≤◌}
use Rattle.run_settings.specs.SettingsParts.{threshold_of}
use Rattle.job_runner.proofs.nodes.most_positions.Given as goal

abbrev pub invariant-loop-doubled : goal.invariant-loop-doubled
invariant-loop-doubled g l = (0 < l.longest) × (threshold_of l.fn.settings ≤ l.longest)
