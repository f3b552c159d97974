use Rattle.std.proofs.Common.{rules}
use Rattle.run_settings.proofs.settings.Settings.of.Goals as goal

pub returns-then-within-clause-none : goal.returns-then-within-clause-none
returns-then-within-clause-none c = search rules
