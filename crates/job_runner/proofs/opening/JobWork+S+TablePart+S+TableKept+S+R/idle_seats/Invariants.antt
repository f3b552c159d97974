use Rattle.std.proofs.Common.{◌≡◌, length}
use Rattle.early_stop.specs.Seats.{table_of as stop_table_of}
use Rattle.job_runner.proofs.opening.JobWork+S+TablePart+S+TableKept+S+R.idle_seats.Given as goal

abbrev pub invariant-loop-made : goal.invariant-loop-made
invariant-loop-made g l = (length l.idles.items ≡ l.made) × (stop_table_of l.stop_left ≡ g.R.RunBrand.stops)
