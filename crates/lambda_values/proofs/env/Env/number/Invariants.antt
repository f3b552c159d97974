use Rattle.std.proofs.Common.{◌≡◌, drop}
use Rattle.lambda_values.specs.Earlier.{number_under}
use Rattle.lambda_values.proofs.env.Env.number.Given as goal

abbrev pub invariant-loop-earlier : goal.invariant-loop-earlier
invariant-loop-earlier l = number_under l.name (drop l.earlier-index l.numbers) ≡ number_under l.name l.numbers
