use Rattle.std.proofs.Common.{rules}
use Rattle.std.proofs.lemmas.Int.{wraps}
use Rattle.std.specs.Int.{int_wrap}
use Rattle.batch_eval.proofs.number_test.to_least.Goals as goal

pub returns : goal.returns
unfolding int_wrap
returns c = search (rules, wraps)
