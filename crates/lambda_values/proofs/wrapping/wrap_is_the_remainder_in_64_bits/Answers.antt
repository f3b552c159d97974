use Rattle.std.specs.Int.{w64}
use Rattle.std.proofs.lemmas.Int.{SFits-int_wrap}
use Rattle.lambda_values.proofs.Multiples.{wrap_differs, wrap_only}
use Rattle.lambda_values.proofs.wrapping.wrap_is_the_remainder_in_64_bits.Goals as goal

pub returns-clause-in_range : goal.returns-clause-in_range
returns-clause-in_range c = SFits-int_wrap w64

pub returns-clause-differs : goal.returns-clause-differs
returns-clause-differs c = wrap_differs

pub returns-clause-only : goal.returns-clause-only
returns-clause-only c = wrap_only
