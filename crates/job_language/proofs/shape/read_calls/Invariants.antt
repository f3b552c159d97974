use Rattle.std.proofs.Common.{◌-◌, length}
use Rattle.lambda_expr.specs.CodeWords.{words_in}
use Rattle.job_language.specs.Shapes.{IsReading}
use Rattle.job_language.proofs.shape.read_calls.Given as goal

abbrev pub invariant-loop-reader : goal.invariant-loop-reader
invariant-loop-reader l = IsReading (words_in l.text) l.reader

abbrev pub decreases-loop-reader : goal.decreases-loop-reader
decreases-loop-reader l = length l.text.tokens - l.reader.at
