-- Meaning: what a lambda computes.
use Rattle.lambda_values.specs.declared.lambda.PairForm.{PairForm}
use Rattle.lambda_values.specs.declared.lambda.Body.{Body}
use Rattle.lambda_values.specs.declared.lambda.Body.TheVariants as body
use Rattle.lambda_values.specs.Streams.{Inner, inner_of}
use Rattle.lambda_values.specs.Term.{Long, Truth, long_of, truth_of}

-- a lambda: an expression whose value is a number, a boolean or a stream, or the form of one with two parameters
pub data AbstractLambda : Type 0 where
  long : Long → AbstractLambda
  boolean : Truth → AbstractLambda
  stream : Inner → AbstractLambda
  pair : PairForm → AbstractLambda

-- what the body of a lambda of the program computes
abbrev pub body_of : Body → AbstractLambda
body_of (body.Long e) = long (long_of e)
body_of (body.Bool e) = boolean (truth_of e)
body_of (body.Stream e) = stream (inner_of e)
body_of (body.Pair f) = pair f
