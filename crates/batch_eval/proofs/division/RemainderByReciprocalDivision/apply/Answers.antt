use Rattle.std.proofs.Common.{◌≡◌, ◌%◌, rules, unsigned_abs}
use Rattle.std.specs.Prelude.{int_rem}
use Rattle.lambda_values.specs.Wrap.{wrap}
use Rattle.batch_eval.specs.Powers.{with_sign_of}
use Rattle.batch_eval.proofs.ReciprocalLemmas.{divisor_counts, rest_is}
use Rattle.batch_eval.proofs.division.RemainderByReciprocalDivision.apply.Goals as goal

pub returns : goal.returns
returns g c =
    let x = c.args.x in
    let y = g.R.Divisor.number c.args.by in
    let size : c.rest.result ≡ unsigned_abs x % unsigned_abs y = search rules in
    let signed : c.signed_as.result ≡ wrap (with_sign_of x c.rest.result) = search rules in
    let is : c.signed_as.result ≡ int_rem x y = rest_is x y c.signed_as.result c.rest.result c.ranges.x size signed in
    rw (divisor_counts y c.rest.ensures.above) (search (rules, is))
