use Rattle.std.proofs.Common.{◌<◌, ◌+◌, ◌-◌, ◌*◌, ◌%◌, ◌^◌, ◌∙◌, ap, arith, rules}
use Rattle.batch_eval.proofs.ReciprocalLemmas.{short_rest_is}
use Rattle.batch_eval.proofs.division.short_rest.Goals as goal

pub returns : goal.returns
returns c =
    let n = c.args.n in
    let q = c.args.quotient in
    let b = 2 ^ 32 in
    let fits : c.args.divisor < b = search rules in
    ap (λ d. (n % b + (b * b - q % b * d)) % (b * b) % b) c.from.ensures
    ∙ short_rest_is b n q c.args.divisor (omega arith) (omega (arith, fits)) c.requires.least c.requires.most
