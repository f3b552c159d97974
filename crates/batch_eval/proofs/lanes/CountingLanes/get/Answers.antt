use Rattle.std.proofs.Common.{FitsSigned, pos, arith, rules, w64}
use Rattle.std.proofs.lemmas.Int.{wrapping_add_is}
use Rattle.batch_eval.proofs.lanes.CountingLanes.get.Goals as goal

pub returns : goal.returns
returns c =
    let fits : FitsSigned w64 c.args.self.0 = search rules in
    wrapping_add_is w64 c.args.self.0 (pos c.args.lane) fits (record { sfits = omega (arith, c.requires) })
