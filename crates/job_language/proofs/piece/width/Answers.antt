use Rattle.std.proofs.Common.{◌<◌, length, rules, arith, Fits, w64}
use Rattle.job_language.proofs.PieceReads.{width_last}
use Rattle.job_language.proofs.piece.width.Goals as goal

pub overflow_add-result : goal.overflow_add-result
overflow_add-result c =
    let some : 0 < length c.args.ends.now = search rules in
    let fits : Fits w64 c.args.most = search rules in
    omega (arith, width_last c.args.ends.now some, c.requires)

pub returns-in_default : goal.returns-in_default
returns-in_default c =
    let some : 0 < length c.args.ends.now = search rules in
    width_last c.args.ends.now some
