use Rattle.std.proofs.Common.{◌-◌, arith, rules, Fits, w64}
use Rattle.job_language.proofs.CauseLemmas.{ends_at}
use Rattle.job_language.proofs.causes.part_start.Goals as goal

pub overflow_add-result : goal.overflow_add-result
overflow_add-result c =
    let before = ends_at 0 c.args.ends.now c.args.most (c.args.place - 1) (omega arith) c.requires.in_order in
    let fits : Fits w64 c.args.most = search rules in
    omega (arith, c.if-place-eq0.false, c.requires.in_range, before.1)
