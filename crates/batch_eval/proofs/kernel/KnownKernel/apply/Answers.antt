use Rattle.std.proofs.Common.{◌≡◌, ◌≤◌, Option, ap, arith, false, nat_lt, sym}
use Rattle.std.proofs.lemmas.Grind.{common_steps}
use Rattle.std.proofs.lemmas.Option.{slice_get_past}
use Rattle.batch_eval.specs.declared.kernel.Infix.{Infix}
use Rattle.batch_eval.specs.declared.kernel.TheConstants.{OPERATORS}
use Rattle.batch_eval.specs.Lanes.{known_value}
use Rattle.batch_eval.proofs.kernel.KnownKernel.apply.Goals as goal

pub returns-in-None : goal.returns-in-None
returns-in-None g c =
    let outside : nat_lt g.row.N 26 ≡ false = sym c.in-None.ensures.lookup.0 in
    let past : 26 ≤ g.row.N = grind (arith, common_steps) in
    ap (λ (o : Option Infix). known_value o c.args.x c.args.y) (sym (slice_get_past OPERATORS g.row.N past))
