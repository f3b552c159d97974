use Rattle.std.proofs.Common.{sym, subst, ◌∙◌}
use Rattle.sort_ops.specs.NewValues.{AreAmong}
use Rattle.sort_ops.specs.Parts.{values_in}
use Rattle.sort_ops.proofs.NotedLemmas.{either_among, pair_among}
use Rattle.sort_ops.proofs.noted.Noted.has.Goals as goal

pub returns-in-Some : goal.returns-in-Some
returns-in-Some c = λ found xs all.
    let p = c.in-Some.noted.now in
    let at = c.in-Some.ensures.lookup in
    let are = pair_among (values_in xs) c.deref.result.now c.place.result p at.3.0 at.1
    (subst (AreAmong (values_in xs)) (sym c.deref.ensures.value) all) in
    either_among (values_in xs) c.args.item.value p.0 p.1 are.0 are.1 (sym c.is_either.ensures ∙ found)
