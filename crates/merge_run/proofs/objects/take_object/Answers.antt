use Rattle.merge_run.proofs.ObjectLemmas.{named_object}
use Rattle.merge_run.proofs.objects.take_object.Goals as goal

pub returns-clause-complete : goal.returns-clause-complete
returns-clause-complete c = λ name a rest plain held same.
    let named = named_object c.args.names.now name a rest c.args.bytes.now c.in_default.ensures
    c.in_default-after.ensures same in
    c.take_named.ensures.complete name a rest plain named.0 held named.1
