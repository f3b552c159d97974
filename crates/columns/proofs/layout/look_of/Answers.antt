use Rattle.std.proofs.Common.{◌∙◌, ap, map}
use Rattle.columns.specs.TableForms.{looks_or, named_looks}
use Rattle.columns.proofs.layout.look_of.Goals as goal

pub returns : goal.returns
returns c =
    c.look_with.ensures
    ∙ ap (λ l. looks_or l c.args.form.now.is_all)
    (c.in_ok-places.ensures ∙ ap (λ keys. named_looks (map (λ key. key.items) keys) c.args.name.now)
    c.deref.ensures.value)
