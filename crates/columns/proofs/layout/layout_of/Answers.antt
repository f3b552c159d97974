use Rattle.std.proofs.Common.{◌≡◌, ◌∙◌, ◌+◌, ◌∷◌, ◌++◌, [], Some, take, arith, ap, sym, map, refl}
use Rattle.std.specs.Prelude.{slice_get}
use Rattle.std.proofs.lemmas.List.{map_push, take_more, take_all}
use Rattle.std.proofs.lemmas.Option.{slice_get_within, get_or_from_slice_get}
use Rattle.csv.specs.Records.{fields_of}
use Rattle.columns.specs.Layouts.{form_of, places_in}
use Rattle.columns.specs.TableForms.{looks_of}
use Rattle.columns.proofs.RowLemmas.{field_at_is, slice_get_end}
use Rattle.columns.proofs.layout.layout_of.Goals as goal

pub loop-name-preserved : goal.loop-name-preserved
loop-name-preserved c =
    let fields = fields_of c.args.header.now in
    let at = c.loop-name.name-iterator.at in
    let name = c.in-Some.name.now in
    let so_far = c.loop-name.invariant in
    let step = rw (c.in-Some.is, so_far.0) at c.next.ensures.steps in
    let there : slice_get fields at ≡ Some name = sym (step.1 ∙ field_at_is fields at) in
    let within = slice_get_within fields at name there in
    let wanted = looks_of (form_of c.args.form.now) in
    let names : take (at + 1) fields ≡ take at fields ++ name ∷ [] =
    take_more fields at [] within ∙ ap (λ n. take at fields ++ n ∷ [])
    (get_or_from_slice_get fields at name [] there) in
    let looks : map places_in c.push.new.self.items ≡ map wanted (take at fields) ++ wanted name ∷ [] =
    ap (map places_in) c.in_ok-push.ensures.items ∙ map_push places_in c.loop-name.looks.items c.in_ok-look_of.field-0
    ∙ ap (λ l. l ++ places_in c.in_ok-look_of.field-0 ∷ []) so_far.2
    ∙ ap (λ m. map wanted (take at fields) ++ m ∷ []) c.in_ok-look_of.ensures in (
      ap (λ r. r.now) step.0,
      omega (arith, step.2, within),
      looks ∙ rw (step.2, names) (sym (map_push wanted (take at fields) name)),
    )

pub returns : goal.returns
returns c =
    let fields = fields_of c.args.header.now in
    let at = c.loop-name.name-iterator.at in
    let so_far = c.loop-name.invariant in
    let step = rw (c.in-None.is, so_far.0) at c.next.ensures.steps in
    let past = slice_get_end fields at (sym (step.1 ∙ field_at_is fields at)) in
    record {
      separator = c.byte.ensures;
      blank = refl;
      looks = so_far.2 ∙ ap (map (looks_of (form_of c.args.form.now))) (take_all at fields past);
    }
