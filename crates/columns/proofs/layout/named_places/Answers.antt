use Rattle.std.proofs.Common.{◌≡◌, ◌<◌, ◌∙◌, ◌++◌, ◌∷◌, [], ℕ, ap, false, get_or, length, map, refl, sym, true}
use Rattle.std.proofs.lemmas.List.{append-nil}
use Rattle.std.specs.List.{list_any}
use Rattle.std.specs.Str.{bytes_eq}
use Rattle.job_names.specs.ColumnKeys.{key_of}
use Rattle.columns.specs.TableForms.{all_places}
use Rattle.columns.proofs.KeyLemmas.{begun_enough, filter_more}
use Rattle.columns.proofs.RowLemmas.{list_any_mapped}
use Rattle.columns.proofs.layout.named_places.Goals.{then-is_named+in_ok-push, else-is_named}
use Rattle.columns.proofs.layout.named_places.Goals as goal

pub loop-places-preserved : goal.loop-places-preserved
loop-places-preserved c =
    let i = c.loop-places.places-index in
    let test = λ (p : ℕ). list_any (bytes_eq (key_of c.args.name.now p)) (map (λ key. key.items) c.args.keys.now) in
    let so_far = c.loop-places.invariant.1 in
    let room : i < length all_places = c.loop-places-test.true in
    let places = get_or all_places i 0 in
    let keys = map (λ key. key.items) c.args.keys.now in
    let begun = c.in_ok-begun.begun in
    let tests = bytes_eq (key_of c.args.name.now places) in
    let mapped : list_any (λ key. tests key.now) begun.items ≡ test places =
    sym (list_any_mapped tests (λ key. key.now) begun.items) ∙ ap (list_any tests) c.in_ok-begun.ensures
    ∙ begun_enough c.args.name.now places keys in (
      refl,
      elim c.if-is_named.branch [
        | then-is_named+in_ok-push w ↦
            let yes : test places ≡ true =
            sym mapped ∙ ap (list_any (λ key. tests key.now)) (sym c.deref.ensures.value)
            ∙ sym w.if-is_named.ensures in
            rw w.named-is (w.in_ok-push.ensures.items ∙ ap (λ l. l ++ places ∷ []) so_far
            ∙ sym (filter_more test all_places i true room yes))
        | else-is_named w ↦
            let none_left : test places ≡ false =
            sym mapped ∙ ap (list_any (λ key. tests key.now)) (sym c.deref.ensures.value)
            ∙ sym w.if-is_named.ensures in
            rw w.named-is (so_far ∙ sym (append-nil _) ∙ sym (filter_more test all_places i false room none_left))
      ],
    )
