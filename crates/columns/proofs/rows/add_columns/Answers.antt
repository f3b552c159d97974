use Rattle.std.proofs.Common.{◌≡◌, ◌∙◌, ◌∷◌, ◌++◌, [], ap, append_assoc, get_or, map, refl, sym, take}
use Rattle.std.proofs.lemmas.List.{map_push, take_more}
use Rattle.job_names.specs.ColumnKeys.{key_of}
use Rattle.columns.specs.Table.{columns_under}
use Rattle.tables.specs.TableOfColumns.{named}
use Rattle.columns.proofs.RowLemmas.{columns_under-append}
use Rattle.columns.proofs.rows.add_columns.Goals as goal

pub loop-at-preserved : goal.loop-at-preserved
loop-at-preserved c =
    let places = c.args.places.now in
    let name = c.args.name.now in
    let at = c.loop-at.at in
    let so_far = c.loop-at.invariant in
    let before = map named c.args.columns.now.items in
    let front = columns_under (map (key_of name) (take at places)) [] in
    let key = key_of name (get_or places at 0) in
    let columns : map named c.push.new.self.items ≡ (before ++ front) ++ record { name = key; cells = [] } ∷ [] =
    rw (c.in_ok-push.ensures.items, map_push named, so_far, c.in_ok-key_of.ensures, c.in_ok-with_capacity.ensures.items)
    refl in
    columns ∙ append_assoc before front (record { name = key; cells = [] } ∷ [])
    ∙ ap (λ l. before ++ l) (sym (columns_under-append (map (key_of name) (take at places)) (key ∷ [])))
    ∙ ap (λ l. before ++ columns_under l [])
    (sym (map_push (key_of name) (take at places) (get_or places at 0))
    ∙ ap (map (key_of name)) (sym (take_more places at 0 c.loop-at-test.true)))
