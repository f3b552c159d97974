use Rattle.std.proofs.Common.{◌≡◌, ◌∙◌, ◌++◌, ap, length, map, rules, subst, sym}
use Rattle.csv.specs.Reading.{strip_bom}
use Rattle.columns.specs.Fronts.{ArePutUnder}
use Rattle.tables.specs.TableOfColumns.{named}
use Rattle.columns.proofs.FrontLemmas.{ArePutUnder-none}
use Rattle.columns.proofs.MarkLemmas.{no_mark, strip_bom-mark}
use Rattle.columns.proofs.by_records.put_rest.Goals as goal

pub returns-then-is_empty-clause-put : goal.returns-then-is_empty-clause-put
returns-then-is_empty-clause-put c =
    let none : length c.args.bytes.now ≡ 0 = search rules in
    ArePutUnder-none c.args.layout.now c.args.bytes.now (map named c.args.columns.now) none

pub returns-then-not-has_mark-clause-put : goal.returns-then-not-has_mark-clause-put
returns-then-not-has_mark-clause-put c =
    let same : strip_bom c.args.bytes.now ≡ c.args.bytes.now =
    sym (no_mark c.args.bytes.now (sym c.if-not-has_mark.ensures.is)) in
    subst (λ text. ArePutUnder c.args.layout.now text (map named c.args.columns.now) c.put_records.result
    (map named c.put_records.new.columns)) same c.put_records.ensures.put

pub returns-clause-put : goal.returns-clause-put
returns-clause-put c =
    let bytes = c.args.bytes.now in
    let begun = c.in_ok-extend_from_slice.ensures.items ∙ ap (λ l. l ++ bytes) c.in_ok-text.ensures.items in
    let same : strip_bom c.deref.result.now ≡ bytes =
    ap strip_bom (c.deref.ensures.value ∙ begun) ∙ strip_bom-mark bytes in
    subst (λ text. ArePutUnder c.args.layout.now text (map named c.args.columns.now) c.put_records-2.result
    (map named c.put_records-2.new.columns)) same c.put_records-2.ensures.put
