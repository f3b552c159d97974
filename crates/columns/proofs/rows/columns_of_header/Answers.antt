use Rattle.std.proofs.Common.{◌≡◌, ◌∙◌, ap, arith, false, map, sym, true}
use Rattle.std.proofs.lemmas.Bool.Decides.{nat_tests}
use Rattle.std.proofs.lemmas.List.{length-map}
use Rattle.csv.specs.Records.{fields_of}
use Rattle.columns.specs.Layouts.{places_in}
use Rattle.columns.specs.Refusals.{has_twice}
use Rattle.columns.specs.TableForms.{kept_names}
use Rattle.columns.proofs.KeptLemmas.{length-kept_names}
use Rattle.columns.proofs.RowLemmas.{names_under_header}
use Rattle.columns.proofs.rows.columns_of_header.Goals as goal

pub returns-then-count-gt-MAX_COLUMNS-clause-refused : goal.returns-then-count-gt-MAX_COLUMNS-clause-refused
returns-then-count-gt-MAX_COLUMNS-clause-refused c other =
    let count = c.look_count-count.ensures.least in
    let many = c.if-count-gt-MAX_COLUMNS.true in
    let long = length-kept_names (map places_in c.args.looks.now) (fields_of c.args.header.now)
    (sym (length-map c.args.looks.now places_in ∙ c.requires)) in
    grind (arith, nat_tests, count, many, long)

pub returns-then-has_same_names-clause-refused : goal.returns-then-has_same_names-clause-refused
returns-then-has_same_names-clause-refused c other =
    let header = kept_names (map places_in c.args.looks.now) (fields_of c.args.header.now) in
    let names = names_under_header c.in_ok-columns.columns.items header c.in_ok-columns.ensures in
    let twice : has_twice header ≡ true =
    sym (c.if-has_same_names.ensures ∙ ap (λ l. has_twice (map (λ k. k.name.items) l)) c.deref.ensures.value
    ∙ ap has_twice names) in
    let few = c.if-count-gt-MAX_COLUMNS.false in
    let count = c.look_count-count.ensures.exact (omega (arith, few)) in
    let long = length-kept_names (map places_in c.args.looks.now) (fields_of c.args.header.now)
    (sym (length-map c.args.looks.now places_in ∙ c.requires)) in
    grind (arith, nat_tests, twice, count, few, long)

pub returns-clause-fits : goal.returns-clause-fits
returns-clause-fits c =
    let header = kept_names (map places_in c.args.looks.now) (fields_of c.args.header.now) in
    let names = names_under_header c.in_ok-columns.columns.items header c.in_ok-columns.ensures in
    let once : has_twice header ≡ false =
    sym (c.if-has_same_names.ensures ∙ ap (λ l. has_twice (map (λ k. k.name.items) l)) c.deref.ensures.value
    ∙ ap has_twice names) in
    let few = c.if-count-gt-MAX_COLUMNS.false in
    let count = c.look_count-count.ensures.exact (omega (arith, few)) in
    let long = length-kept_names (map places_in c.args.looks.now) (fields_of c.args.header.now)
    (sym (length-map c.args.looks.now places_in ∙ c.requires)) in
    grind (arith, nat_tests, once, count, few, long)
