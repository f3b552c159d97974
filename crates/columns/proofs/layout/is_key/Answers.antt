use Rattle.std.proofs.Common.{◌≡◌, ◌∙◌, ◌+◌, ◌==◌, arith, false, get_or, inl, inr, length, rules, sym, true}
use Rattle.std.proofs.lemmas.Bool.Decides.{nat_tests}
use Rattle.columns.proofs.KeyLemmas.{key_differs, key_equal}
use Rattle.columns.proofs.layout.is_key.Goals.{then-key-count-ne34-via-then-key-count-ne34}
use Rattle.columns.proofs.layout.is_key.Goals.{then-key-count-ne34-via-else-key-count-ne34+then-key-count-2}
use Rattle.columns.proofs.layout.is_key.Goals as goal

pub returns-then-key-count-ne34 : goal.returns-then-key-count-ne34
returns-then-key-count-ne34 c =
    let name = c.args.name.now in
    let key = c.args.key.now in
    let places = c.args.places in
    let some : (places == 0) ≡ false = search (rules, nat_tests) in
    let long : length key ≡ length name + 2 = omega (arith, c.if-key-lt2.false, c.if-key-count.false) in
    elim c.then-key-count-ne34.branch [
      | then-key-count-ne34-via-then-key-count-ne34 w ↦
          let quote : (get_or key (length name) 0 == 34) ≡ false = search (rules, nat_tests) in
          sym (key_differs name key places some long (inl quote))
      | then-key-count-ne34-via-else-key-count-ne34+then-key-count-2 w ↦
          let last : (get_or key (length name + 1) 0 == places) ≡ false = search (rules, nat_tests) in
          sym (key_differs name key places some long (inr last))
    ]

pub returns : goal.returns
returns c =
    let name = c.args.name.now in
    let key = c.args.key.now in
    let places = c.args.places in
    let some : (places == 0) ≡ false = search (rules, nat_tests) in
    let long : length key ≡ length name + 2 = omega (arith, c.if-key-lt2.false, c.if-key-count.false) in
    let quote : (get_or key (length name) 0 == 34) ≡ true = search (rules, nat_tests) in
    let last : (get_or key (length name + 1) 0 == places) ≡ true = search (rules, nat_tests) in
    c.eq-2.ensures ∙ sym (key_equal name key places some long quote last)
