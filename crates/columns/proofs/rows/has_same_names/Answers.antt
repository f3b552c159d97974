use Rattle.std.proofs.Common.{◌∙◌, ◌+◌, sym}
use Rattle.std.proofs.lemmas.List.{take_rest}
use Rattle.columns.proofs.RowLemmas.{has_twice_at}
use Rattle.columns.proofs.rows.has_same_names.Goals as goal

pub returns-then-is_named : goal.returns-then-is_named
returns-then-is_named c =
    sym (has_twice_at c.args.columns.now c.loop-place.place c.index-columns-place.result _ _ _ c.loop-place-test.true
    c.index-columns-place.is c.as_slice.ensures.value
    (take_rest c.args.columns.now (c.loop-place.place + 1)) c.if-is_named.ensures)
    ∙ c.loop-place.invariant

pub loop-place-preserved : goal.loop-place-preserved
loop-place-preserved c =
    sym (has_twice_at c.args.columns.now c.loop-place.place c.index-columns-place.result _ _ _ c.loop-place-test.true
    c.index-columns-place.is c.as_slice.ensures.value
    (take_rest c.args.columns.now (c.loop-place.place + 1)) c.if-is_named.ensures)
    ∙ c.loop-place.invariant
