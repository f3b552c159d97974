use Rattle.std.proofs.Common.{◌≡◌, ◌<◌, ◌+◌, ◌∙◌, arith, drop, get_or, length, map, refl, rules, sym}
use Rattle.std.proofs.lemmas.List.{drop_more, length-map}
use Rattle.tables.specs.TableOfColumns.{named}
use Rattle.columns.specs.TextRows.{HaveRows}
use Rattle.columns.proofs.EvenLemmas.{AreEven-first, AreEven-row}
use Rattle.columns.proofs.TextRowLemmas.{AreReadIn-join, AreReadIn-none, AreReadIn-row, AreReadIn-skip}
use Rattle.columns.proofs.text_rows.read_text_rows.Goals as goal

pub loop-at-init : goal.loop-at-init
loop-at-init c = (
  omega (arith, c.requires.within.0, c.requires.within.1),
  omega arith,
  refl,
  c.requires.even,
  AreReadIn-none _ _ _ _ _,
)

pub loop-at-preserved-then-is_line_end : goal.loop-at-preserved-then-is_line_end
loop-at-preserved-then-is_line_end c =
    let text = c.args.text.now in
    let at = c.loop-at.at in
    let (low, from, wide, even, so_far) = c.loop-at.invariant in
    let here = drop_more text at 0 (search rules) in (
      search rules,
      omega (arith, from),
      wide,
      even,
      AreReadIn-skip _ _ _ _ (drop (at + 1) text) (get_or text at 0) _ _ (search rules) (rw here at so_far),
    )

pub loop-at-preserved : goal.loop-at-preserved
loop-at-preserved c =
    let text = c.args.text.now in
    let at = c.loop-at.at in
    let (low, from, wide, even, so_far) = c.loop-at.invariant in
    let here = drop_more text at 0 (search rules) in
    let row = c.in-Some.ensures.read in
    let next = rw here at row in
    let one = AreReadIn-row _ _ _ (drop (at + 1) text) _ (get_or text at 0) _ _ (search rules) next in (
      c.in-Some.ensures.on.1,
      omega (arith, from, c.in-Some.ensures.on.0),
      search rules,
      rw row.put (AreEven-row _ _ even),
      AreReadIn-join _ _ _ _ _ _ _ _ _ so_far (rw (sym here) at one),
    )

pub returns-in_default-clause-read : goal.returns-in_default-clause-read
returns-in_default-clause-read c =
    let (low, from, wide, even, so_far) = c.loop-at.invariant in
    let rows = c.row_count-rows.result in
    let now = map named c.loop-at.columns in
    let some : 0 < length now = omega (arith, length-map c.loop-at.columns named, wide, c.requires.fits.some_column) in
    let have : HaveRows rows now = rw c.row_count-rows.ensures.rows (AreEven-first now some even) in
    let same : map named c.take_back.new.columns ≡ now = c.take_back.ensures ∙ c.in_default.ensures.begun rows have in
    rw same so_far
