use Rattle.std.proofs.Common.{◌≡◌, ◌==◌, ◌-◌, false, drop, get_or, sym, take}
use Rattle.columns.proofs.TextLemmas.{bare_in, three_some}
use Rattle.columns.proofs.text_cell.cell_end.Goals as goal

pub returns-clause-goes : goal.returns-clause-goes
returns-clause-goes c =
    let text = c.args.text.now in
    let at = c.args.at in
    let m = c.mark_from.ensures in
    let first : (get_or text at 0 == 34) ≡ false = sym c.if-has_quote.ensures.quote in
    three_some _ _ _ _ c.mark_from.result m.within m.none m.mark (λ end within none mark. (
      take (end - at) (drop at text),
      bare_in c.args.separator text at end c.requires.separator within.0 within.1 none
          first mark,
    ))
