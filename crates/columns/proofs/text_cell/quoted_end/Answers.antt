use Rattle.std.proofs.Common.{◌++◌, ◌-◌, drop, take}
use Rattle.columns.proofs.TextLemmas.{quoted_in, three_some}
use Rattle.columns.proofs.text_cell.quoted_end.Goals as goal

pub returns-clause-goes : goal.returns-clause-goes
returns-clause-goes c =
    let text = c.args.text.now in
    let from = c.in_ok-from.from in
    let (inside, goes) = c.in_ok-from.ensures.goes in
    let m = c.mark_from.ensures in
    three_some _ _ _ _ c.mark_from.result m.within m.none m.mark (λ end within none mark. (
      inside ++ take (end - from) (drop from text),
      quoted_in c.args.separator text inside c.args.at from end c.requires.separator c.requires.within c.requires.quote
          within.0 within.1 (goes c.args.separator) none c.in_ok-from.ensures.single mark,
    ))
