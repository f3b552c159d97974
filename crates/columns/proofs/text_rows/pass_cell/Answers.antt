use Rattle.std.proofs.Common.{◌≡◌, ◌==◌, ◌+◌, not, drop, get_or, rules}
use Rattle.std.proofs.lemmas.Bool.Decides.{nat_tests}
use Rattle.std.proofs.lemmas.List.{drop_more}
use Rattle.columns.proofs.TextLemmas.{ended_there}
use Rattle.columns.proofs.text_rows.pass_cell.Goals as goal

pub returns-clause-read : goal.returns-clause-read
returns-clause-read c =
    let text = c.args.text.now in
    let at = c.args.at in
    let s = c.args.separator in
    let end = c.in_ok-end.end in
    let (cell, goes) = c.in_ok-end.ensures.goes in
    let within = c.in_ok-end.ensures.within in
    let last : c.args.is_last ≡ not (get_or text end 0 == s) = search (rules, nat_tests) in
    record {
      cell = cell;
      reads = ended_there s (drop at text) cell (drop end text) c.args.is_last (drop (end + 1) text)
          (get_or text end 0, drop_more text end 0 within.1, c.in_ok-end.ensures.mark, last) goes;
    }
