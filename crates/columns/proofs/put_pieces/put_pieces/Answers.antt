use Rattle.std.proofs.Common.{◌∙◌, rules, sym}
use Rattle.columns.proofs.PieceLemmas.{put_all}
use Rattle.columns.proofs.put_pieces.put_pieces.Goals as goal

pub returns : goal.returns
returns g c is = put_all c.args.pieces.now c.args.columns.now c.put_columns.new.columns (search rules)
    c.put_columns.ensures (sym c.are_whole.ensures ∙ is)
