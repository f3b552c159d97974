use Rattle.prefix_walks.specs.Scans.{IsFolded}
use Rattle.prefix_walks.proofs.PieceLemmas.{all_pushed}
use Rattle.prefix_walks.proofs.prefix_pieces.add_at.Goals as goal

pub returns-clause-folds : goal.returns-clause-folds
returns-clause-folds g c =
    all_pushed (IsFolded c.args.op) c.add_to_last.new.pieces.items c.in_ok-piece.piece c.push.new.self.items
    c.in_ok-push.ensures.items c.in_ok-add_to_last.ensures.folds c.in_ok-piece.ensures.folded
