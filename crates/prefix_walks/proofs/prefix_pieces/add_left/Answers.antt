use Rattle.prefix_walks.specs.Scans.{IsFolded}
use Rattle.prefix_walks.proofs.PieceLemmas.{all_pushed}
use Rattle.prefix_walks.proofs.prefix_pieces.add_left.Goals as goal

pub returns-clause-folds : goal.returns-clause-folds
returns-clause-folds c = all_pushed (IsFolded c.args.op) c.args.pieces.now.items c.worked.result c.push.new.self.items
    c.in_ok-push.ensures.items c.requires.folds c.worked.ensures.folded
