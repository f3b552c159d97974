use Rattle.std.proofs.Common.{◌≡◌, ◌++◌, All, sym, subst, rules}
use Rattle.std.proofs.lemmas.List.Elements.{All-append}
use Rattle.prefix_walks.specs.Scans.{IsFolded}
use Rattle.prefix_walks.proofs.prefix_part.PrefixPart.append.Goals as goal

pub invariant_of-self-2 : goal.invariant_of-self-2
invariant_of-self-2 c =
    let left = c.self.inside in
    let right = c.right.inside in
    let same : right.prefix.op ≡ left.prefix.op = search rules in
    let both : c.append.new.self.items ≡ left.pieces.items ++ right.pieces.items = search rules in
    subst (λ ps. All (IsFolded left.prefix.op) ps) (sym both)
    (All-append (IsFolded left.prefix.op) left.pieces.items right.pieces.items c.self.invariant
    (subst (λ o. All (IsFolded o) right.pieces.items) same c.right.invariant))
