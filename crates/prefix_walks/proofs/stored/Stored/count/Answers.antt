use Rattle.std.proofs.Common.{length, sym, ap, ◌∙◌, rules, ◌≡◌}
use Rattle.prefix_walks.proofs.PlacingLemmas.{length_at}
use Rattle.prefix_walks.proofs.stored.Stored.count.Goals as goal

pub returns : goal.returns
returns c =
    let s = c.self.inside in
    let len : c.len.result ≡ length s.values.items = search rules in
    len ∙ sym (length_at s.start s.places.items s.values.items c.self.invariant.0.paired) ∙ ap length c.self.view_is
