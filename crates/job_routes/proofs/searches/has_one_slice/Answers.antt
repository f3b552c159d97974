use Rattle.std.proofs.Common.{◌≡◌, ◌∷◌, ◌≤◌, suc, List, length, ap, ◌∙◌, rules}
use Rattle.job_routes.specs.declared.leg.Link.{Link}
use Rattle.job_routes.specs.Legs.{number_after}
use Rattle.job_routes.proofs.RouteLemmas.{no_items}
use Rattle.job_routes.proofs.searches.has_one_slice.Goals as goal

pub returns : goal.returns
returns c = λ yes.
    let link = c.in-Some.link.now in
    let later = c.in-Some.later.now in
    let split : c.args.leg.now.links.items ≡ link ∷ later = search rules in
    let none : length later ≡ 0 = search rules in
    let next : c.args.leg.now.last.stages.first ≡ suc (number_after link.stages) = search rules in
    let few : number_after link.stages ≤ 31 = search rules in
    record {
      link = link;
      only = split ∙ ap (λ (ls : List Link). link ∷ ls) (no_items later none);
      other = c.gains.ensures yes;
      next = next;
      few = few;
    }
