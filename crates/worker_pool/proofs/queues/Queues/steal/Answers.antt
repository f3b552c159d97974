use Rattle.std.proofs.Common.{◌≡◌, ◌∙◌, map, length, ap, refl, rules, sym}
use Rattle.std.proofs.Math.Seq.{map-set_same}
use Rattle.std.proofs.lemmas.List.{with_items_is, length-map}
use Rattle.deques.specs.Handles.{thief_calls}
use Rattle.worker_pool.proofs.queues.Queues.steal.Goals as goal

pub loop-thief-preserved : goal.loop-thief-preserved
loop-thief-preserved g c =
    let kept : thief_calls c.steal.new.self ≡ thief_calls c.thief-item.result = search rules in
    map-set_same (λ t. thief_calls t) c.loop-thief.thief-items c.loop-thief.thief-index c.steal.new.self
    c.thief-item.result (kept ∙ ap (λ t. thief_calls t) c.thief-item.is) ∙ c.loop-thief.invariant

pub returns : goal.returns
returns g c =
    let same : length c.loop-thief.thief-items ≡ length c.args.self.now.others.items = search (rules, length-map) in
    let written = with_items_is c.args.self.now.others c.loop-thief.thief-items
    (same ∙ sym c.args.self.now.others.ok.0) in
    record {
      none = record {
        own = refl;
        others = ap (λ ts. map (λ t. thief_calls t) ts) written ∙ c.loop-thief.invariant;
        door = refl;
      };
    }
