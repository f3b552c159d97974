use Rattle.std.proofs.Common.{◌≡◌, ℕ, ◌<◌, ℤ, List, get_or, ap, ◌∙◌, rules}
use Rattle.std.proofs.lemmas.List.{places, with_items_is}
use Rattle.std.specs.Vec.{with_items}
use Rattle.batch_eval.specs.Lanes.{at}
use Rattle.batch_eval.specs.Batches.{passing, origin_at}
use Rattle.batch_eval.proofs.SetItemLemmas.{kept_lanes}
use Rattle.batch_eval.proofs.batch.Batch.keep.Goals as goal

pub returns : goal.returns
returns c =
    let b = c.self.inside in
    let flags = c.args.flags.now in
    let values = c.keep_lanes-self-inside.new.values in
    let origins = c.keep_lanes-self-inside.new.origins in
    let kept = c.keep_lanes-self-inside.ensures in
    let n = c.keep_lanes-self-inside.result in
    let values_are = with_items_is b.values values (search (rules, places)) in
    let origins_are = with_items_is b.origins origins (search (rules, places)) in
    let new_values = with_items b.values values in
    let new_origins = with_items b.origins origins in
    let value : (j : ℕ) → j < n → at new_values.items j ≡ at b.values.items (get_or (passing flags b.live) j 0) =
    λ j below. ap (λ (xs : List ℤ). at xs j) values_are ∙ kept.values j below
    ∙ ap (λ (xs : List ℤ). at xs (get_or (passing flags b.live) j 0)) c.deref_mut.ensures.value in
    let origin : (j : ℕ) → j < n → get_or new_origins.items j 0
    ≡ origin_at b.start b.origins.items (get_or (passing flags b.live) j 0) =
    λ j below. ap (λ (xs : List ℕ). get_or xs j 0) origins_are ∙ kept.origins j below
    ∙ ap (λ (xs : List ℕ). origin_at b.start xs (get_or (passing flags b.live) j 0)) c.deref_mut-2.ensures.value in
    kept_lanes b.live b.start b.origins.items b.values.items flags b.end c.args.self.now new_values.items
    new_origins.items n kept.count value origin c.self.view_is
