use Rattle.std.proofs.Common.{◌≡◌, ◌+◌, ◌-◌, ◌≤◌, ℕ, Option, Some, None, take, drop, length, sym, ap, ◌∙◌, arith, rules}
use Rattle.std.proofs.lemmas.List.{get_or-drop, get_or-take}
use Rattle.batch_eval.specs.Batches.{laid_items, origin_at}
use Rattle.batch_eval.proofs.LaneLemmas.{part_items}
use Rattle.batch_eval.proofs.lane_items.LaneItems.part.Goals as goal

pub returns-in_default-clause-items : goal.returns-in_default-clause-items
returns-in_default-clause-items c =
    let l = c.args.self in
    let p = c.args.from in
    let n = p + c.args.count - p in
    let os = l.places.now in
    let same : n ≡ c.args.count = omega arith in
    let none_there : l.start ≡ None = search rules in
    let within : p + n ≤ length l.values.now = omega (arith, c.requires) in
    part_items l.start None os (take n (drop p os)) l.values.now p n within (λ k below.
    ap (λ (o : Option ℕ). origin_at o os (p + k)) none_there
    ∙ sym (get_or-take n (drop p os) k 0 below ∙ get_or-drop p os k 0))
    ∙ ap (λ (m : ℕ). take m (drop p (laid_items l.start os l.values.now))) same

pub returns-clause-items : goal.returns-clause-items
returns-clause-items c =
    let l = c.args.self in
    let p = c.args.from in
    let n = p + c.args.count - p in
    let os = l.places.now in
    let first = c.in-Some.start in
    let same : n ≡ c.args.count = omega arith in
    let within : p + n ≤ length l.values.now = omega (arith, c.requires) in
    part_items l.start (Some (first + p)) os os l.values.now p n within (λ k below.
    let on : first + (p + k) ≡ first + p + k = omega arith in
    ap (λ (o : Option ℕ). origin_at o os (p + k)) c.in-Some.is ∙ on)
    ∙ ap (λ (m : ℕ). take m (drop p (laid_items l.start os l.values.now))) same
