use Rattle.std.proofs.Common.{◌≡◌, ◌≢◌, ◌<◌, ◌≤◌, ◌+◌, [], List, All, length, get_or, set, flat_map, ap, sym, ◌∙◌}
use Rattle.std.proofs.Common.{arith, Vec, Global, subst}
use Rattle.std.proofs.lemmas.List.{get_or-take, length-take-le}
use Rattle.std.proofs.lemmas.List.Elements.{All-take, All-set}
use Rattle.lambda_values.specs.declared.item.Item.{Item}
use Rattle.trace.proofs.CutLemmas.{next_exists, first_of, kept_front}
use Rattle.trace.proofs.chunk.shortening.keep_front.Goals as goal

pub returns-clause-items : goal.returns-clause-items
returns-clause-items c =
    let ps = c.args.pieces.now.items in
    let piece = c.index_mut.result.now in
    let some : 0 < c.args.within = let h = c.if-within-eq0.false in omega arith in
    let next = c.requires.inside.next some in
    let here : c.args.whole < length c.args.pieces.now.items =
    next_exists (λ (p : Vec Item Global). p.items) c.args.pieces.now.items c.args.whole (omega arith) in
    let is : c.index_mut.result.now ≡ get_or c.args.pieces.now.items c.args.whole c.index_mut.result.now =
    c.index_mut.ensures.value ∙ ap (λ qs. get_or qs c.args.whole c.index_mut.result.now) c.truncate-2.ensures.items
    ∙ get_or-take (c.args.whole + 1) c.args.pieces.now.items c.args.whole c.index_mut.result.now (omega arith) in
    let few : c.args.within ≤ length c.index_mut.result.now.items = let l =
    ap length (first_of (λ (p : Vec Item Global). p.items) c.args.pieces.now.items c.args.whole
    c.index_mut.result.now here is) in omega arith in
    ap (λ qs. flat_map (λ (p : Vec Item Global). p.items) (set qs c.args.whole c.truncate-3.new.self))
    c.truncate-2.ensures.items
    ∙ kept_front (λ (p : Vec Item Global). p.items) ps c.args.whole c.args.within piece c.truncate-3.new.self here is
    few c.truncate-3.ensures.items

pub returns-clause-full : goal.returns-clause-full
returns-clause-full c all =
    let some : 0 < c.args.within = let h = c.if-within-eq0.false in omega arith in
    let next = c.requires.inside.next some in
    let here : c.args.whole < length c.args.pieces.now.items =
    next_exists (λ (p : Vec Item Global). p.items) c.args.pieces.now.items c.args.whole (omega arith) in
    let is : c.index_mut.result.now ≡ get_or c.args.pieces.now.items c.args.whole c.index_mut.result.now =
    c.index_mut.ensures.value ∙ ap (λ qs. get_or qs c.args.whole c.index_mut.result.now) c.truncate-2.ensures.items
    ∙ get_or-take (c.args.whole + 1) c.args.pieces.now.items c.args.whole c.index_mut.result.now (omega arith) in
    let few : c.args.within ≤ length c.index_mut.result.now.items = let l =
    ap length (first_of (λ (p : Vec Item Global). p.items) c.args.pieces.now.items c.args.whole
    c.index_mut.result.now here is) in omega arith in
    let size = ap length c.truncate-3.ensures.items ∙ length-take-le c.args.within c.index_mut.result.now.items few in
    let kept = subst (λ (qs : List (Vec Item Global)). All (λ (p : Vec Item Global). p.items ≢ []) qs)
    (sym c.truncate-2.ensures.items)
    (All-take (λ (p : Vec Item Global). p.items ≢ []) (c.args.whole + 1) c.args.pieces.now.items all) in
    All-set (λ (p : Vec Item Global). p.items ≢ []) c.truncate-2.new.self.items c.args.whole c.truncate-3.new.self
    (λ e. absurd (let z = ap length e in omega arith)) kept
