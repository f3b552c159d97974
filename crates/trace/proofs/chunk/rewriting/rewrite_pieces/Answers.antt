use Rattle.std.proofs.Common.{◌≡◌, ◌≢◌, [], ◌++◌, length, get_or, ◌<◌, ◌≤◌, refl, sym, ap, ◌∙◌, arith}
use Rattle.std.specs.List.{flat_map}
use Rattle.std.specs.Vec.{with_items}
use Rattle.std.proofs.Math.ListN.{drop_of_length-le}
use Rattle.std.proofs.lemmas.List.{append-nil, take_all, with_items_is}
use Rattle.std.proofs.lemmas.List.Elements.{All-set}
use Rattle.trace.proofs.RewriteLemmas.{piece_changed, as_many}
use Rattle.trace.proofs.chunk.rewriting.rewrite_pieces.Goals as goal

pub loop-piece-init : goal.loop-piece-init
loop-piece-init g c = (refl, λ full. full)

pub loop-piece-preserved : goal.loop-piece-preserved
loop-piece-preserved g c =
    let i = c.loop-piece.piece-index in
    let xs = c.loop-piece.piece-items in
    let x = c.piece-item.result in
    let y = with_items (get_or xs i x) c.rewrite.new.items in
    let within : i < length xs = omega (arith, c.loop-piece-test.true, c.loop-piece.auto.piece-items) in
    let lent : c.deref_mut.result.now ≡ x.items =
    c.deref_mut.ensures.value ∙ sym (ap (λ piece. piece.items) c.piece-item.is) in
    let written : y.items ≡ c.rewrite.new.items =
    with_items_is (get_or xs i x) c.rewrite.new.items (c.rewrite.ensures.count ∙ c.deref_mut.ensures.len) in
    let same : length y.items ≡ length (get_or xs i x).items =
    ap length written ∙ c.rewrite.ensures.count ∙ ap length c.deref_mut.ensures.value in (
      piece_changed (λ piece. piece.items) (g.R.Rewrite.rewritten c.loop-piece.pass)
          (g.R.Rewrite.rewritten c.rewrite.new.self) xs i x y within c.piece-item.is
          (λ rest. ap (λ items. g.R.Rewrite.rewritten c.loop-piece.pass (items ++ rest)) (sym lent)
          ∙ c.rewrite.ensures.next rest
          ∙ ap (λ items. items ++ g.R.Rewrite.rewritten c.rewrite.new.self rest) (sym written))
          ∙ c.loop-piece.invariant.0,
      λ full. let old = c.loop-piece.invariant.1 full in
          All-set (λ piece. piece.items ≢ []) xs i y (as_many (get_or xs i x).items y.items same (old i x within)) old,
    )

pub returns-clause-items : goal.returns-clause-items
returns-clause-items g c =
    let xs = c.loop-piece.piece-items in
    let i = c.loop-piece.piece-index in
    let end : length xs ≤ i = omega (arith, c.loop-piece-test.false, c.loop-piece.auto.piece-items) in
    let all = sym (take_all i xs end) in
    let rest = sym (drop_of_length-le xs end) in
    sym (append-nil (flat_map (λ piece. piece.items) xs))
    ∙ ap (λ items. flat_map (λ piece. piece.items) xs ++ items) (sym (g.R.Rewrite.nothing c.loop-piece.pass))
    ∙ (λ j. flat_map (λ piece. piece.items) (all j)
    ++ g.R.Rewrite.rewritten c.loop-piece.pass (flat_map (λ piece. piece.items) (rest j)))
    ∙ c.loop-piece.invariant.0

pub returns-clause-full : goal.returns-clause-full
returns-clause-full g c = c.loop-piece.invariant.1
