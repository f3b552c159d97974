use Rattle.std.proofs.Common.{◌≡◌, ◌∙◌, ap, sym, subst, true, false, Some}
use Rattle.pending_count.specs.declared.place.Place.{Place}
use Rattle.pending_count.specs.Seats.{view_of}
use Rattle.completer_tree.specs.Trees.{table_id_of, CanFork}
use Rattle.job_runner.specs.declared.cut.CutPiece.{CutPiece}
use Rattle.job_runner.specs.Tasks.{KnowsTop}
use Rattle.job_runner.proofs.SeatLemmas.{known_forked, top_still}
use Rattle.job_runner.proofs.Halves.{piece_as, half_piece}
use Rattle.job_runner.proofs.walking.JobWork+S+TablePart+S+TableKept+S+R.cut_side.Goals as goal

pub invariant_of-own : goal.invariant_of-own
invariant_of-own g c =
    let p = c.args.side in
    let s = c.in-Split in
    let cut = c.halves in
    let piece = c.side_at-piece.ensures in
    let whole = piece_as (cut.ensures.of.0 ∙ piece.of.0) (cut.ensures.of.1 ∙ piece.of.1)
    (cut.ensures.of.2 ∙ piece.positions.0) (cut.ensures.of.3 ∙ piece.positions.1) p.piece in
    let named : s.left.place.tag.job ≡ p.half.place.tag.job =
    ap (λ (q : Place CutPiece). q.tag.job) s.ensures.places.0 ∙ cut.ensures.of.0 ∙ piece.of.0 in
    record {
      can = subst (λ id. CanFork id s.left.place s.left.seat)
          (ap table_id_of c.new-tree.ensures.0 ∙ c.args.self.now.nodes.table) s.ensures.split.0;
      top = subst (λ j. KnowsTop (g.R.RunBrand.keeps j) s.left.place.root (view_of s.left.seat)) (sym named)
          (top_still (g.R.RunBrand.keeps p.half.place.tag.job) _ p.half.place s.left.place (view_of p.half.seat)
          (view_of s.left.seat) p.top s.ensures.tops.0);
      knows = known_forked (Some p.half.place) _ s.left.place (view_of p.half.seat) (view_of s.left.seat) p.knows
          s.ensures.tops.0 s.ensures.split.0.can_hand.rooted;
      piece = half_piece cut.result s.left.place.node s.left.place.root true s.left.place s.ensures.places.0
          cut.ensures.within whole;
    }

pub invariant_of-other : goal.invariant_of-other
invariant_of-other g c =
    let p = c.args.side in
    let s = c.in-Split in
    let cut = c.halves in
    let piece = c.side_at-piece.ensures in
    let whole = piece_as (cut.ensures.of.0 ∙ piece.of.0) (cut.ensures.of.1 ∙ piece.of.1)
    (cut.ensures.of.2 ∙ piece.positions.0) (cut.ensures.of.3 ∙ piece.positions.1) p.piece in
    let named : s.right.place.tag.job ≡ p.half.place.tag.job =
    ap (λ (q : Place CutPiece). q.tag.job) s.ensures.places.1 ∙ cut.ensures.of.0 ∙ piece.of.0 in
    record {
      can = subst (λ id. CanFork id s.right.place s.right.seat)
          (ap table_id_of c.new-tree.ensures.0 ∙ c.args.self.now.nodes.table) s.ensures.split.1;
      top = subst (λ j. KnowsTop (g.R.RunBrand.keeps j) s.right.place.root (view_of s.right.seat)) (sym named)
          (top_still (g.R.RunBrand.keeps p.half.place.tag.job) _ p.half.place s.right.place (view_of p.half.seat)
          (view_of s.right.seat) p.top s.ensures.tops.1);
      knows = known_forked (Some p.half.place) _ s.right.place (view_of p.half.seat) (view_of s.right.seat) p.knows
          s.ensures.tops.1 s.ensures.split.1.can_hand.rooted;
      piece = half_piece cut.result s.left.place.node s.left.place.root false s.right.place s.ensures.places.1
          cut.ensures.within whole;
    }
