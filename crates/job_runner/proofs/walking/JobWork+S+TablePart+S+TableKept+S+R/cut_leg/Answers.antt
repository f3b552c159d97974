use Rattle.std.proofs.Common.{◌≡◌, ◌∙◌, ap, sym, subst, arith, true, false, None}
use Rattle.pending_count.specs.declared.place.Place.{Place}
use Rattle.pending_count.specs.Seats.{view_of}
use Rattle.completer_tree.specs.Trees.{table_id_of, CanFork}
use Rattle.job_runner.specs.declared.cut.CutPiece.{CutPiece}
use Rattle.job_runner.specs.Tasks.{KnowsTop}
use Rattle.job_runner.specs.Cuts.{IsPiece}
use Rattle.job_runner.proofs.SeatLemmas.{known_forked, kept_still, top_known}
use Rattle.job_runner.proofs.Halves.{piece_as, half_piece}
use Rattle.job_runner.proofs.walking.JobWork+S+TablePart+S+TableKept+S+R.cut_leg.Goals as goal

pub invariant_of-whole : goal.invariant_of-whole
invariant_of-whole g c =
    let w = c.in-Whole in
    let b = c.args.begun in
    record {
      has = kept_still (g.R.RunBrand.keeps b.job) b.seat w.seat
          (w.ensures.whole.1 ∙ ap table_id_of c.new-tree.ensures.0 ∙ c.args.self.now.nodes.table) w.ensures.whole.2
          b.has;
      known = b.known;
    }

pub invariant_of-own : goal.invariant_of-own
invariant_of-own g c =
    let b = c.args.begun in
    let s = c.in-Split in
    let cut = c.halves in
    let piece = c.all-all.ensures in
    let size = c.requires.size in
    let entire : IsPiece g.R.RunBrand.jobs g.R.RunBrand.last g.R.RunBrand.size b.job c.args.leg 0 c.args.size =
    record { known = b.known; chained = c.requires.known; ordered = omega arith; within = omega arith } in
    let whole = piece_as (cut.ensures.of.0 ∙ piece.of.0) (cut.ensures.of.1 ∙ piece.of.1)
    (cut.ensures.of.2 ∙ piece.positions.0) (cut.ensures.of.3 ∙ piece.positions.1) entire in
    let named : s.left.place.tag.job ≡ b.job =
    ap (λ (q : Place CutPiece). q.tag.job) s.ensures.places.0 ∙ cut.ensures.of.0 ∙ piece.of.0 in
    let onward = c.new-tree.result.onward.now in
    let is : onward ≡ g.R.RunBrand.keeps b.job = c.new-tree.ensures.1 ∙ c.deref.ensures.value ∙ c.start.ensures.1 in
    record {
      can = subst (λ id. CanFork id s.left.place s.left.seat)
          (ap table_id_of c.new-tree.ensures.0 ∙ c.args.self.now.nodes.table) s.ensures.split.0;
      top = subst (λ j. KnowsTop (g.R.RunBrand.keeps j) s.left.place.root (view_of s.left.seat)) (sym named)
          (top_known b.job onward is b.known s.left.place (view_of b.seat) (view_of s.left.seat) b.has.knows
          s.ensures.tops.0);
      knows = known_forked None onward s.left.place (view_of b.seat) (view_of s.left.seat) b.has.knows s.ensures.tops.0
          s.ensures.split.0.can_hand.rooted;
      piece = half_piece cut.result s.left.place.node s.left.place.root true s.left.place s.ensures.places.0
          cut.ensures.within whole;
    }

pub invariant_of-other : goal.invariant_of-other
invariant_of-other g c =
    let b = c.args.begun in
    let s = c.in-Split in
    let cut = c.halves in
    let piece = c.all-all.ensures in
    let size = c.requires.size in
    let entire : IsPiece g.R.RunBrand.jobs g.R.RunBrand.last g.R.RunBrand.size b.job c.args.leg 0 c.args.size =
    record { known = b.known; chained = c.requires.known; ordered = omega arith; within = omega arith } in
    let whole = piece_as (cut.ensures.of.0 ∙ piece.of.0) (cut.ensures.of.1 ∙ piece.of.1)
    (cut.ensures.of.2 ∙ piece.positions.0) (cut.ensures.of.3 ∙ piece.positions.1) entire in
    let named : s.right.place.tag.job ≡ b.job =
    ap (λ (q : Place CutPiece). q.tag.job) s.ensures.places.1 ∙ cut.ensures.of.0 ∙ piece.of.0 in
    let onward = c.new-tree.result.onward.now in
    let is : onward ≡ g.R.RunBrand.keeps b.job = c.new-tree.ensures.1 ∙ c.deref.ensures.value ∙ c.start.ensures.1 in
    record {
      can = subst (λ id. CanFork id s.right.place s.right.seat)
          (ap table_id_of c.new-tree.ensures.0 ∙ c.args.self.now.nodes.table) s.ensures.split.1;
      top = subst (λ j. KnowsTop (g.R.RunBrand.keeps j) s.right.place.root (view_of s.right.seat)) (sym named)
          (top_known b.job onward is b.known s.right.place (view_of b.seat) (view_of s.right.seat) b.has.knows
          s.ensures.tops.1);
      knows = known_forked None onward s.right.place (view_of b.seat) (view_of s.right.seat) b.has.knows
          s.ensures.tops.1 s.ensures.split.1.can_hand.rooted;
      piece = half_piece cut.result s.left.place.node s.left.place.root false s.right.place s.ensures.places.1
          cut.ensures.within whole;
    }
