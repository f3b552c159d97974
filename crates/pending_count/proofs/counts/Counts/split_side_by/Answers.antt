use Rattle.std.proofs.Common.{arith, sym, ap, subst, ◌∙◌, ◌≤◌, inr, refl, List, ℕ}
use Rattle.completion_core.specs.Legal.{count}
use Rattle.pending_count.specs.declared.view.View.{View}
use Rattle.pending_count.specs.Seats.{view_of}
use Rattle.pending_count.specs.Views.{InRange, SplitOff}
use Rattle.pending_count.proofs.StepLemmas.{splits_allowed}
use Rattle.pending_count.specs.Pairs.{slot_of}
use Rattle.pending_count.proofs.PairStepLemmas.{side_within, side_off}
use Rattle.pending_count.proofs.RangeLemmas.{rest_ranged, part_ranged}
use Rattle.pending_count.proofs.counts.Counts.split_side_by.Goals as goal

pub split_seat-part-requires : goal.split_seat-part-requires
split_seat-part-requires g c =
    let words = c.args.self.now.words.0 in
    let p = c.requires.picked in
    let some_held = c.requires.have.1 in
    let have : g.A.Parting.arrivals ≤ count g.A.Parting.node c.args.seat.token.me.0.held =
    subst (λ (z : ℕ × ℕ). z.1 ≤ count z.0 c.args.seat.token.me.0.held) (λ i. (sym p.0 i, sym p.1 i))
    (omega arith) in (
      c.requires.table,
      omega arith,
      splits_allowed g.K.Fits.fits g.K.Fits.tag_of g.K.Fits.place_of c.args.self.now.table.shared.key.nodes
          c.args.self.now.nodes c.args.self.now.sized _ g.A.Parting.node g.A.Parting.arrivals g.A.Parting.credit
          g.A.Parting.sides _ have (subst (λ n. n ≤ c.args.seat.token.me.0.credit) (sym p.2) c.requires.credit)
          (subst (λ l. (j : ℕ) → count j l ≤ count j c.args.seat.token.me.0.sides) (sym p.3)
          (side_within (slot_of c.args.node c.args.side) c.args.seat.token.me.0.sides c.requires.side.0))
          c.args.seat.idle
          (λ e. absurd (let q = p.1 in omega arith))
          (subst (λ (z : ℕ × (ℕ × List ℕ)). SplitOff z.0 z.1.0 z.1.1 c.args.seat.token.me.0)
          (λ i. (sym p.0 i, (sym p.1 i, sym p.3 i)))
          (inr (refl, c.requires.have.0, side_off c.args.node c.args.side c.requires.side.1))),
    )

pub invariant_of-rest-clause-ranged : goal.invariant_of-rest-clause-ranged
invariant_of-rest-clause-ranged g c n e =
    let p = c.requires.picked in
    let some_held = c.requires.have.1 in
    let have : g.A.Parting.arrivals ≤ count g.A.Parting.node c.args.seat.token.me.0.held =
    subst (λ (z : ℕ × ℕ). z.1 ≤ count z.0 c.args.seat.token.me.0.held) (λ i. (sym p.0 i, sym p.1 i))
    (omega arith) in
    let low = c.args.seat.ranged n (sym (ap (λ t. t.words) c.split_seat-part.ensures.0) ∙ e) in
    subst (λ (u : View g.row.K-Tag.Denot). InRange n u) (sym (ap (λ m. m.0) c.split_seat-part.ensures.2))
    (rest_ranged n g.A.Parting.node g.A.Parting.arrivals g.A.Parting.credit g.A.Parting.sides (view_of c.args.seat)
    have low)

pub invariant_of-result-clause-ranged : goal.invariant_of-result-clause-ranged
invariant_of-result-clause-ranged g c n e =
    let p = c.requires.picked in
    let some_held = c.requires.have.1 in
    let have : g.A.Parting.arrivals ≤ count g.A.Parting.node c.args.seat.token.me.0.held =
    subst (λ (z : ℕ × ℕ). z.1 ≤ count z.0 c.args.seat.token.me.0.held) (λ i. (sym p.0 i, sym p.1 i))
    (omega arith) in
    let low = c.args.seat.ranged n (sym (ap (λ t. t.words) c.split_seat-part.ensures.3) ∙ e) in
    subst (λ (u : View g.row.K-Tag.Denot). InRange n u) (sym (ap (λ m. m.0) c.split_seat-part.ensures.4))
    (part_ranged n g.A.Parting.node g.A.Parting.arrivals g.A.Parting.credit g.A.Parting.sides (view_of c.args.seat)
    have low)
