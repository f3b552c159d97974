use Rattle.std.proofs.Common.{rules, arith, sym, ap, subst, ◌∙◌, ◌≤◌, ◌<◌, ◌≡◌, inl, ℕ}
use Rattle.completion_core.specs.Legal.{count}
use Rattle.pending_count.specs.declared.view.View.{View}
use Rattle.pending_count.specs.Seats.{view_of}
use Rattle.pending_count.specs.Views.{InRange, IsPlainAt}
use Rattle.pending_count.proofs.StepLemmas.{splits_allowed}
use Rattle.pending_count.proofs.RangeLemmas.{rest_ranged, part_ranged}
use Rattle.pending_count.proofs.counts.Counts.split_by.Goals as goal

pub split_seat-part-requires : goal.split_seat-part-requires
split_seat-part-requires g c =
    let words = c.args.self.now.words.0 in
    let p = c.requires.picked in
    let have : g.A.Parting.arrivals ≤ count g.A.Parting.node c.args.seat.token.me.0.held =
    subst (λ (z : ℕ × ℕ). z.1 ≤ count z.0 c.args.seat.token.me.0.held) (λ i. (sym p.0 i, sym p.1 i))
    c.requires.have in (
      c.requires.table,
      omega arith,
      splits_allowed g.K.Fits.fits g.K.Fits.tag_of g.K.Fits.place_of c.args.self.now.table.shared.key.nodes
          c.args.self.now.nodes c.args.self.now.sized _ g.A.Parting.node g.A.Parting.arrivals g.A.Parting.credit
          g.A.Parting.sides _ have (subst (λ n. n ≤ c.args.seat.token.me.0.credit) (sym p.2) c.requires.credit)
          (subst (λ l. (j : ℕ) → count j l ≤ count j c.args.seat.token.me.0.sides) (sym p.3) (λ j. omega arith))
          c.args.seat.idle
          (subst (λ (z : ℕ × ℕ). z.1 ≡ 0 → z.0 ≡ 0) (λ i. (sym p.0 i, sym p.1 i)) c.requires.end)
          (inl (p.3, subst (λ n. 0 < n → IsPlainAt n c.args.seat.token.me.0) (sym p.0) c.requires.plain)),
    )

pub invariant_of-rest-clause-ranged : goal.invariant_of-rest-clause-ranged
invariant_of-rest-clause-ranged g c n e =
    let p = c.requires.picked in
    let have : g.A.Parting.arrivals ≤ count g.A.Parting.node c.args.seat.token.me.0.held =
    subst (λ (z : ℕ × ℕ). z.1 ≤ count z.0 c.args.seat.token.me.0.held) (λ i. (sym p.0 i, sym p.1 i))
    c.requires.have in
    let low = c.args.seat.ranged n (sym (ap (λ t. t.words) c.split_seat-part.ensures.0) ∙ e) in
    subst (λ (u : View g.row.K-Tag.Denot). InRange n u) (sym (ap (λ m. m.0) c.split_seat-part.ensures.2))
    (rest_ranged n g.A.Parting.node g.A.Parting.arrivals g.A.Parting.credit g.A.Parting.sides (view_of c.args.seat)
    have low)

pub invariant_of-result-clause-ranged : goal.invariant_of-result-clause-ranged
invariant_of-result-clause-ranged g c n e =
    let p = c.requires.picked in
    let have : g.A.Parting.arrivals ≤ count g.A.Parting.node c.args.seat.token.me.0.held =
    subst (λ (z : ℕ × ℕ). z.1 ≤ count z.0 c.args.seat.token.me.0.held) (λ i. (sym p.0 i, sym p.1 i))
    c.requires.have in
    let low = c.args.seat.ranged n (sym (ap (λ t. t.words) c.split_seat-part.ensures.3) ∙ e) in
    subst (λ (u : View g.row.K-Tag.Denot). InRange n u) (sym (ap (λ m. m.0) c.split_seat-part.ensures.4))
    (part_ranged n g.A.Parting.node g.A.Parting.arrivals g.A.Parting.credit g.A.Parting.sides (view_of c.args.seat)
    have low)

pub invariant_of-rest-clause-paid : goal.invariant_of-rest-clause-paid
invariant_of-rest-clause-paid g c = search rules
