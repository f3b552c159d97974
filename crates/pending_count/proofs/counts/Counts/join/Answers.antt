use Rattle.std.proofs.Common.{rules, arith, sym, ap, subst, ◌∙◌, ◌≡◌}
use Rattle.pending_count.specs.declared.view.View.{View}
use Rattle.pending_count.specs.Views.{InRange, joined_view}
use Rattle.pending_count.specs.Steps.{IsJoined}
use Rattle.pending_count.specs.Seats.{Content, view_of}
use Rattle.completion_core.specs.Legal.{count}
use Rattle.pending_count.proofs.StepLemmas.{joins_allowed}
use Rattle.pending_count.proofs.PairStepLemmas.{moves_allowed}
use Rattle.pending_count.proofs.JoinLemmas.{is_joined}
use Rattle.pending_count.proofs.RangeLemmas.{joined_ranged}
use Rattle.pending_count.proofs.counts.Counts.join.Goals as goal

pub split_seat-whole-requires : goal.split_seat-whole-requires
split_seat-whole-requires g c =
    let words = c.args.self.now.words.0 in (
      c.requires.tables.1,
      omega arith,
      moves_allowed g.K.Fits.fits g.K.Fits.tag_of g.K.Fits.place_of
          c.args.self.now.table.shared.key.nodes c.args.self.now.nodes c.args.self.now.sized _ _ c.requires.armed
          c.args.other.idle,
    )

pub join_seat-requires : goal.join_seat-requires
join_seat-requires g c =
    let words = c.args.self.now.words.0 in
    let whole : c.split_seat-whole.result.me.0 ≡ view_of c.args.other = ap (λ m. m.0) c.split_seat-whole.ensures.4 in (
      c.requires.tables.0,
      c.split_seat-whole.ensures.3 ∙ c.requires.tables.1,
      ap (λ m. m.1) c.split_seat-whole.ensures.4,
      omega arith,
      joins_allowed g.K.Fits.fits g.K.Fits.tag_of g.K.Fits.place_of c.args.self.now.table.shared.key.nodes
          c.args.self.now.nodes c.args.self.now.sized _ _ _ _
          (λ i. ap (λ (u : View g.row.K-Tag.Denot). count i u.claims) whole ∙ c.requires.armed i)
          (ap (λ (u : View g.row.K-Tag.Denot). u.taken) whole ∙ c.args.other.idle),
    )

pub invariant_of-result-clause-ranged : goal.invariant_of-result-clause-ranged
invariant_of-result-clause-ranged g c n e =
    let here = ap (λ t. t.words) c.join_seat.ensures.0 in
    let first = ap (λ t. t.words) c.requires.tables.0 in
    let second = ap (λ t. t.words) c.requires.tables.1 in
    subst (λ (u : View g.row.K-Tag.Denot). InRange n u)
    (sym (ap (λ m. m.0) c.join_seat.ensures.2
    ∙ ap (joined_view (view_of c.args.seat)) (ap (λ m. m.0) c.split_seat-whole.ensures.4)))
    (joined_ranged n (view_of c.args.seat) (view_of c.args.other) (c.args.seat.ranged n (sym here ∙ e))
    (c.args.other.ranged n (second ∙ sym first ∙ sym here ∙ e)))

pub returns-clause-joined : goal.returns-clause-joined
returns-clause-joined g c = subst (λ (u : View g.row.K-Tag.Denot). IsJoined (Content g.row.V.Denot g.row.K.Denot)
    c.args.self.now.nodes (view_of c.args.seat) (view_of c.args.other) u)
    (sym (ap (λ m. m.0) c.join_seat.ensures.2
    ∙ ap (joined_view (view_of c.args.seat)) (ap (λ m. m.0) c.split_seat-whole.ensures.4)))
    (is_joined _ c.args.self.now.nodes (view_of c.args.seat) (view_of c.args.other) c.requires.armed)

pub invariant_of-result-clause-paid : goal.invariant_of-result-clause-paid
invariant_of-result-clause-paid g c = search rules
