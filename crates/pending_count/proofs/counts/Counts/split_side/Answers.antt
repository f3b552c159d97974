use Rattle.std.proofs.Common.{[], ◌∷◌, arith, sym, subst}
use Rattle.pending_count.specs.declared.view.View.{View}
use Rattle.pending_count.specs.Steps.{IsSplit}
use Rattle.pending_count.specs.Seats.{Content, view_of}
use Rattle.pending_count.specs.Pairs.{slot_of}
use Rattle.pending_count.proofs.GiveLemmas.{is_split}
use Rattle.pending_count.proofs.counts.Counts.split_side.Goals as goal

pub returns-clause-split : goal.returns-clause-split
returns-clause-split g c =
    let t = c.split_side_by.ensures.parts in
    subst (λ (z : View g.row.K-Tag.Denot × View g.row.K-Tag.Denot). IsSplit (Content g.row.V.Denot g.row.K.Denot)
    c.args.self.now.nodes c.args.node 1 (view_of c.args.seat) z.0 z.1) (λ i. (sym t.0 i, sym t.1 i))
    (is_split _ c.args.self.now.nodes c.args.node 1 c.args.credit (slot_of c.args.node c.args.side ∷ [])
    (view_of c.args.seat) (let h = c.requires.have.1 in omega arith) c.requires.credit (λ e. absurd (omega arith)))
