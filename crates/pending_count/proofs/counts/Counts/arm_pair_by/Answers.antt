use Rattle.std.proofs.Common.{arith, sym, ap, subst, ◌∙◌, ◌+◌, ◌<◌, ◌≤◌, ℕ, List, Some}
use Rattle.completion_core.specs.Legal.{count}
use Rattle.pending_count.specs.declared.view.View.{View}
use Rattle.pending_count.specs.declared.place.Slot.TheVariants.{Kept}
use Rattle.pending_count.specs.Views.{left_slot, right_slot, kept_slot}
use Rattle.pending_count.specs.PairSteps.{IsPaired, IsPlaced}
use Rattle.pending_count.proofs.StepLemmas.{in_table, ranged}
use Rattle.pending_count.proofs.PairStepLemmas.{takes_kept_allowed, pairs_allowed, place_held, filled, head_form}
use Rattle.pending_count.proofs.PairStepLemmas.{taken_at}
use Rattle.pending_count.proofs.counts.Counts.arm_pair_by.Goals as goal

pub load-requires : goal.load-requires
load-requires g c =
    let words = ap (λ t. t.words) c.requires.table ∙ c.args.self.now.words.0 in
    let same = ap (λ t. t.words) c.requires.table in
    let have = c.requires.claimed in
    let low = in_table c.args.seat.token.table_id.words c.args.self.now.nodes words c.args.seat.token.me.0
    c.args.seat.ranged c.args.node (omega arith) in (
      c.requires.table,
      omega arith,
      takes_kept_allowed g.K.Fits.fits g.K.Fits.tag_of g.K.Fits.place_of
          c.args.self.now.table.shared.key.nodes g.A.Arming.nodes (c.args.self.now.sized ∙ sym c.requires.picked.0) _ _
          g.A.Arming.actor _ c.args.node g.A.Arming.slot _ c.requires.picked.1 c.requires.picked.3 c.args.seat.idle
          c.requires.claimed,
    )

pub store-requires : goal.store-requires
store-requires g c =
    let words = ap (λ t. t.words) c.requires.table ∙ c.args.self.now.words.0 in
    let same = ap (λ t. t.words) c.requires.table in
    let drew = c.requires.claimed in
    let low = in_table c.args.seat.token.table_id.words c.args.self.now.nodes words c.args.seat.token.me.0
    c.args.seat.ranged c.args.node (omega arith) in
    let one_side = subst (λ l. (i : ℕ) → 0 < count i l
    → count (left_slot i) c.args.seat.token.me.0.sides + count (right_slot i) c.args.seat.token.me.0.sides ≤ 1)
    (sym c.requires.picked.2) c.requires.one_side in
    let placed = subst (λ l. IsPlaced g.K.Fits.place_of c.args.kept l c.args.seat.token.me.0) (sym c.requires.picked.2)
    c.requires.placed in (
      c.exchange.ensures.0 ∙ c.load.ensures.0 ∙ c.requires.table,
      omega arith,
      pairs_allowed g.K.Fits.fits g.K.Fits.tag_of g.K.Fits.place_of c.args.self.now.table.shared.key.nodes
          g.A.Arming.nodes (c.args.self.now.sized ∙ sym c.requires.picked.0) _ _ g.A.Arming.actor c.args.node
          g.A.Arming.onward c.args.seat.token.me.0 c.args.kept _ c.exchange.new.seat.me
          (filled g.A.Arming.slot (kept_slot c.args.node) c.args.seat.token.me c.load.new.seat.me c.exchange.new.seat.me
          (Some (Kept c.args.kept)) c.requires.picked.3 c.load.ensures.2.0.view c.exchange.ensures.3)
          (c.requires.picked.1 ∙ sym (c.exchange.ensures.1 ∙ c.load.ensures.1)) c.args.seat.idle c.requires.claimed
          (subst (λ l. (i : ℕ) → count i l ≤ count i c.args.seat.token.me.0.held) (sym c.requires.picked.2)
          c.requires.have)
          (subst (λ l. (i : ℕ) → 0 < count i l → i < c.args.node) (sym c.requires.picked.2) c.requires.smaller)
          one_side (place_held g.K.Fits.fits g.K.Fits.tag_of g.K.Fits.place_of c.args.self.now.table.shared.key.nodes
          g.A.Arming.nodes (c.args.self.now.sized ∙ sym c.requires.picked.0) c.args.kept g.A.Arming.onward
          c.args.seat.token.me.0 one_side placed),
    )

pub invariant_of-result : goal.invariant_of-result
invariant_of-result g c =
    let v = c.args.seat.token.me.0 in
    let me = filled g.A.Arming.slot (kept_slot c.args.node) c.args.seat.token.me c.load.new.seat.me
    c.exchange.new.seat.me (Some (Kept c.args.kept)) c.requires.picked.3 c.load.ensures.2.0.view
    c.exchange.ensures.3 in
    let said = subst (λ (z : ℕ × (ℕ × List ℕ)). IsPaired g.K.Fits.fits g.K.Fits.tag_of g.K.Fits.place_of z.0 z.1.0
    c.args.node z.1.1 c.args.kept c.args.seat.token.me.0 c.store.new.seat.me.0)
    (λ i. (c.requires.picked.0 i, (c.requires.picked.1 i, c.requires.picked.2 i)))
    (c.store.ensures.2 c.args.seat.token.me.0 c.args.kept (ap (λ m. m.0) me)
    (head_form (kept_slot c.args.node) (Some (Kept c.args.kept)) c.exchange.new.seat.me _ _ me)) in
    let words = ap (λ t. t.words) (c.store.ensures.0 ∙ c.exchange.ensures.0 ∙ c.load.ensures.0 ∙ c.requires.table)
    ∙ c.args.self.now.words.0 in
    record {
      paid = (ap (λ (u : View g.row.K-Tag.Denot). u.credit) said.view ∙ c.args.seat.paid.0, c.args.seat.paid.1);
      idle = ap (λ (u : View g.row.K-Tag.Denot). u.taken) said.view;
      ranged = ranged c.store.new.seat.table_id.words c.args.self.now.nodes words c.store.new.seat.me.0
          said.one_step.in_range;
    }

pub returns-clause-paired : goal.returns-clause-paired
returns-clause-paired g c =
    let v = c.args.seat.token.me.0 in
    let me = filled g.A.Arming.slot (kept_slot c.args.node) c.args.seat.token.me c.load.new.seat.me
    c.exchange.new.seat.me (Some (Kept c.args.kept)) c.requires.picked.3 c.load.ensures.2.0.view
    c.exchange.ensures.3 in
    let said = subst (λ (z : ℕ × (ℕ × List ℕ)). IsPaired g.K.Fits.fits g.K.Fits.tag_of g.K.Fits.place_of z.0 z.1.0
    c.args.node z.1.1 c.args.kept c.args.seat.token.me.0 c.store.new.seat.me.0)
    (λ i. (c.requires.picked.0 i, (c.requires.picked.1 i, c.requires.picked.2 i)))
    (c.store.ensures.2 c.args.seat.token.me.0 c.args.kept (ap (λ m. m.0) me)
    (head_form (kept_slot c.args.node) (Some (Kept c.args.kept)) c.exchange.new.seat.me _ _ me)) in
    said

pub returns-clause-took : goal.returns-clause-took
returns-clause-took g c = taken_at _ _ _ _ c.args.node _ _ c.args.seat.token.me.0 _ c.requires.picked.0
    c.requires.picked.1 c.requires.picked.3 c.load.ensures.2.0
