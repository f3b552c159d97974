use Rattle.std.proofs.Common.{arith, sym, ap, subst, ◌∙◌, ◌+◌, ◌<◌, ◌≤◌, ℕ}
use Rattle.completion_core.specs.Legal.{count}
use Rattle.pending_count.specs.Views.{left_slot, right_slot}
use Rattle.pending_count.proofs.StepLemmas.{arms_allowed, in_table}
use Rattle.pending_count.proofs.counts.Counts.arm_by.Goals as goal

pub store-requires : goal.store-requires
store-requires g c =
    let words = ap (λ t. t.words) c.requires.table ∙ c.args.self.now.words.0 in
    let same = ap (λ t. t.words) c.requires.table in
    let have = c.requires.claimed in
    let low = in_table c.args.seat.token.table_id.words c.args.self.now.nodes words c.args.seat.token.me.0
    c.args.seat.ranged c.args.node (omega arith) in (
      c.requires.table,
      omega arith,
      arms_allowed g.K.Fits.fits g.K.Fits.tag_of g.K.Fits.place_of c.args.self.now.table.shared.key.nodes
          g.A.Arming.nodes (c.args.self.now.sized ∙ sym c.requires.picked.0) _ _ g.A.Arming.actor c.args.node
          g.A.Arming.pending _ g.A.Arming.onward _ c.requires.picked.1
          (ap (λ n. n + 1) (sym c.requires.picked.2)) c.requires.claimed
          (subst (λ n. n < 4294967296) (sym c.requires.picked.2) c.ranges.pending.fits)
          (subst (λ l. (i : ℕ) → count i l ≤ count i c.args.seat.token.me.0.held) (sym c.requires.picked.3)
          c.requires.have)
          (subst (λ l. (i : ℕ) → 0 < count i l → i < c.args.node) (sym c.requires.picked.3) c.requires.smaller)
          (subst (λ l. (i : ℕ) → 0 < count i l
          → count (left_slot i) c.args.seat.token.me.0.sides + count (right_slot i) c.args.seat.token.me.0.sides
          ≤ 1) (sym c.requires.picked.3) c.requires.one_side) c.args.seat.idle,
    )
