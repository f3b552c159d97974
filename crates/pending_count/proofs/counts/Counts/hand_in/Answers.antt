use Rattle.std.proofs.Common.{arith, sym, ap, subst, ◌∙◌, ◌+◌, ◌<◌, ◌≡◌, ℕ, ◌∷◌, Some, Bool, not}
use Rattle.completion_core.specs.Legal.{count}
use Rattle.pending_count.specs.declared.view.View.{View}
use Rattle.pending_count.specs.declared.place.Slot.TheVariants.{Value, Kept}
use Rattle.pending_count.specs.Views.{InRange, kept_slot, closed_view}
use Rattle.pending_count.specs.Pairs.{side_slot, side_of, tags_after}
use Rattle.pending_count.specs.PairSteps.{IsHanded, IsKept}
use Rattle.pending_count.specs.PairSeats.{HasAll}
use Rattle.pending_count.proofs.SumLemmas.{some_is}
use Rattle.pending_count.proofs.StepLemmas.{in_table, ranged}
use Rattle.pending_count.proofs.PairStepLemmas.{takes_side_allowed, hands_allowed, taken_at}
use Rattle.pending_count.proofs.SlotLemmas.{loaded, by_side, answers_pending, answers_last}
use Rattle.pending_count.proofs.counts.Counts.hand_in.Goals as goal

pub load-requires : goal.load-requires
load-requires g c =
    let words = ap (λ t. t.words) c.requires.table ∙ c.args.self.now.words.0 in
    let same = ap (λ t. t.words) c.requires.table in
    let have = c.requires.have in
    let low = in_table c.args.seat.token.table_id.words c.args.self.now.nodes words c.args.seat.token.me.0
    c.args.seat.ranged c.args.node (omega arith) in (
      c.requires.table,
      omega arith,
      takes_side_allowed g.K.Fits.fits g.K.Fits.tag_of g.K.Fits.place_of
          c.args.self.now.table.shared.key.nodes g.A.Handing.nodes (c.args.self.now.sized ∙ sym c.requires.picked.0) _ _
          g.A.Handing.actor _ c.args.node g.A.Handing.left g.A.Handing.slot _ c.requires.picked.1
          (c.requires.picked.2 ∙ ap (side_slot c.args.node) (sym c.requires.picked.3)) c.args.seat.idle
          (subst (λ b. 0 < count (side_slot c.args.node b) c.args.seat.token.me.0.sides) (sym c.requires.picked.3)
          c.requires.side),
    )

pub fetch_sub-found-requires : goal.fetch_sub-found-requires
fetch_sub-found-requires g c =
    let words = ap (λ t. t.words) c.requires.table ∙ c.args.self.now.words.0 in
    let same = ap (λ t. t.words) c.requires.table in
    let have = c.requires.have in
    let low = in_table c.args.seat.token.table_id.words c.args.self.now.nodes words c.args.seat.token.me.0
    c.args.seat.ranged c.args.node (omega arith) in (
      c.exchange.ensures.0 ∙ c.load.ensures.0 ∙ c.requires.table,
      omega arith,
      hands_allowed g.K.Fits.fits g.K.Fits.tag_of g.K.Fits.place_of c.args.self.now.table.shared.key.nodes
          g.A.Handing.nodes (c.args.self.now.sized ∙ sym c.requires.picked.0) _ _ g.A.Handing.actor c.args.node
          g.A.Handing.left c.args.seat.token.me.0 c.args.value c.requires.known.0 _ c.exchange.new.seat.me
          (loaded g.A.Handing.slot c.slot_number-own.result (side_slot c.args.node g.A.Handing.left)
          c.args.seat.token.me c.load.new.seat.me c.exchange.new.seat.me (Some (Value c.args.value))
          (c.requires.picked.2 ∙ ap (side_slot c.args.node) (sym c.requires.picked.3))
          (c.slot_number-own.ensures ∙ ap (side_slot c.args.node) (sym c.requires.picked.3)) c.load.ensures.2.0.view
          c.exchange.ensures.3)
          (c.requires.picked.1 ∙ sym (c.exchange.ensures.1 ∙ c.load.ensures.1)) c.args.seat.idle c.requires.have
          (subst (λ b. 0 < count (side_slot c.args.node b) c.args.seat.token.me.0.sides) (sym c.requires.picked.3)
          c.requires.side) c.requires.known.1
          (subst (λ b. g.K.Fits.fits c.requires.known.0 (side_of b) c.args.value) (sym c.requires.picked.3)
          c.requires.known.2),
    )

pub overflow_sub-result : goal.overflow_sub-result
overflow_sub-result g c =
    let said = c.fetch_sub-found.ensures.2 c.args.seat.token.me.0
    (ap (λ m. m.0) (loaded g.A.Handing.slot c.slot_number-own.result (side_slot c.args.node g.A.Handing.left)
    c.args.seat.token.me c.load.new.seat.me c.exchange.new.seat.me (Some (Value c.args.value))
    (c.requires.picked.2 ∙ ap (side_slot c.args.node) (sym c.requires.picked.3))
    (c.slot_number-own.ensures ∙ ap (side_slot c.args.node) (sym c.requires.picked.3)) c.load.ensures.2.0.view
    c.exchange.ensures.3)) in
    let some_owed = said.0.some_owed in
    let more = c.if-found-ne1.true in
    omega arith

pub invariant_of-result : goal.invariant_of-result
invariant_of-result g c =
    let said = c.fetch_sub-found.ensures.2 c.args.seat.token.me.0
    (ap (λ m. m.0) (loaded g.A.Handing.slot c.slot_number-own.result (side_slot c.args.node g.A.Handing.left)
    c.args.seat.token.me c.load.new.seat.me c.exchange.new.seat.me (Some (Value c.args.value))
    (c.requires.picked.2 ∙ ap (side_slot c.args.node) (sym c.requires.picked.3))
    (c.slot_number-own.ensures ∙ ap (side_slot c.args.node) (sym c.requires.picked.3)) c.load.ensures.2.0.view
    c.exchange.ensures.3)) in
    let is = said.0.pending c.if-found-ne1.true in
    let words = ap (λ t. t.words) (c.fetch_sub-found.ensures.0 ∙ c.exchange.ensures.0 ∙ c.load.ensures.0
    ∙ c.requires.table) ∙ c.args.self.now.words.0 in
    record {
      paid = (ap (λ (u : View g.row.K-Tag.Denot). u.credit) is ∙ c.args.seat.paid.0, c.args.seat.paid.1);
      idle = ap (λ (u : View g.row.K-Tag.Denot). u.taken) is;
      ranged = ranged c.fetch_sub-found.new.seat.table_id.words g.A.Handing.nodes
          (words ∙ ap (λ n. n + 2) (sym c.requires.picked.0)) c.fetch_sub-found.new.seat.me.0 said.0.one_step.in_range;
    }

pub returns-then-found-ne1-clause-handed : goal.returns-then-found-ne1-clause-handed
returns-then-found-ne1-clause-handed g c =
    let said = c.fetch_sub-found.ensures.2 c.args.seat.token.me.0
    (ap (λ m. m.0) (loaded g.A.Handing.slot c.slot_number-own.result (side_slot c.args.node g.A.Handing.left)
    c.args.seat.token.me c.load.new.seat.me c.exchange.new.seat.me (Some (Value c.args.value))
    (c.requires.picked.2 ∙ ap (side_slot c.args.node) (sym c.requires.picked.3))
    (c.slot_number-own.ensures ∙ ap (side_slot c.args.node) (sym c.requires.picked.3)) c.load.ensures.2.0.view
    c.exchange.ensures.3)) in (
      c.fetch_sub-found.result,
      answers_pending c.fetch_sub-found.result said.0.some_owed c.if-found-ne1.true,
      subst (λ (z : ℕ × (ℕ × Bool)). IsHanded g.K.Fits.fits g.K.Fits.tag_of g.K.Fits.place_of z.0 z.1.0 c.args.node
          (side_slot c.args.node z.1.1) c.args.seat.token.me.0 c.fetch_sub-found.result c.fetch_sub-found.new.seat.me.0)
          (λ i. (c.requires.picked.0 i, (c.requires.picked.1 i, c.requires.picked.3 i))) said.0,
    )

-- the slots that came with the last arrival
pub collect-token-requires : goal.collect-token-requires
collect-token-requires g c =
    let said = c.fetch_sub-found.ensures.2 c.args.seat.token.me.0
    (ap (λ m. m.0) (loaded g.A.Handing.slot c.slot_number-own.result (side_slot c.args.node g.A.Handing.left)
    c.args.seat.token.me c.load.new.seat.me c.exchange.new.seat.me (Some (Value c.args.value))
    (c.requires.picked.2 ∙ ap (side_slot c.args.node) (sym c.requires.picked.3))
    (c.slot_number-own.ensures ∙ ap (side_slot c.args.node) (sym c.requires.picked.3)) c.load.ensures.2.0.view
    c.exchange.ensures.3)) in
    let one : c.fetch_sub-found.result ≡ 1 = c.if-found-ne1.false in
    let shut = said.1 one in
    let slots = shut.slots ∙ ap (λ l. (kept_slot c.args.node, Some (Kept shut.kept_value))
    ∷ (side_slot c.args.node (not g.A.Handing.left), Some (Value shut.value)) ∷ l)
    (ap (λ m. m.1) (loaded g.A.Handing.slot c.slot_number-own.result (side_slot c.args.node g.A.Handing.left)
    c.args.seat.token.me c.load.new.seat.me c.exchange.new.seat.me (Some (Value c.args.value))
    (c.requires.picked.2 ∙ ap (side_slot c.args.node) (sym c.requires.picked.3))
    (c.slot_number-own.ensures ∙ ap (side_slot c.args.node) (sym c.requires.picked.3)) c.load.ensures.2.0.view
    c.exchange.ensures.3)) in record {
      table = c.fetch_sub-found.ensures.0 ∙ c.exchange.ensures.0 ∙ c.load.ensures.0 ∙ c.requires.table;
      slots = (
        shut.kept_value,
        shut.value,
        c.args.value,
        subst (λ b. HasAll c.args.node b shut.kept_value shut.value c.args.value c.fetch_sub-found.new.seat.me.1)
            c.requires.picked.3 (record { more = _; is = slots }),
      );
    }

pub invariant_of-result-2 : goal.invariant_of-result-2
invariant_of-result-2 g c =
    let said = c.fetch_sub-found.ensures.2 c.args.seat.token.me.0
    (ap (λ m. m.0) (loaded g.A.Handing.slot c.slot_number-own.result (side_slot c.args.node g.A.Handing.left)
    c.args.seat.token.me c.load.new.seat.me c.exchange.new.seat.me (Some (Value c.args.value))
    (c.requires.picked.2 ∙ ap (side_slot c.args.node) (sym c.requires.picked.3))
    (c.slot_number-own.ensures ∙ ap (side_slot c.args.node) (sym c.requires.picked.3)) c.load.ensures.2.0.view
    c.exchange.ensures.3)) in
    let one : c.fetch_sub-found.result ≡ 1 = c.if-found-ne1.false in
    let shut = said.1 one in
    let view = c.collect-token.ensures.seat.2 in
    let is = view ∙ shut.view in
    let words = ap (λ t. t.words) (c.collect-token.ensures.seat.0 ∙ c.fetch_sub-found.ensures.0 ∙ c.exchange.ensures.0
    ∙ c.load.ensures.0 ∙ c.requires.table) ∙ c.args.self.now.words.0 in
    record {
      paid = (ap (λ (u : View g.row.K-Tag.Denot). u.credit) is ∙ c.args.seat.paid.0, c.args.seat.paid.1);
      idle = ap (λ (u : View g.row.K-Tag.Denot). u.taken) is;
      ranged = ranged c.collect-token.result.0.table_id.words g.A.Handing.nodes
          (words ∙ ap (λ n. n + 2) (sym c.requires.picked.0)) c.collect-token.result.0.me.0
          (subst (λ (u : View g.row.K-Tag.Denot). InRange g.A.Handing.nodes u) (sym view) said.0.one_step.in_range);
    }

pub returns-clause-handed : goal.returns-clause-handed
returns-clause-handed g c =
    let said = c.fetch_sub-found.ensures.2 c.args.seat.token.me.0
    (ap (λ m. m.0) (loaded g.A.Handing.slot c.slot_number-own.result (side_slot c.args.node g.A.Handing.left)
    c.args.seat.token.me c.load.new.seat.me c.exchange.new.seat.me (Some (Value c.args.value))
    (c.requires.picked.2 ∙ ap (side_slot c.args.node) (sym c.requires.picked.3))
    (c.slot_number-own.ensures ∙ ap (side_slot c.args.node) (sym c.requires.picked.3)) c.load.ensures.2.0.view
    c.exchange.ensures.3)) in
    let one : c.fetch_sub-found.result ≡ 1 = c.if-found-ne1.false in (
      c.fetch_sub-found.result,
      answers_last c.fetch_sub-found.result one,
      subst (λ (z : ℕ × (ℕ × (Bool × View g.row.K-Tag.Denot))). IsHanded g.K.Fits.fits g.K.Fits.tag_of g.K.Fits.place_of
          z.0 z.1.0 c.args.node (side_slot c.args.node z.1.1.0) c.args.seat.token.me.0 c.fetch_sub-found.result z.1.1.1)
          (λ i. (
            c.requires.picked.0 i,
            (
              c.requires.picked.1 i,
              (c.requires.picked.3 i, sym c.collect-token.ensures.seat.2 i),
            ),
          )) said.0,
    )

pub returns-clause-closed : goal.returns-clause-closed
returns-clause-closed g c tag known =
    let said = c.fetch_sub-found.ensures.2 c.args.seat.token.me.0
    (ap (λ m. m.0) (loaded g.A.Handing.slot c.slot_number-own.result (side_slot c.args.node g.A.Handing.left)
    c.args.seat.token.me c.load.new.seat.me c.exchange.new.seat.me (Some (Value c.args.value))
    (c.requires.picked.2 ∙ ap (side_slot c.args.node) (sym c.requires.picked.3))
    (c.slot_number-own.ensures ∙ ap (side_slot c.args.node) (sym c.requires.picked.3)) c.load.ensures.2.0.view
    c.exchange.ensures.3)) in
    let one : c.fetch_sub-found.result ≡ 1 = c.if-found-ne1.false in
    let shut = said.1 one in
    let slots = shut.slots ∙ ap (λ l. (kept_slot c.args.node, Some (Kept shut.kept_value))
    ∷ (side_slot c.args.node (not g.A.Handing.left), Some (Value shut.value)) ∷ l)
    (ap (λ m. m.1) (loaded g.A.Handing.slot c.slot_number-own.result (side_slot c.args.node g.A.Handing.left)
    c.args.seat.token.me c.load.new.seat.me c.exchange.new.seat.me (Some (Value c.args.value))
    (c.requires.picked.2 ∙ ap (side_slot c.args.node) (sym c.requires.picked.3))
    (c.slot_number-own.ensures ∙ ap (side_slot c.args.node) (sym c.requires.picked.3)) c.load.ensures.2.0.view
    c.exchange.ensures.3)) in
    let all = c.collect-token.ensures.values shut.kept_value shut.value c.args.value
    (subst (λ b. HasAll c.args.node b shut.kept_value shut.value c.args.value c.fetch_sub-found.new.seat.me.1)
    c.requires.picked.3 (record { more = _; is = slots })) in
    let f = shut.fit tag known in
    let same_tag : c.requires.known.0 ≡ tag = some_is c.requires.known.0 tag (sym c.requires.known.1 ∙ known) in
    let ours = subst (λ t. g.K.Fits.fits t (side_of c.args.is_left) c.args.value) same_tag c.requires.known.2 in
    let theirs = subst (λ b. g.K.Fits.fits tag (side_of (not b)) shut.value) c.requires.picked.3 f.0 in
    let both = by_side g.K.Fits.fits tag c.args.is_left c.args.value shut.value _ _ all.left all.right ours theirs in (
      shut.kept,
      shut.kept_sides,
      c.collect-token.ensures.seat.2 ∙ shut.view
          ∙ (λ q. closed_view c.args.node (side_slot c.args.node (c.requires.picked.3 q)) shut.kept shut.kept_sides
          (tags_after (g.K.Fits.place_of (sym all.same q)) c.args.seat.token.me.0.tags) c.args.seat.token.me.0),
      both.0,
      both.1,
      subst (λ k. IsKept g.K.Fits.fits g.K.Fits.tag_of g.K.Fits.place_of c.args.node tag c.args.seat.token.me.0 k
          shut.kept shut.kept_sides) (sym all.same) f.1,
    )

pub returns-clause-took : goal.returns-clause-took
returns-clause-took g c = taken_at _ _ _ _ c.args.node _ _ c.args.seat.token.me.0 _ c.requires.picked.0
    c.requires.picked.1 c.requires.picked.2 c.load.ensures.2.0
