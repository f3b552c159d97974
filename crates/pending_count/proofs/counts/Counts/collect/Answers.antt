use Rattle.std.proofs.Common.{sym, ap, ◌∙◌}
use Rattle.pending_count.specs.Views.{kept_slot}
use Rattle.pending_count.proofs.SlotLemmas.{after_turn, in_front, head_value, value_is, kept_is}
use Rattle.pending_count.proofs.counts.Counts.collect.Goals as goal

pub exchange-requires : goal.exchange-requires
exchange-requires g c = (
  c.requires.table,
  (_, in_front c.args.token.me.1 _ _ _ _ (λ _. kept_slot c.args.node) c.requires.slots.3.is),
)

pub kept_in-kept-requires : goal.kept_in-kept-requires
kept_in-kept-requires g c = (
  c.requires.slots.0,
  head_value c.args.token.me.1 _ _ _ _ _ _ c.exchange.ensures.2 c.requires.slots.3.is,
)

pub exchange-requires-2 : goal.exchange-requires-2
exchange-requires-2 g c =
    let s2 = after_turn c.args.token.me.1 c.exchange.new.seat.me.1 c.turn.new.self.me.1 _ _ _ _ _ c.requires.slots.3.is
    (ap (λ m. m.1) c.exchange.ensures.3) (ap (λ m. m.1) c.turn.ensures.2) in (
      c.turn.ensures.0 ∙ c.exchange.ensures.0 ∙ c.requires.table,
      (_, in_front c.turn.new.self.me.1 _ _ _ _ (sym c.slot_number.ensures) s2),
    )

pub value_in-theirs-requires : goal.value_in-theirs-requires
value_in-theirs-requires g c =
    let s2 = after_turn c.args.token.me.1 c.exchange.new.seat.me.1 c.turn.new.self.me.1 _ _ _ _ _ c.requires.slots.3.is
    (ap (λ m. m.1) c.exchange.ensures.3) (ap (λ m. m.1) c.turn.ensures.2) in
    (c.requires.slots.1, head_value c.turn.new.self.me.1 _ _ _ _ _ _ c.exchange-2.ensures.2 s2)

pub exchange-requires-3 : goal.exchange-requires-3
exchange-requires-3 g c =
    let s2 = after_turn c.args.token.me.1 c.exchange.new.seat.me.1 c.turn.new.self.me.1 _ _ _ _ _ c.requires.slots.3.is
    (ap (λ m. m.1) c.exchange.ensures.3) (ap (λ m. m.1) c.turn.ensures.2) in
    let s3 = after_turn c.turn.new.self.me.1 c.exchange-2.new.seat.me.1 c.turn-2.new.self.me.1 _ _ _ _ _ s2
    (ap (λ m. m.1) c.exchange-2.ensures.3) (ap (λ m. m.1) c.turn-2.ensures.2) in (
      c.turn-2.ensures.0 ∙ c.exchange-2.ensures.0 ∙ c.turn.ensures.0 ∙ c.exchange.ensures.0 ∙ c.requires.table,
      (_, in_front c.turn-2.new.self.me.1 _ _ _ _ (sym c.slot_number-2.ensures) s3),
    )

pub value_in-ours-requires : goal.value_in-ours-requires
value_in-ours-requires g c =
    let s2 = after_turn c.args.token.me.1 c.exchange.new.seat.me.1 c.turn.new.self.me.1 _ _ _ _ _ c.requires.slots.3.is
    (ap (λ m. m.1) c.exchange.ensures.3) (ap (λ m. m.1) c.turn.ensures.2) in
    let s3 = after_turn c.turn.new.self.me.1 c.exchange-2.new.seat.me.1 c.turn-2.new.self.me.1 _ _ _ _ _ s2
    (ap (λ m. m.1) c.exchange-2.ensures.3) (ap (λ m. m.1) c.turn-2.ensures.2) in
    (c.requires.slots.2, head_value c.turn-2.new.self.me.1 _ _ _ _ _ _ c.exchange-3.ensures.2 s3)

pub returns-clause-seat : goal.returns-clause-seat
returns-clause-seat g c = (
  c.exchange-3.ensures.0 ∙ c.turn-2.ensures.0 ∙ c.exchange-2.ensures.0 ∙ c.turn.ensures.0 ∙ c.exchange.ensures.0,
  c.exchange-3.ensures.1 ∙ c.turn-2.ensures.1 ∙ c.exchange-2.ensures.1 ∙ c.turn.ensures.1 ∙ c.exchange.ensures.1,
  ap (λ m. m.0) c.exchange-3.ensures.3 ∙ ap (λ m. m.0) c.turn-2.ensures.2 ∙ ap (λ m. m.0) c.exchange-2.ensures.3
      ∙ ap (λ m. m.0) c.turn.ensures.2 ∙ ap (λ m. m.0) c.exchange.ensures.3,
)

pub returns-clause-values : goal.returns-clause-values
returns-clause-values g c kept theirs ours h =
    let s2 = after_turn c.args.token.me.1 c.exchange.new.seat.me.1 c.turn.new.self.me.1 _ _ _ _ _ h.is
    (ap (λ m. m.1) c.exchange.ensures.3) (ap (λ m. m.1) c.turn.ensures.2) in
    let s3 = after_turn c.turn.new.self.me.1 c.exchange-2.new.seat.me.1 c.turn-2.new.self.me.1 _ _ _ _ _ s2
    (ap (λ m. m.1) c.exchange-2.ensures.3) (ap (λ m. m.1) c.turn-2.ensures.2) in
    let kept_eq = kept_is c.exchange.result _ kept c.kept_in-kept.ensures
    (head_value c.args.token.me.1 _ _ _ _ _ _ c.exchange.ensures.2 h.is) in
    let theirs_eq = value_is c.exchange-2.result _ theirs c.value_in-theirs.ensures
    (head_value c.turn.new.self.me.1 _ _ _ _ _ _ c.exchange-2.ensures.2 s2) in
    let ours_eq = value_is c.exchange-3.result _ ours c.value_in-ours.ensures
    (head_value c.turn-2.new.self.me.1 _ _ _ _ _ _ c.exchange-3.ensures.2 s3) in
    let done = c.in_order-finish.ensures in record {
      same = done.same ∙ kept_eq;
      left = λ e. ((done.left e).0 ∙ ours_eq, (done.left e).1 ∙ theirs_eq);
      right = λ e. ((done.right e).0 ∙ theirs_eq, (done.right e).1 ∙ ours_eq);
    }
