use Rattle.std.proofs.Common.{◌≡◌, ◌∙◌, length, sym, ap, subst, arith, is_ok, false}
use Rattle.std.proofs.ResultArms.{chosen}
use Rattle.std.proofs.lemmas.List.Folds.{list_all_at}
use Rattle.std.specs.List.{list_all}
use Rattle.stream_tokens.specs.Bytes.{is_blank}
use Rattle.stream_tokens.specs.Tokens.{StandInOrder}
use Rattle.stream_tokens.proofs.CutLemmas.{OnErr-all, cut_blank, cut_next, next_within, cut_in_order, order_in_range}
use Rattle.stream_tokens.proofs.scanner.cut.Goals as goal

pub loop-at-preserved-then-is_blank : goal.loop-at-preserved-then-is_blank
loop-at-preserved-then-is_blank c = record {
  in_range = omega arith;
  cuts = cut_blank c.args.text.now 0 c.loop-at.tokens.items c.loop-at.at c.loop-at-test.true c.loop-at.invariant.cuts
      (sym c.is_blank.ensures ∙ c.if-is_blank.true);
}

pub loop-at-preserved : goal.loop-at-preserved
loop-at-preserved c = record {
  in_range = next_within c.args.text.now c.loop-at.at c.first_token-front.result.kind c.first_token-front.result.len
      c.loop-at.invariant.in_range c.first_token-front.ensures;
  cuts = cut_next c.args.text.now c.loop-at.tokens.items c.push.new.self.items c.loop-at.at
      c.first_token-front.result.kind c.first_token-front.result.len c.loop-at.invariant.cuts
      c.first_token-front.ensures (chosen _ _ _ _ c.push.ensures.items (ap is_ok c.in_ok-push.was));
}

pub returns-clause-in_order : goal.returns-clause-in_order
returns-clause-in_order c =
    let at : c.loop-at.at ≡ length c.args.text.now =
    omega (arith, c.loop-at.invariant.in_range, c.loop-at-test.false) in
    subst (StandInOrder 0 c.loop-at.tokens.items) at
    (cut_in_order c.args.text.now 0 c.loop-at.tokens.items c.loop-at.at c.loop-at.invariant.cuts)

pub returns-clause-in_range : goal.returns-clause-in_range
returns-clause-in_range c =
    let at : c.loop-at.at ≡ length c.args.text.now =
    omega (arith, c.loop-at.invariant.in_range, c.loop-at-test.false) in
    order_in_range 0 c.loop-at.tokens.items (length c.args.text.now)
    (subst (StandInOrder 0 c.loop-at.tokens.items) at
    (cut_in_order c.args.text.now 0 c.loop-at.tokens.items c.loop-at.at c.loop-at.invariant.cuts))

pub returns-in_err-push-clause-memory : goal.returns-in_err-push-clause-memory
returns-in_err-push-clause-memory c =
    let solid : list_all is_blank c.args.text.now ≡ false =
    list_all_at is_blank c.args.text.now c.loop-at.at 0 c.loop-at-test.true
    (sym c.is_blank.ensures ∙ c.if-is_blank.false) in
    OnErr-all _ c.from_residual.result solid
