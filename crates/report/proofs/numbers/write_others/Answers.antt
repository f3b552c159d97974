use Rattle.std.proofs.Common.{◌≡◌, ◌++◌, ◌∙◌, Vec, Global, List, ℤ, ap, flat_map, take, take_all, sym, arith}
use Rattle.report.specs.AnswerForms.{further}
use Rattle.report.specs.Numbers.{separator_bytes}
use Rattle.report.proofs.NumberLemmas.{further_more}
use Rattle.trace.proofs.CutLemmas.{take_on}
use Rattle.report.proofs.numbers.write_others.Goals as goal

pub loop-piece-preserved : goal.loop-piece-preserved
loop-piece-preserved c =
    let separator = separator_bytes c.args.separator in
    let before = flat_map (λ (piece : Vec ℤ Global). piece.items) (take c.loop-piece.piece-index c.args.pieces.now) in
    let all = take_on (λ (piece : Vec ℤ Global). piece.items) c.args.pieces.now c.loop-piece.piece-index
    c.piece-item.result c.loop-piece-test.true c.piece-item.is in
    further_more separator c.write_further.new.text.items c.loop-piece.text.items
    c.write_further-in-loop-piece.new.text.items before c.deref.result.now
    c.loop-piece.invariant c.in_ok-write_further-2.ensures
    ∙ ap (λ vs. c.write_further.new.text.items ++ further separator vs)
    (ap (λ vs. before ++ vs) c.deref.ensures.value ∙ sym all)

pub returns : goal.returns
returns c =
    let separator = separator_bytes c.args.separator in
    let pieces = c.args.pieces.now in
    let written : c.loop-piece.text.items
    ≡ c.write_further.new.text.items
    ++ further separator (flat_map (λ (piece : Vec ℤ Global). piece.items) pieces) =
    c.loop-piece.invariant ∙ ap (λ (ps : List (Vec ℤ Global)). c.write_further.new.text.items
    ++ further separator (flat_map (λ (piece : Vec ℤ Global). piece.items) ps))
    (take_all c.loop-piece.piece-index pieces (omega (arith, c.loop-piece-test.false))) in
    further_more separator c.args.text.now.items c.write_further.new.text.items c.loop-piece.text.items c.args.rest.now
    (flat_map (λ (piece : Vec ℤ Global). piece.items) pieces) c.in_ok-write_further.ensures written
