use Rattle.std.proofs.Common.{◌≡◌, ◌≢◌, ◌<◌, ◌≤◌, ◌∙◌, Some, ap, get_or, length, rules, sym, ⊎_elim}
use Rattle.std.proofs.lemmas.List.{get_or_past}
use Rattle.std.proofs.str.Laws.{order}
use Rattle.lambda_expr.specs.declared.head.HeadMark.TheVariants as mark
use Rattle.lambda_expr.specs.declared.lexeme.Lexeme.TheVariants as word
use Rattle.lambda_expr.specs.Heads.{mark_of}
use Rattle.lambda_expr.proofs.HeadLemmas.{matched_on, matched_stop, matched_whole, matched_words}
use Rattle.lambda_expr.proofs.head.matched.Goals as goal

pub returns-then-ne : goal.returns-then-ne
returns-then-ne c =
    let at = c.loop-at.at in
    let ps = c.args.pattern.now in
    let ws = c.args.words.now in
    let misfit : mark_of (get_or ws at word.Other) ≢ Some (get_or ps at mark.Open) = search rules in
    ⊎_elim
    (λ (lt : at < length ws). matched_stop ps ws at mark.Open word.Other c.loop-at-test.true lt misfit
    c.loop-at.invariant)
    (λ (le : length ws ≤ at). matched_words ps ws at le c.loop-at.invariant)
    (order at (length ws))

pub loop-at-preserved : goal.loop-at-preserved
loop-at-preserved c =
    let at = c.loop-at.at in
    let ps = c.args.pattern.now in
    let ws = c.args.words.now in
    let fit : mark_of (get_or ws at word.Other) ≡ Some (get_or ps at mark.Open) = search rules in
    let in_words : at < length ws = ⊎_elim (λ (lt : at < length ws). lt)
    (λ (le : length ws ≤ at). absurd (let e = ap mark_of (sym (get_or_past ws at word.Other le)) ∙ fit in cc))
    (order at (length ws)) in
    matched_on ps ws at mark.Open word.Other c.loop-at-test.true in_words fit c.loop-at.invariant

pub returns : goal.returns
returns c = matched_whole c.args.pattern.now c.args.words.now c.loop-at.at c.loop-at-test.false c.loop-at.invariant
