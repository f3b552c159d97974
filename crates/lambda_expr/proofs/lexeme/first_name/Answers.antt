use Rattle.std.proofs.Common.{◌≤◌, ap, option_copied, subst, sym, ◌∙◌}
use Rattle.std.proofs.lemmas.List.{drop_all}
use Rattle.lambda_expr.specs.CodeWords.{words_in}
use Rattle.lambda_expr.specs.Lexemes.{first_name}
use Rattle.lambda_expr.proofs.WordList.{length-words_of}
use Rattle.lambda_expr.proofs.lexeme.first_name.Goals as goal

pub returns : goal.returns
returns c =
    let t = c.args.text.now in
    let past = subst (λ n. n ≤ c.loop-at.at) (c.len-at-end.ensures ∙ sym (length-words_of t.bytes t.tokens))
    c.loop-at-test.false in
    sym (c.loop-at.invariant ∙ ap (first_name c.args.cells (option_copied c.args.taken))
    (drop_all c.loop-at.at (words_in t) past))
