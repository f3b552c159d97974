use Rattle.std.proofs.Common.{◌+◌, ◌<◌, ◌≤◌, ◌∙◌, ap, arith, option_copied, subst, sym}
use Rattle.std.proofs.lemmas.List.{get_or_past}
use Rattle.lambda_expr.specs.Lexemes.{lexeme_of}
use Rattle.lambda_expr.specs.declared.lexeme.Lexeme.TheVariants.{Other}
use Rattle.lambda_expr.proofs.LexemeLemmas.{get_or-part, length-part}
use Rattle.lambda_expr.proofs.lexeme.Lexemes.at.Goals as goal

pub overflow_add-at : goal.overflow_add-at
overflow_add-at c =
    let fits = c.self.invariant.fits in
    omega (
      arith,
      length-part c.self.inside c.args.self.now c.self.invariant c.self.view_is,
      c.len.ensures,
      c.if-place-len.false,
    )

pub returns-then-place-len : goal.returns-then-place-len
returns-then-place-len c = sym (get_or_past c.args.self.now c.args.place Other
    (subst (λ n. n ≤ c.args.place) c.len.ensures c.if-place-len.true))

pub returns : goal.returns
returns c =
    let l = c.self.inside in
    let lt = subst (λ n. c.args.place < n) c.len.ensures c.if-place-len.false in
    c.lexeme_of.ensures ∙ ap (lexeme_of l.cells (option_copied l.first) (option_copied l.second)
    (l.from + c.args.place)) c.word_at.ensures.word
    ∙ get_or-part l c.args.self.now c.args.place Other c.self.invariant c.self.view_is lt
