use Rattle.std.proofs.Common.{◌<◌, ◌≤◌, sym, subst, ◌∙◌}
use Rattle.stream_tokens.specs.declared.token.Token.{Token}
use Rattle.stream_tokens.specs.declared.token.TokenKind.TheVariants as kind
use Rattle.lambda_expr.proofs.WordList.{past_words, word_there}
use Rattle.lambda_expr.proofs.word.word_at.Goals as goal

abbrev any : Token
any = record { kind = kind.Name; from = 0; to = 0 }

pub returns-then-place-len-clause-word : goal.returns-then-place-len-clause-word
returns-then-place-len-clause-word c =
    let t = c.args.text.now in
    sym (past_words t.bytes t.tokens c.args.place (subst (λ n. n ≤ c.args.place) c.len.ensures c.if-place-len.true))

pub returns-clause-word : goal.returns-clause-word
returns-clause-word c =
    let t = c.args.text.now in
    let lt = subst (λ n. c.args.place < n) c.len.ensures c.if-place-len.false in
    c.word_for.ensures ∙ sym (word_there t.bytes t.tokens c.args.place any c.kind.result c.word.result.now lt
    (c.kind.ensures any) (c.word.ensures any))
