use Rattle.std.proofs.Common.{slice_index_or, ap, sym, ◌∙◌}
use Rattle.stream_tokens.specs.declared.token.Token.{Token}
use Rattle.stream_tokens.specs.declared.token.TokenKind.TheVariants as kind
use Rattle.lambda_expr.specs.Words.{word_for}
use Rattle.lambda_expr.proofs.WordList.{get_or-words_of, past_words}
use Rattle.lambda_expr.proofs.number.token_word.Goals as goal

abbrev any : Token
any = record { kind = kind.Name; from = 0; to = 0 }

pub returns-then-place-tokens : goal.returns-then-place-tokens
returns-then-place-tokens c = sym (past_words c.args.text.now c.args.tokens.now c.args.place c.if-place-tokens.true)

pub returns : goal.returns
returns c =
    let token = slice_index_or c.args.tokens.now c.args.place any in
    c.word_for.ensures ∙ ap (word_for token.kind) c.text.ensures
    ∙ sym (get_or-words_of c.args.text.now c.args.tokens.now c.args.place any c.if-place-tokens.false)
