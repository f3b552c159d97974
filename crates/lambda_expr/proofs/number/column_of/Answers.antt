use Rattle.std.proofs.Common.{◌≡◌, ◌-◌, suc, length, get_or, sym, ap, ◌∙◌, add-one, arith}
use Rattle.stream_tokens.specs.declared.token.Token.{Token}
use Rattle.stream_tokens.specs.CutTexts.{column}
use Rattle.stream_tokens.proofs.CutTextLemmas.{column_at, column_past, shifted_none}
use Rattle.lambda_expr.proofs.number.column_of.Goals as goal

pub returns-in-Some : goal.returns-in-Some
returns-in-Some c =
    let text = c.args.text.now in
    let ts = c.args.tokens.now in
    let token = c.in-Some.token.now in
    let lookup = c.in-Some.ensures.lookup in
    let from = (get_or ts c.args.place token).from in
    let same : suc from ≡ suc (from - 0) = omega arith in
    add-one token.from ∙ ap (λ (t : Token). suc t.from) lookup.1 ∙ same
    ∙ sym (column_at text 0 ts c.args.place token lookup.3.0)
    ∙ ap (λ us. column text us c.args.place) (shifted_none ts)

pub returns-in-None : goal.returns-in-None
returns-in-None c =
    let text = c.args.text.now in
    let lookup = c.in-None.ensures.lookup in
    add-one (length text) ∙ sym (column_past text 0 c.args.tokens.now c.args.place lookup.3)
    ∙ ap (λ us. column text us c.args.place) (shifted_none c.args.tokens.now)
