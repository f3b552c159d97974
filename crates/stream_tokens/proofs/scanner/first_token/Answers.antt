use Rattle.std.proofs.Common.{◌∙◌, sym, ap, subst, inl, length}
use Rattle.std.proofs.lemmas.Bool.{ne_eqb}
use Rattle.stream_tokens.specs.declared.token.TokenKind.TheVariants.{Name, Symbol}
use Rattle.stream_tokens.specs.Tokens.{IsFirstToken}
use Rattle.stream_tokens.proofs.Longest.{longest_name, symbol_taken, nothing_taken}
use Rattle.stream_tokens.proofs.scanner.first_token.Goals as goal

pub returns-then-is_name_start : goal.returns-then-is_name_start
returns-then-is_name_start c = subst (IsFirstToken c.args.text.now Name) (sym c.name_bytes.ensures.value)
    (inl (longest_name c.args.text.now (sym c.is_name_start.ensures ∙ c.if-is_name_start.true)))

pub returns-in-Some : goal.returns-in-Some
returns-in-Some c =
    subst (IsFirstToken c.args.text.now (Symbol c.in-Some.symbol)) (ap length (sym c.spelling.ensures))
    (symbol_taken c.args.text.now c.in-Some.symbol c.requires.some (
      sym c.is_name_start.ensures ∙ c.if-is_name_start.false,
      sym c.is_ascii_digit.ensures.value ∙ c.if-is_ascii_digit.false,
      ne_eqb _ 34 c.if-first-eq34.false,
      ne_eqb _ 36 c.if-first-eq36.false,
    )
    (sym c.symbol_front.ensures ∙ c.in-Some.is))

pub returns-in-None : goal.returns-in-None
returns-in-None c =
    nothing_taken c.args.text.now c.requires.some (
      sym c.is_name_start.ensures ∙ c.if-is_name_start.false,
      sym c.is_ascii_digit.ensures.value ∙ c.if-is_ascii_digit.false,
      ne_eqb _ 34 c.if-first-eq34.false,
      ne_eqb _ 36 c.if-first-eq36.false,
    )
    c.requires.solid (sym c.symbol_front.ensures ∙ c.in-None.is)
