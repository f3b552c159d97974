use Rattle.std.proofs.Common.{◌∙◌, sym, arith}
use Rattle.stream_tokens.proofs.FrontReads.{number_marked, number_plain}
use Rattle.stream_tokens.proofs.scanner.number_len.Goals.{else-digits-text-via-then-digits-text+else-is_long_mark}
use Rattle.stream_tokens.proofs.scanner.number_len.Goals.{else-digits-text-via-else-digits-text}
use Rattle.stream_tokens.proofs.scanner.number_len.Goals as goal

pub returns-then-is_long_mark : goal.returns-then-is_long_mark
returns-then-is_long_mark c = number_marked c.args.text.now c.digits-digits.result c.requires.no_name c.requires.digit
    c.digits-digits.ensures.value c.if-digits-text.true (sym c.is_long_mark.ensures ∙ c.if-is_long_mark.true)

pub returns-else-digits-text : goal.returns-else-digits-text
returns-else-digits-text c = number_plain c.args.text.now c.digits-digits.result c.requires.no_name c.requires.digit
    c.digits-digits.ensures.value (elim c.else-digits-text.branch [
      | else-digits-text-via-then-digits-text+else-is_long_mark w ↦
          λ less. sym w.is_long_mark.ensures ∙ w.if-is_long_mark.false
      | else-digits-text-via-else-digits-text w ↦ λ less. absurd (omega (arith, w.if-digits-text.false))
    ])
