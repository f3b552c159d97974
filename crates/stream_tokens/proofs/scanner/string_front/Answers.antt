use Rattle.std.proofs.Common.{arith}
use Rattle.stream_tokens.proofs.FrontReads.{string_read, string_open}
use Rattle.stream_tokens.proofs.scanner.string_front.Goals.{else-inside-text-via-then-inside-text+else-text-inside-eq34}
use Rattle.stream_tokens.proofs.scanner.string_front.Goals.{else-inside-text-via-else-inside-text}
use Rattle.stream_tokens.proofs.scanner.string_front.Goals as goal

pub returns-then-text-inside-eq34 : goal.returns-then-text-inside-eq34
returns-then-text-inside-eq34 c = string_read c.args.text.now c.inside_bytes-inside.result c.requires.some
    c.requires.quote c.inside_bytes-inside.ensures.value c.if-inside-text.true c.if-text-inside-eq34.true

pub returns-else-inside-text : goal.returns-else-inside-text
returns-else-inside-text c = string_open c.args.text.now c.inside_bytes-inside.result c.requires.some c.requires.quote
    c.inside_bytes-inside.ensures.value (elim c.else-inside-text.branch [
      | else-inside-text-via-then-inside-text+else-text-inside-eq34 w ↦
          λ less closed. w.if-text-inside-eq34.false closed
      | else-inside-text-via-else-inside-text w ↦ λ less closed. absurd (omega (arith, w.if-inside-text.false))
    ])
