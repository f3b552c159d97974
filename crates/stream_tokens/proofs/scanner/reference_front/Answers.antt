use Rattle.std.proofs.Common.{◌∙◌, sym}
use Rattle.stream_tokens.proofs.FrontReads.{reference_read, dollar_alone, dollar_last}
use Rattle.stream_tokens.proofs.scanner.reference_front.Goals.{else-not-is_empty-via-then-not-is_empty+else-is_name_start}
use Rattle.stream_tokens.proofs.scanner.reference_front.Goals.{else-not-is_empty-via-else-not-is_empty}
use Rattle.stream_tokens.proofs.scanner.reference_front.Goals as goal

pub returns-then-is_name_start : goal.returns-then-is_name_start
returns-then-is_name_start c = reference_read c.args.text.now c.name_bytes.result c.requires.some c.requires.dollar
    (sym c.is_name_start.ensures ∙ c.if-is_name_start.true) c.name_bytes.ensures.value

pub returns-else-not-is_empty : goal.returns-else-not-is_empty
returns-else-not-is_empty c = elim c.else-not-is_empty.branch [
  | else-not-is_empty-via-then-not-is_empty+else-is_name_start w ↦
      dollar_alone c.args.text.now c.requires.some c.requires.dollar
      (sym w.is_name_start.ensures ∙ w.if-is_name_start.false)
  | else-not-is_empty-via-else-not-is_empty w ↦
      dollar_last c.args.text.now c.requires.some c.requires.dollar (sym c.is_empty.ensures ∙ w.if-not-is_empty.false)
]
