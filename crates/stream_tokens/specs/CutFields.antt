-- Condition: which text and which tokens the fields of a cut text mean.
use Rattle.std.specs.Prelude.{◌≤◌, length, slice_range}
use Rattle.stream_tokens.specs.declared.cut_text.CutText.TheInside.{Inside}
use Rattle.stream_tokens.specs.Tokens.{CutBetween}
use Rattle.stream_tokens.specs.CutTexts.{TokenizedText, shifted}

-- the bytes from `from` up to `to`, with positions counted from there
abbrev pub tokenized : Inside → TokenizedText
tokenized c = record { bytes = slice_range c.text.now c.from c.to; tokens = shifted c.from c.tokens.now }

-- the tokens belong to these bytes
pub record IsCut (c : Inside) : Type 0 where
  pub within : c.to ≤ length c.text.now
  pub in_order : c.from ≤ c.to
  pub tokens : CutBetween c.text.now c.from c.tokens.now c.to
