use Rattle.std.proofs.Common.{◌∙◌}
use Rattle.lambda_expr.specs.CodeWords.{words_in}
use Rattle.lambda_expr.specs.NumberWords.{number_value}
use Rattle.lambda_expr.proofs.NumberStops.{by_read}
use Rattle.lambda_expr.proofs.WordList.{count_words}
use Rattle.lambda_expr.proofs.number.number_read.Goals as goal

pub returns : goal.returns
returns c =
    let t = c.args.text.now in
    let is = c.number_in.ensures (words_in t) (count_words t _ c.len.ensures) c.word_at.ensures.word
    c.word_at-2.ensures.word c.word_at-3.ensures.word in
    c.flatten.ensures ∙ (by_read (number_value (words_in t)) c.number_in.result is).1
