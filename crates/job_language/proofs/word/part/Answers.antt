use Rattle.std.proofs.Common.{ap, ◌∙◌}
use Rattle.lambda_expr.specs.CodeWords.{words_in}
use Rattle.job_language.specs.Arguments.{no_token}
use Rattle.job_language.proofs.WordLists.{part_words}
use Rattle.job_language.proofs.word.part.Goals as goal

pub returns-clause-words : goal.returns-clause-words
returns-clause-words c =
    ap words_in (c.between.ensures no_token)
    ∙ part_words c.args.text.now c.args.opened c.args.from c.args.to no_token c.bytes-bytes.ensures.tokens
    c.requires.in_order c.requires.in_range
