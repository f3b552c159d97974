use Rattle.std.proofs.Common.{◌+◌, drop, length, arith, length-drop}
use Rattle.lambda_expr.specs.CodeWords.{words_in}
use Rattle.lambda_expr.proofs.WordList.{length-words_of}
use Rattle.job_language.proofs.Ends.{next_end}
use Rattle.job_language.proofs.call.fit.Goals as goal

pub part-part-requires-clause-in_range : goal.part-part-requires-clause-in_range
part-part-requires-clause-in_range c =
    let t = c.args.text.now in
    let end = next_end c.loop-at.from c.args.ends.now c.loop-at.at (length (drop (c.args.opened + 1) (words_in t)))
    c.loop-at-test.true c.loop-at.invariant.ends in
    omega (
      arith,
      length-words_of t.bytes t.tokens,
      length-drop (c.args.opened + 1) (words_in t),
      end.1,
      c.requires.opened,
    )

pub overflow_add-from : goal.overflow_add-from
overflow_add-from c =
    let t = c.args.text.now in
    let end = next_end c.loop-at.from c.args.ends.now c.loop-at.at (length (drop (c.args.opened + 1) (words_in t)))
    c.loop-at-test.true c.loop-at.invariant.ends in
    omega (
      arith,
      length-words_of t.bytes t.tokens,
      length-drop (c.args.opened + 1) (words_in t),
      end.1,
      c.requires.opened,
      c.part-part.ensures.len,
    )
