use Rattle.spliterator.proofs.PartLemmas.{half_array, half_range}
use Rattle.spliterator.proofs.plain_split.PlainSplitLongSpliterator.try_split.Goals as goal

pub returns-in_ok-try_split-in-Range-clause-half : goal.returns-in_ok-try_split-in-Range-clause-half
returns-in_ok-try_split-in-Range-clause-half c =
    half_range c.args.self.now c.in-Range.range c.in_ok-try_split-in-Range.field-0 c.in-Range.is
    c.in_ok-try_split-in-Range.ensures.half

pub returns-in_ok-try_split-in-Array-clause-half : goal.returns-in_ok-try_split-in-Array-clause-half
returns-in_ok-try_split-in-Array-clause-half c =
    half_array c.args.self.now c.in-Array.array c.in_ok-try_split-in-Array.field-0 c.in-Array.is
    c.in_ok-try_split-in-Array.ensures.half
