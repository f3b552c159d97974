use Rattle.std.proofs.Common.{◌≡◌, ◌∙◌, ◌++◌, ap}
use Rattle.counted_io.proofs.GivenBytes.{Consumes-append}
use Rattle.columns.proofs.reading.columns_up_to.Goals as goal

pub returns-clause-answer : goal.returns-clause-answer
returns-clause-answer g c =
    let rem = g.R.CountedRead.remaining in
    let (one, first, grown) = c.in_ok-is_last.ensures.bytes in
    let (two, second, is) = c.columns_in_rounds.ensures.answer in
    let all : c.read_on.new.bytes.items ≡ one = grown ∙ ap (λ l. l ++ one) c.no_bytes-bytes.ensures in (
      one ++ two,
      Consumes-append (rem c.args.reader.now) (rem c.read_on.new.reader) (rem c.columns_in_rounds.new.reader)
          one two first second,
      rw all at is,
    )
