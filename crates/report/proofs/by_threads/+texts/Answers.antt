use Rattle.std.proofs.Common.{rules}
use Rattle.report.specs.Numbers.{separator_bytes}
use Rattle.report.proofs.PieceLemmas.{text_more}
use Rattle.report.proofs.by_threads.+texts.Goals as goal

pub returns : goal.returns
returns g t c =
    text_more (separator_bytes c.args.separator) c.args.groups.now c.in-Some.before.now c.in-Some.last.now
    c.push.new.self.items c.in_ok-texts.texts.items c.in_ok-text.field-0 (search rules) (search rules) (search rules)
    (search rules)
