use Rattle.std.proofs.Common.{◌≡◌, ◌≤◌, ◌++◌, ◌∙◌, ap, drop, length, map, rules, take}
use Rattle.std.proofs.lemmas.List.{take_rest}
use Rattle.columns.specs.Fronts.{left_in}
use Rattle.columns.specs.Layouts.{AreReadBy, looks_in}
use Rattle.tables.specs.TableOfColumns.{named}
use Rattle.columns.proofs.EvenLemmas.{AreEven-read}
use Rattle.columns.proofs.FrontLemmas.{Goes-round}
use Rattle.columns.proofs.rounds.put_round.Goals as goal

pub returns-clause-goes : goal.returns-clause-goes
returns-clause-goes g c =
    let rem = g.R.CountedRead.remaining in
    let l = c.args.layout.now in
    let left = left_in c.args.rounds.now in
    let end = c.last_line_end-end.result in
    let put_to = c.in_ok-put_to.put_to in
    let spare = c.put_and_read-put.new.rounds.spare.items in
    let before = map named c.args.columns.now in
    let now = map named c.put_and_read-put.new.columns in
    let from = c.args.rounds.now.from in
    let all = take_rest c.deref.result.now from ∙ ap (drop from) c.deref.ensures.value in
    let in_left : end ≤ length left = rw all at c.last_line_end-end.ensures.within in
    let tail : c.begin_with.new.spare.items ≡ drop end left = search (rules, take_rest) in
    let (gone, consumed, grown) = rw c.in_ok-is_last.was at c.put_and_read-put.ensures.bytes in
    let read : AreReadBy l (take end left) (drop put_to (take end left)) before now =
    rw c.in_ok-put_to.was at c.put_and_read-put.ensures.put in
    let within : put_to ≤ end = rw c.in_ok-put_to.was at c.put_and_read-put.ensures.within in
    let next : left_in c.go_on_from.new.rounds ≡ drop put_to (take end left ++ spare) = search rules in
    Goes-round l (rem c.args.reader.now) (rem c.put_and_read-put.new.reader) left spare gone
    (left_in c.go_on_from.new.rounds) end put_to before now
    within in_left read consumed (grown ∙ ap (λ t. t ++ gone) tail) next

pub returns-clause-even : goal.returns-clause-even
returns-clause-even g c =
    let l = c.args.layout.now in
    let lines = take c.last_line_end-end.result (left_in c.args.rounds.now) in
    let before = map named c.args.columns.now in
    let now = map named c.put_and_read-put.new.columns in
    let read : AreReadBy l lines (drop c.in_ok-put_to.put_to lines) before now =
    rw c.in_ok-put_to.was at c.put_and_read-put.ensures.put in
    AreEven-read l.separator l.blank (looks_in l) lines (drop c.in_ok-put_to.put_to lines) before now read
    c.requires.even
