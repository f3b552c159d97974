use Rattle.std.proofs.Common.{◌≡◌, ◌∙◌, Err, ap, arith, drop, map, refl, rules, subst}
use Rattle.std.proofs.lemmas.List.{take_rest}
use Rattle.columns.specs.Fronts.{Goes, IsPutBy, left_in}
use Rattle.tables.specs.TableOfColumns.{named}
use Rattle.columns.proofs.FrontLemmas.{Goes-failed, Goes-none, Goes-on, Goes-put}
use Rattle.columns.proofs.rounds.put_rounds.Goals.{else-loop-test}
use Rattle.columns.proofs.rounds.put_rounds.Goals.{then-loop-test+else-rounds+in_ok-put_round+then-not-branch}
use Rattle.columns.proofs.rounds.put_rounds.Goals as goal

pub loop-init : goal.loop-init
loop-init g c = (
  refl,
  Goes-none c.args.layout.now (g.R.CountedRead.remaining c.args.reader.now) _ _,
  omega arith,
  c.requires.within,
  c.requires.even,
  c.requires.last,
)

pub loop-preserved : goal.loop-preserved
loop-preserved g c =
    let rem = g.R.CountedRead.remaining in
    let (same, so_far, counts, within, even, last) = c.loop.invariant in
    let round = c.in_ok-put_round.ensures in (
      search rules,
      Goes-on c.args.layout.now (rem c.args.reader.now) (rem c.loop.reader) (rem c.put_round.new.reader)
          (left_in c.args.rounds.now) (left_in c.loop.rounds) (left_in c.put_round.new.rounds)
          (map named c.args.columns.now) (map named c.loop.columns) (map named c.put_round.new.columns) so_far
          round.goes,
      omega (arith, counts, round.counts),
      round.within,
      round.even,
      round.end,
    )

pub returns-in_err-put_round-clause-put : goal.returns-in_err-put_round-clause-put
returns-in_err-put_round-clause-put g c =
    let rem = g.R.CountedRead.remaining in
    let fault = c.in_err-put_round.field-0.0 in
    let answer : c.from_residual.result ≡ Err fault = search rules in
    let (same, so_far, counts, within, even, last) = c.loop.invariant in
    rw answer (Goes-failed c.args.layout.now (rem c.args.reader.now) (rem c.loop.reader) (rem c.put_round.new.reader)
    (left_in c.args.rounds.now) (left_in c.loop.rounds)
    (map named c.args.columns.now) (map named c.loop.columns) (map named c.put_round.new.columns) fault so_far
    c.in_err-put_round.ensures.gave c.in_err-put_round.ensures.refused)

pub returns-then-rounds-clause-put : goal.returns-then-rounds-clause-put
returns-then-rounds-clause-put g c =
    let rem = g.R.CountedRead.remaining in
    let left = rem c.loop.reader in
    let (same, so_far, counts, within, even, last) = c.loop.invariant in
    Goes-put c.args.layout.now (rem c.args.reader.now) left left (left_in c.args.rounds.now) (left_in c.loop.rounds)
    (map named c.args.columns.now) (map named c.loop.columns) (map named c.put_last.new.columns) c.put_last.result
    so_far (c.put_last.ensures.put left)

pub returns-clause-put : goal.returns-clause-put
returns-clause-put g c =
    let rem = g.R.CountedRead.remaining in
    let l = c.args.layout.now in
    let (same, so_far, counts, within, even, last) = c.loop.invariant in
    let start = left_in c.args.rounds.now in
    let left = left_in c.loop-test.rounds in
    let before = map named c.args.columns.now in
    let columns = map named c.loop-test.columns in
    let now = map named c.put_by_records.new.columns in
    let goes : Goes l (rem c.args.reader.now) (rem c.loop-test.reader) start left before columns =
    elim c.loop-test.branch [
      | else-loop-test w ↦ rw (w.reader-is, w.rounds-is, w.columns-is) so_far
      | then-loop-test+else-rounds+in_ok-put_round+then-not-branch w ↦
          rw (w.reader-is, w.rounds-is, w.columns-is)
          (Goes-on l (rem c.args.reader.now) (rem c.loop.reader) (rem w.put_round.new.reader) start
          (left_in c.loop.rounds) (left_in w.put_round.new.rounds)
          before (map named c.loop.columns) (map named w.put_round.new.columns) so_far w.in_ok-put_round.ensures.goes)
    ] in
    let from = c.loop-test.rounds.from in
    let text = take_rest c.deref.result.now from ∙ ap (drop from) c.deref.ensures.value in
    let put = subst (λ t. IsPutBy l (rem c.loop-test.reader) (rem c.put_by_records.new.reader) t columns
    c.put_by_records.result now) text c.put_by_records.ensures.put in
    Goes-put l (rem c.args.reader.now) (rem c.loop-test.reader) (rem c.put_by_records.new.reader) start left before
    columns now c.put_by_records.result goes put
