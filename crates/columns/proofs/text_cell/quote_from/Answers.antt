use Rattle.std.proofs.Common.{◌≤◌, ◌+◌, ◌==◌, inl, inr, arith, length}
use Rattle.std.proofs.lemmas.Bool.{eqb-true}
use Rattle.std.proofs.lemmas.Simd.{run_in_chunk_fails, run_in_chunk_stops}
use Rattle.columns.proofs.TextLemmas.{before_or_after}
use Rattle.columns.proofs.text_cell.quote_from.Goals as goal

pub returns-then-run-lt-BLOCK-clause-none : goal.returns-then-run-lt-BLOCK-clause-none
returns-then-run-lt-BLOCK-clause-none c k low high =
    let text = c.args.text.now in
    let from = c.loop-from.from in
    let run = c.quoted_run-run.result in
    let (at_from, within, none) = c.loop-from.invariant in
    let room : from + 16 ≤ length text = omega (arith, within, c.loop-from-test.true) in
    elim (before_or_after k from) [
      | inl before ↦ none k low before
      | inr after ↦ run_in_chunk_fails (λ x. x == 34) text from 16 run 0 room c.quoted_run-run.ensures k after high
    ]

pub returns-then-run-lt-BLOCK-clause-quote : goal.returns-then-run-lt-BLOCK-clause-quote
returns-then-run-lt-BLOCK-clause-quote c =
    let text = c.args.text.now in
    let from = c.loop-from.from in
    let run = c.quoted_run-run.result in
    let (at_from, within, none) = c.loop-from.invariant in
    let room : from + 16 ≤ length text = omega (arith, within, c.loop-from-test.true) in
    eqb-true _ _ (run_in_chunk_stops (λ x. x == 34) text from 16 run 0 room c.quoted_run-run.ensures
    (omega (arith, c.if-run-lt-BLOCK.true)))

pub loop-from-preserved : goal.loop-from-preserved
loop-from-preserved c =
    let text = c.args.text.now in
    let from = c.loop-from.from in
    let run = c.quoted_run-run.result in
    let (at_from, within, none) = c.loop-from.invariant in
    let room : from + 16 ≤ length text = omega (arith, within, c.loop-from-test.true) in
    let whole : 16 ≤ run = omega (arith, c.if-run-lt-BLOCK.false) in (
      omega (arith, at_from),
      room,
      λ k low high. elim (before_or_after k from) [
        | inl before ↦ none k low before
        | inr after ↦ run_in_chunk_fails (λ x. x == 34) text from 16 run 0 room c.quoted_run-run.ensures k after
            (omega (arith, high, whole))
      ],
    )
