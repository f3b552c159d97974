use Rattle.std.proofs.Common.{◌∙◌, [], List, ℤ, ap, get_or, sym, take}
use denote.Ref.{Bor}
use Rattle.report.specs.AnswerForms.{further}
use Rattle.report.specs.Numbers.{separator_bytes}
use Rattle.report.specs.Runs.{runs_in}
use Rattle.report.proofs.NumberLemmas.{further_more}
use Rattle.report.proofs.PieceLemmas.{run_on}
use Rattle.report.proofs.by_threads.text_of.Goals as goal

pub loop-run-preserved : goal.loop-run-preserved
loop-run-preserved c =
    let separator = separator_bytes c.args.separator in
    let runs = c.args.runs.now in
    let i = c.loop-run.run-index in
    let none : Bor (List ℤ) = record { ref_ptr = (0, 0); now = [] } in
    further_more separator [] c.loop-run.text.items c.write_further.new.text.items (runs_in (take i runs))
    (get_or runs i none).now c.loop-run.invariant c.in_ok-write_further.ensures
    ∙ ap (further separator) (sym (run_on runs i none c.loop-run-test.true))
