use Rattle.std.proofs.Common.{◌+◌, suc, arith, ap, ◌∙◌, ◌≡◌}
use Rattle.job_runner.specs.Runs.{first_word}
use Rattle.job_runner.proofs.StopLemmas.{next_word}
use Rattle.job_runner.proofs.places.first_of_next.Goals as goal

pub returns : goal.returns
returns g c = λ small.
    let last = g.S.JobLegs.run.last in
    let a = c.saturating_add.ensures in
    let b = c.saturating_add-2.ensures in
    let e = c.requires.last in
    let first = c.requires.first (omega (arith, a, b, small)) in
    let n = next_word last c.args.job in
    let s : suc c.args.job ≡ c.args.job + 1 = omega arith in
    omega (arith, a, b, small, first, n, e) ∙ ap (first_word last) s
