use Rattle.std.proofs.Common.{◌≡◌, true, false, take, None, sym, subst}
use Rattle.batch_eval.specs.Batches.{laid_items}
use Rattle.lambda_values.specs.Term.{truth_of}
use Rattle.find_ops.specs.declared.terminal.FindTerminal.{FindTerminal}
use Rattle.find_ops.specs.Finds.{find_of, first_decision, any_match, all_match, none_match}
use Rattle.job_plan.proofs.FrontLemmas.{all_undecided, any_undecided, laid_pass, none_decides, none_undecided}
use Rattle.job_plan.proofs.fronts.undecided.Goals as goal

pub returns-in-AnyMatch : goal.returns-in-AnyMatch
returns-in-AnyMatch c = λ stage.
    let l = c.args.lanes in
    let xs = laid_items l.start l.places.now l.values.now in
    let p = truth_of c.in-AnyMatch.test in
    let env = c.args.env.now in
    let count = c.count_passing in
    let k = count.result in
    let passed = laid_pass l.start l.places.now l.values.now p env false k count.ensures.within count.ensures.passed in
    subst (λ (d : FindTerminal). first_decision (find_of d) stage env (take k xs) ≡ None) (sym c.in-AnyMatch.is)
    (none_decides p stage env (any_match p) false (any_undecided p stage env) xs k passed)

pub returns-in-AllMatch : goal.returns-in-AllMatch
returns-in-AllMatch c = λ stage.
    let l = c.args.lanes in
    let xs = laid_items l.start l.places.now l.values.now in
    let p = truth_of c.in-AllMatch.test in
    let env = c.args.env.now in
    let count = c.count_passing-in-AllMatch in
    let k = count.result in
    let passed = laid_pass l.start l.places.now l.values.now p env true k count.ensures.within count.ensures.passed in
    subst (λ (d : FindTerminal). first_decision (find_of d) stage env (take k xs) ≡ None) (sym c.in-AllMatch.is)
    (none_decides p stage env (all_match p) true (all_undecided p stage env) xs k passed)

pub returns-in-NoneMatch : goal.returns-in-NoneMatch
returns-in-NoneMatch c = λ stage.
    let l = c.args.lanes in
    let xs = laid_items l.start l.places.now l.values.now in
    let p = truth_of c.in-NoneMatch.test in
    let env = c.args.env.now in
    let count = c.count_passing-in-NoneMatch in
    let k = count.result in
    let passed = laid_pass l.start l.places.now l.values.now p env false k count.ensures.within count.ensures.passed in
    subst (λ (d : FindTerminal). first_decision (find_of d) stage env (take k xs) ≡ None) (sym c.in-NoneMatch.is)
    (none_decides p stage env (none_match p) false (none_undecided p stage env) xs k passed)
