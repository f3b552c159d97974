use Rattle.std.proofs.Common.{◌≤◌, Err, sym, subst}
use Rattle.std.proofs.lemmas.Result.{err_from_is_err_and}
use Rattle.lambda_expr.specs.CodeWords.{words_in}
use Rattle.job_language.specs.Scopes.{scope_of}
use Rattle.job_language.specs.Shapes.{placed_in}
use Rattle.job_language.specs.Parts.{part_in, begun_of}
use Rattle.job_language.specs.Verdicts.{finished}
use Rattle.job_language.proofs.JobCauseLemmas.{item_stands}
use Rattle.job_language.proofs.CallTurnLemmas.{length_stages, few_after, turn_here, turn_more, none_left}
use Rattle.job_language.proofs.parts.add_parts.Goals as goal

pub read_next_call-requires : goal.read_next_call-requires
read_next_call-requires c = item_stands (words_in c.args.text.now) c.args.calls.now c.loop-call.call-index
    c.call-item.result c.loop-call-test.true c.call-item.is c.requires

pub returns-in_err-part : goal.returns-in_err-part
returns-in_err-part c =
    let s = scope_of c.args.scope in
    let t = c.args.text.now in
    let ws = words_in c.args.text.now in
    let x = c.call-item.result in
    let p = err_from_is_err_and c.from_residual.result c.from_residual.ensures.1 in
    rw (p.1, p.2) (λ other. c.loop-call.invariant (Err c.in_err-part.field-0.0)
    (turn_here s t (begun_of c.loop-call.job) ws c.args.calls.now c.loop-call.call-index x c.in_err-part.field-0.0
    c.loop-call-test.true c.call-item.is (c.in_err-part.ensures other)))

pub add-requires : goal.add-requires
add-requires c =
    let s = scope_of c.args.scope in
    let t = c.args.text.now in
    let ws = words_in c.args.text.now in
    let old = c.loop-call.job in
    few_after (begun_of old) s t (placed_in ws c.call-item.result) (part_in c.in_ok-part.part) c.in_ok-part.ensures
    (subst (λ n. n ≤ 32) (sym (length_stages old.stages.items)) old.few)

pub loop-call-preserved : goal.loop-call-preserved
loop-call-preserved c =
    let s = scope_of c.args.scope in
    let t = c.args.text.now in
    let ws = words_in c.args.text.now in
    let x = c.call-item.result in
    let g = part_in c.in_ok-part.part in
    λ r rest. c.loop-call.invariant r (turn_more s t (begun_of c.loop-call.job) (begun_of c.add.new.job) ws
    c.args.calls.now c.loop-call.call-index x g r c.loop-call-test.true c.call-item.is c.in_ok-part.ensures
    c.in_ok-add.ensures rest)

pub returns : goal.returns
returns c =
    let j = begun_of c.loop-call.job in
    c.loop-call.invariant (finished (scope_of c.args.scope) j)
    (none_left (scope_of c.args.scope) c.args.text.now j (words_in c.args.text.now) c.args.calls.now
    c.loop-call.call-index c.loop-call-test.false)
