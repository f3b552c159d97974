use Rattle.std.proofs.Common.{rules, ◌≡◌, ◌+◌, length, Err, ap, arith}
use Rattle.std.specs.Vec.Iter.{into_iter_items, into_iter_len}
use Rattle.job_language.specs.Jobs.{jobs_of}
use Rattle.report_merge.proofs.ApartLemmas.{first_done, next_done, refused_all, refused_next}
use Rattle.report_merge.proofs.LoopLemmas.{nothing_left, when_err}
use Rattle.report_merge.proofs.merging.merged.Goals.{in-None-whole+in_ok-first_part-in-None-whole}
use Rattle.report_merge.proofs.merging.merged.Goals.{in-Some-whole+in_ok-as_one-in-Some-whole}
use Rattle.report_merge.proofs.merging.merged.Goals as goal

pub returns-in_err-as_one-in-Some-whole-clause-says : goal.returns-in_err-as_one-in-Some-whole-clause-says
returns-in_err-as_one-in-Some-whole-clause-says c =
    let fault = c.in_err-as_one-in-Some-whole.field-0.0 in
    let answer : c.from_residual-in_err-as_one-in-Some-whole.result ≡ Err fault = search rules in
    rw answer (refused_next (jobs_of c.args.jobs.now) c.in-Some-whole.left c.in-Some.part c.loop-part.whole
    (into_iter_items c.loop-part.part-iterator) c.loop-part.number c.loop-part.yielded _ c.args.parts.items fault
    c.in-Some-whole.is c.in-Some.ensures.steps.0 c.loop-part.invariant.6 c.loop-part.invariant.4
    c.in_err-as_one-in-Some-whole.ensures.at)

pub returns-in-Some-whole-2-clause-says : goal.returns-in-Some-whole-2-clause-says
returns-in-Some-whole-2-clause-says c =
    let items = into_iter_items c.loop-part.part-iterator in
    let none = nothing_left items _ c.loop-part.invariant.2 c.in-None.ensures.steps.0 in
    when_err c.with_fallbacks.result _ _ c.with_fallbacks.ensures.at
    (λ fault at. refused_all (jobs_of c.args.jobs.now) c.in-Some-whole-2.all c.loop-part.whole items c.loop-part.number
    c.loop-part.yielded c.args.parts.items fault c.in-Some-whole-2.is none c.loop-part.invariant.6 at)

pub loop-part-preserved : goal.loop-part-preserved
loop-part-preserved c =
    let items = into_iter_items c.loop-part.part-iterator in
    let left = into_iter_items c.next.new.self in
    let lengths : length items ≡ length left + 1 = omega (arith, ap length c.in-Some.ensures.steps.0) in
    let len : into_iter_len c.next.new.self ≡ length left =
    omega (arith, lengths, c.in-Some.ensures.steps.1, c.loop-part.invariant.2) in
    elim c.match-whole.branch [
      | in-None-whole+in_ok-first_part-in-None-whole w ↦ rw w.whole-is (
        tt,
        tt,
        len,
        search rules,
        search rules,
        search rules,
        first_done (jobs_of c.args.jobs.now) c.loop-part.number c.saturating_add-number.result c.in-Some.part
            w.in_ok-first_part-in-None-whole.field-0 c.loop-part.yielded left c.args.parts.items
            c.saturating_add-number.ensures
            c.loop-part.whole items w.in-None-whole.is c.in-Some.ensures.steps.0 c.loop-part.invariant.6
            w.in_ok-first_part-in-None-whole.ensures.ok,
      )
      | in-Some-whole+in_ok-as_one-in-Some-whole w ↦ rw w.whole-is (
        tt,
        tt,
        len,
        search rules,
        search rules,
        search rules,
        next_done (jobs_of c.args.jobs.now) c.loop-part.number c.saturating_add-number.result c.in-Some.part
            w.in_ok-as_one-in-Some-whole.field-0 c.loop-part.yielded left c.args.parts.items
            c.saturating_add-number.ensures
            w.in-Some-whole.left c.loop-part.whole items w.in-Some-whole.is c.in-Some.ensures.steps.0
            c.loop-part.invariant.6 w.in_ok-as_one-in-Some-whole.ensures.ok,
      )
    ]
