use Rattle.std.proofs.Common.{◌≡◌, List, [], ◌++◌, Ok, take, sym, ap, subst, ◌∙◌}
use Rattle.lambda_values.specs.declared.item.Item.{Item}
use Rattle.trace.specs.declared.item.End.{End}
use Rattle.trace.specs.declared.item.End.TheVariants as end
use Rattle.trace.specs.Sinks.{IsFed}
use Rattle.trace.specs.Trace.{Trace, trace, nothing, append}
use Rattle.job_plan.specs.declared.part_sink.PartSink.{PartSink}
use Rattle.job_plan.specs.declared.part.Part.{Part}
use Rattle.job_plan.specs.Parts.{EndsFor, HasTaken, StandsFor, is_settled, walk_in}
use Rattle.job_routes.specs.Legs.{end_in, segment_in, last_stage, walk_of}
use Rattle.prefix_walks.specs.Pieces.{elements, piece_of}
use Rattle.job_plan.proofs.PartLemmas.{none_stands}
use Rattle.job_plan.proofs.WalkLemmas.{after_enough, after_fault, after_more, enough_is_settled, same_ending}
use Rattle.job_plan.proofs.WalkLemmas.{settled_first, taken_none, unpinned}
use Rattle.job_plan.proofs.EnoughLemmas.{whole_enough}
use Rattle.job_plan.proofs.leaves.part_until.Goals.{in-More, in-Fault, in-Enough}
use Rattle.job_plan.proofs.leaves.part_until.Goals as goal

pub returns-then-is_settled-clause-stands : goal.returns-then-is_settled-clause-stands
returns-then-is_settled-clause-stands g c =
    let s = segment_in c.args.segment.now in
    let env = c.args.walked.env.now in
    whole_enough s env c.args.part (g.W.Stop.decides c.args.stop.now) c.args.window.from
    (piece_of c.args.window.from c.args.window.to (walk_in c.args.walked.source))
    (settled_first s env c.args.part nothing (walk_in c.args.walked.source) c.args.window.from c.args.window.to
    (sym c.is_settled.ensures ∙ c.if-is_settled.true) (none_stands s env c.args.part c.requires.none))

pub returns-clause-stands : goal.returns-clause-stands
returns-clause-stands g c =
    let s = segment_in c.args.segment.now in
    let e = end_in c.args.segment.now.end in
    let f = end_in g.K.EndBrand.last in
    let m = last_stage s in
    let n = g.K.EndBrand.stage in
    let env = c.args.walked.env.now in
    let named = g.K.EndBrand.env in
    let begun = g.K.EndBrand.begun in
    let t = walk_in c.args.walked.source in
    let from = c.args.window.from in
    let to = c.args.window.to in
    let ends : e ≡ f = ap end_in c.requires.last in
    let no_items : List Item = [] in
    let first : HasTaken f n named begun c.args.part no_items =
    subst (λ (b : Part). HasTaken f n named b c.args.part no_items) c.requires.begun
    (taken_none f n named c.args.part) in
    let walk = walk_of s env (trace (elements from to t.items) end.Done) in
    let none : EndsFor e m env c.args.part (walk_of s env nothing) = none_stands s env c.args.part c.requires.none in
    let at_first : EndsFor f n named begun (walk_of s env nothing) =
    subst (λ (b : Part). EndsFor f n named b (walk_of s env nothing)) c.requires.begun
    (unpinned f e n m named env c.args.part (walk_of s env nothing) (sym ends) (sym c.requires.stage)
    (sym c.requires.env) none) in
    let w_before = walk_of s env nothing in
    let has = λ (sink : PartSink g.row.K.Denot g.K.EndBrand) (items : List Item).
    (sink.last.end.now ≡ g.K.EndBrand.last) × (sink.last.number ≡ n) × (sink.last.env.now ≡ named)
    × HasTaken f n named begun sink.part items in
    let piped_fed = (rw c.in-Some.is at c.in_ok-ended.ensures.fed) no_items
    (c.requires.last, c.next.ensures ∙ c.requires.stage, c.requires.env, first) in
    let fed = subst (λ (u : Trace). IsFed has no_items u (Ok c.in-Some.fed) c.in-Some.taken)
    (c.pipeline-line.ensures.walk (trace (elements from to t.items) end.Done)) piped_fed in
    let part = c.in-Some.taken.part in
    whole_enough s env c.match-fed.sink.0 (g.W.Stop.decides c.args.stop.now) from (piece_of from to t)
    (elim c.match-fed.branch [
      | in-More w ↦
          let given = rw w.in-More.is at fed in
          let front : Trace = append w_before (trace (no_items ++ walk.items) end.Done) in
          let x : EndsFor e m env part front =
          unpinned e f m n env named part front ends c.requires.stage c.requires.env
          (given.0.3.0 w_before at_first) in
          let y = w.end_with.ensures.stands e m env front x in
          let z = subst (λ (k : End). EndsFor e m env w.end_with.new.self (append front (trace [] k)))
          (w.piece_end.ensures ∙ same_ending from to t) y in
          subst (λ (p : Part). StandsFor s env p (piece_of from to t)) (sym (ap (λ k. k.0) w.sink-is))
          (after_more s env w.end_with.new.self nothing t from to given.1 z)
      | in-Fault w ↦
          let given = rw w.in-Fault.is at fed in
          let front : Trace = append w_before (trace (no_items ++ walk.items) end.Done) in
          let x : EndsFor e m env part front =
          unpinned e f m n env named part front ends c.requires.stage c.requires.env
          (given.0.3.0 w_before at_first) in
          let y = w.end_with-in-Fault.ensures.stands e m env front x in
          subst (λ (p : Part). StandsFor s env p (piece_of from to t)) (sym (ap (λ k. k.0) w.sink-is))
          (after_fault s env w.end_with-in-Fault.new.self nothing t from to w.in-Fault.fault given.1 y)
      | in-Enough w ↦
          let given = rw w.in-Enough.is at fed in
          let flow = rw w.in-Enough.is at (rw c.in-Some.is at c.in_ok-ended.ensures.flow) in
          let front : Trace = append w_before (trace (no_items ++ take given.0 walk.items) end.Done) in
          let x : EndsFor e m env part front =
          unpinned e f m n env named part front ends c.requires.stage c.requires.env
          (given.2.3.0 w_before at_first) in
          subst (λ (p : Part). StandsFor s env p (piece_of from to t)) (sym (ap (λ k. k.0) w.sink-is))
          (after_enough s env part nothing t from to given.0 (enough_is_settled (is_settled part) flow) x)
    ])

pub returns-in_default-clause-left : goal.returns-in_default-clause-left
returns-in_default-clause-left g c =
    let f = end_in g.K.EndBrand.last in
    let n = g.K.EndBrand.stage in
    let begun = g.K.EndBrand.begun in
    let no_items : List Item = [] in
    let first : HasTaken f n g.K.EndBrand.env begun c.args.part no_items =
    subst (λ (b : Part). HasTaken f n g.K.EndBrand.env b c.args.part no_items) c.requires.begun
    (taken_none f n g.K.EndBrand.env c.args.part) in
    (rw c.in_default.is at c.in_ok-ended.ensures.left) no_items
    (c.requires.last, c.next.ensures ∙ c.requires.stage, c.requires.env, first)
