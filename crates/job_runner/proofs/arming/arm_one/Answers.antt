use Rattle.std.proofs.Common.{◌≡◌, ◌≤◌, ◌+◌, ◌∙◌, ◌++◌, ◌∷◌, [], List, refl, sym, ap, subst, length, rules}
use Rattle.completion_core.specs.Graph.{copies}
use Rattle.completion_core.specs.Legal.{count}
use Rattle.pending_count.specs.Seats.{view_of}
use Rattle.job_runner.specs.declared.start.Waiting.{Waiting}
use Rattle.job_runner.specs.Tasks.{HasStarts, all_waiting}
use Rattle.job_runner.specs.Waits.{nodes_in}
use Rattle.job_runner.proofs.ArmLemmas.{drawn_by, can_arm, arm_smaller, armed_starts, lone_starts}
use Rattle.job_runner.proofs.arming.arm_one.Goals as goal

pub arm-seat-requires-clause-have : goal.arm-seat-requires-clause-have
arm-seat-requires-clause-have g c =
    let is = c.deref-3.ensures.value ∙ c.in_ok-onward.ensures
    ∙ ap (λ (l : List Waiting). nodes_in l ++ 0 ∷ []) c.deref.ensures.value in
    let claim = drawn_by c.claim-seat.result.1 (view_of c.args.seat) (view_of c.claim-seat.result.0)
    c.claim-seat.ensures.unpaid c.claim-seat.ensures.claimed c.in-Some.node c.in-Some.is in
    can_arm c.args.job c.in-Some.node c.args.armed.now.starts.items (all_waiting c.args.armed.now.waiting.items)
    (all_waiting c.take_waiting-waiting.new.all.items) c.take_waiting-waiting.result.items c.deref-3.result.now
    (view_of c.args.seat) (view_of c.claim-seat.result.0) c.requires.has claim c.take_waiting-waiting.ensures is

pub arm-seat-requires-clause-smaller : goal.arm-seat-requires-clause-smaller
arm-seat-requires-clause-smaller g c =
    let is = c.deref-3.ensures.value ∙ c.in_ok-onward.ensures
    ∙ ap (λ (l : List Waiting). nodes_in l ++ 0 ∷ []) c.deref.ensures.value in
    let claim = drawn_by c.claim-seat.result.1 (view_of c.args.seat) (view_of c.claim-seat.result.0)
    c.claim-seat.ensures.unpaid c.claim-seat.ensures.claimed c.in-Some.node c.in-Some.is in
    arm_smaller c.args.job c.in-Some.node c.args.armed.now.starts.items (all_waiting c.args.armed.now.waiting.items)
    (all_waiting c.take_waiting-waiting.new.all.items) c.take_waiting-waiting.result.items c.deref-3.result.now
    (view_of c.args.seat) (view_of c.claim-seat.result.0) c.requires.has claim c.take_waiting-waiting.ensures is

pub returns-then-is_lone-clause-has : goal.returns-then-is_lone-clause-has
returns-then-is_lone-clause-has g c =
    let keeps = c.in_ok-onward.ensures ∙ ap (λ (l : List Waiting). nodes_in l ++ 0 ∷ []) c.deref.ensures.value in
    let lone = c.is_lone.ensures c.if-is_lone.true in
    let none_waits = ap (λ (l : List Waiting). length l) (sym c.deref-2.ensures.value) ∙ lone.1 in
    let after = c.add_start.new.armed in
    subst (λ l. HasStarts c.args.job l (all_waiting after.waiting.items) (view_of c.args.seat))
    (sym c.in_ok-add_start.ensures.starts)
    (lone_starts c.args.job (length c.args.names.now) c.args.armed.now.starts.items
    (all_waiting c.args.armed.now.waiting.items) (all_waiting c.take_waiting-waiting.new.all.items)
    (all_waiting after.waiting.items) c.take_waiting-waiting.result.items _ (view_of c.args.seat) c.requires.has
    c.take_waiting-waiting.ensures lone.0 none_waits c.in_ok-add_start.ensures.waiting refl keeps)

pub returns-clause-has : goal.returns-clause-has
returns-clause-has g c =
    let is = c.deref-3.ensures.value ∙ c.in_ok-onward.ensures
    ∙ ap (λ (l : List Waiting). nodes_in l ++ 0 ∷ []) c.deref.ensures.value in
    let claim = drawn_by c.claim-seat.result.1 (view_of c.args.seat) (view_of c.claim-seat.result.0)
    c.claim-seat.ensures.unpaid c.claim-seat.ensures.claimed c.in-Some.node c.in-Some.is in
    let named : length c.args.names.now ≡ c.in-Ok.pending = search rules in
    let after = c.add_start-2.new.armed in
    let more : (i : _) → count i (all_waiting after.waiting.items) ≤ count i (copies c.in-Ok.pending c.in-Some.node)
    + count i (all_waiting c.take_waiting-waiting.new.all.items) =
    λ i. subst (λ n. count i (all_waiting after.waiting.items) ≤ count i (copies n c.in-Some.node)
    + count i (all_waiting c.take_waiting-waiting.new.all.items)) named (c.in_ok-add_start-2.ensures.waiting i) in
    subst (λ l. HasStarts c.args.job l (all_waiting after.waiting.items) (view_of c.arm-seat.result))
    (sym c.in_ok-add_start-2.ensures.starts)
    (armed_starts c.args.job c.in-Some.node c.args.armed.now.starts.items (all_waiting c.args.armed.now.waiting.items)
    (all_waiting c.take_waiting-waiting.new.all.items) c.take_waiting-waiting.result.items c.deref-3.result.now
    (view_of c.args.seat) (view_of c.claim-seat.result.0) c.requires.has claim c.take_waiting-waiting.ensures is
    _ (all_waiting after.waiting.items) (view_of c.arm-seat.result) refl (sym c.deref-3.ensures.value)
    c.arm-seat.ensures.armed more)
