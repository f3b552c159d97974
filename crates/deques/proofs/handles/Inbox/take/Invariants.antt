use Rattle.std.proofs.Common.{◌≡◌}
use Rattle.crossbeam_deque.specs.Injected.{injector_view, IsInjectorPassOf}
use Rattle.deques.proofs.handles.Inbox.take.Given as goal

abbrev pub invariant-loop : goal.invariant-loop
invariant-loop g l =
    (goal.iterator-loop g).can_next l.iterator' × (goal.iterator-loop g).is_finite l.iterator'
    × IsInjectorPassOf l.self.injector l.pass × (injector_view l.pass ≡ injector_view l.initial.pass)
