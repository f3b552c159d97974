use Rattle.deques.specs.Handles.{IsOf}
use Rattle.test_low.proofs.handles.drop_an_inbox.Given as goal

abbrev pub invariant-loop : goal.invariant-loop
invariant-loop g l = IsOf l.inbox l.pass
