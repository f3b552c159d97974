use Rattle.std.proofs.Common.{sym, ◌∙◌}
use Rattle.completer_tree.proofs.climbing.Tree+Handed+T+Completer+T+C.next_complete_with.Goals as goal

pub first_complete-requires-clause-can : goal.first_complete-requires-clause-can
first_complete-requires-clause-can g c =
    c.requires.can.next c.in-Some.place (sym c.finish-answer.ensures.place ∙ c.in-Some.is)

pub returns-in-Last-clause-last : goal.returns-in-Last-clause-last
returns-in-Last-clause-last g c = (
  c.in-Some.place,
  sym c.finish-answer.ensures.place ∙ c.in-Some.is,
  c.in-Last.ensures.last,
)

pub returns-in-Pending-clause-handed : goal.returns-in-Pending-clause-handed
returns-in-Pending-clause-handed g c =
    let h = c.in-Pending.ensures.handed in
    (c.in-Some.place, sym c.finish-answer.ensures.place ∙ c.in-Some.is, h.0, h.1, h.2)

pub returns-in-Last-clause-handed : goal.returns-in-Last-clause-handed
returns-in-Last-clause-handed g c =
    let h = c.in-Last.ensures.handed in
    (c.in-Some.place, sym c.finish-answer.ensures.place ∙ c.in-Some.is, h.0, h.1, h.2)
