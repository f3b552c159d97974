use Rattle.columns.specs.Places.{state_of}
use Rattle.columns.proofs.FirstRecord.{EndsFirst-stop, ReadAsFar-more, ReadAsFar-none}
use Rattle.columns.proofs.header.header_end.Goals as goal

pub loop-at-init : goal.loop-at-init
loop-at-init c = ReadAsFar-none c.args.separator c.args.text.now

pub returns-in-None-clause-first : goal.returns-in-None-clause-first
returns-in-None-clause-first c =
    let (ends, between) = c.in-None.ensures.ends in
    EndsFirst-stop c.args.separator c.args.text.now (state_of c.loop-at.place) c.loop-at.at c.loop-at-test.true ends
    between c.loop-at.invariant

pub loop-at-preserved : goal.loop-at-preserved
loop-at-preserved c =
    let (goes, is) = c.in-Some.ensures.goes in
    ReadAsFar-more c.args.separator c.args.text.now (state_of c.loop-at.place) (state_of c.in-Some.next) c.loop-at.at
    c.loop-at-test.true goes is c.loop-at.invariant
