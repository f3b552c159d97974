use Rattle.std.proofs.Common.{◌≤◌, length, take, sym, subst, arith}
use Rattle.std.proofs.lemmas.List.{length-take-le, take-take}
use Rattle.trace.specs.Trace.{Trace}
use Rattle.trace.specs.Sinks.{IsFed}
use Rattle.batch_eval.specs.Batches.{holds}
use Rattle.batch_eval.proofs.SetItemLemmas.{set_cut}
use Rattle.batch_eval.proofs.flagged.give_set.Goals as goal

pub returns-clause-fed : goal.returns-clause-fed
returns-clause-fed g c = λ xs took.
    let b = c.batch.inside in
    let room = c.args.room.now in
    let flags = take 1024 room in
    let within : b.live ≤ length flags =
    omega (arith, c.requires.flags, c.batch.invariant.live_lanes, length-take-le 1024 room c.requires.flags) in
    let cut = set_cut b.live b.start b.origins.items b.values.items flags b.end c.args.batch.now (holds c.is_set.result)
    c.is_set.ensures within c.batch.view_is in
    let fed = rw (
      c.deref.ensures.value,
      c.deref-2.ensures.value,
      sym (take-take b.live 1024 room c.batch.invariant.live_lanes),
    ) at (c.give_flagged.ensures.fed xs took) in
    subst (λ (t : Trace). IsFed g.S.LongSink.has_taken xs t c.give_flagged.result c.give_flagged.new.sink) cut fed
