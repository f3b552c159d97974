use Rattle.std.proofs.Common.{◌≡◌, ◌≢◌, ℕ, ◌<◌, ◌≤◌, subst, sym, arith, rules}
use Rattle.pending_count.specs.declared.place.Side.TheVariants.{Whole}
use Rattle.job_runner.specs.Cuts.{begins, ends_at}
use Rattle.job_runner.proofs.CaughtLemmas.{handed_part, moved, side_handed}
use Rattle.job_runner.proofs.watch.WatchLookerLegPart.look.Goals as goal

-- a leg of a job of the run, by other names for both
known_as : (jobs : ℕ) (last : ℕ → ℕ) {j j' k k' : ℕ} → j' ≡ j → k' ≡ k → j < jobs → k ≤ last j
    → (j' < jobs) × (k' ≤ last j')
known_as jobs last {j} {j'} {k} {k'} ej ek low within =
    (omega arith, subst (λ z. k' ≤ last z) (sym ej) (let fits : k' ≤ last j = omega arith in fits))

pub settle-requires-clause-known : goal.settle-requires-clause-known
settle-requires-clause-known g c =
    let w = c.args.self.now in
    let of = c.side_at.ensures.of in
    let fits : w.word < 4294967296 = search rules in
    let known = w.named (omega (arith, c.if-self.false, fits)) in
    let job : c.side_at.result.job ≡ w.job = omega (arith, of.0, c.if-at-self.false) in
    let leg : c.side_at.result.leg ≡ w.leg = omega (arith, of.1, c.if-at-self-2.false) in
    known_as g.S.JobLegs.run.jobs g.S.JobLegs.run.last job leg known.1 known.2

pub settle-requires-clause-part : goal.settle-requires-clause-part
settle-requires-clause-part g c =
    let at = c.args.at.now in
    let run = g.S.JobLegs.run in
    let piece = c.side_at.ensures in
    let side : at.side ≢ Whole = search rules in
    moved (λ j k a b. run.stands_for j k a b c.in-Part.part) (sym piece.of.0) (sym piece.of.1) (sym piece.positions.0)
    (sym piece.positions.1)
    (handed_part run (λ x. x.found) at.tag.job at.tag.leg (begins at.tag at.side) (ends_at at.tag at.side)
    c.args.value.now _ _ c.in-Ok.is c.in-Part.is
    (side_handed run (λ x. x.found) at.tag at.side c.args.value.now side c.requires.fits))
