use Rattle.std.proofs.Common.{rules}
use Rattle.pending_count.proofs.StartLemmas.{first_ranged, opened_as}
use Rattle.pending_count.proofs.StartSideLemmas.{opens_all}
use Rattle.pending_count.proofs.counts.Counts.new.Goals as goal

pub vacant-requires : goal.vacant-requires
vacant-requires g c = opens_all g.K.Fits.fits g.K.Fits.tag_of g.K.Fits.place_of c.args.nodes c.args.ends _
    (search rules)

pub invariant_of-seat-clause-ranged : goal.invariant_of-seat-clause-ranged
invariant_of-seat-clause-ranged g c = first_ranged {T = g.row.K-Tag.Denot} _ c.args.ends c.in_ok-table.token.me.0
    (search rules)

pub returns-clause-opened : goal.returns-clause-opened
returns-clause-opened g c = opened_as _ {T = g.row.K-Tag.Denot} c.args.nodes c.args.ends c.in_ok-table.token.me.0
    (search rules)
