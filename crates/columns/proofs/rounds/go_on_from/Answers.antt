use Rattle.std.proofs.Common.{◌≡◌, ◌+◌, ◌++◌, ◌∙◌, ◌≤◌, ap, drop, length, refl, rules, take}
use Rattle.columns.proofs.FrontLemmas.{drop-round}
use Rattle.columns.proofs.rounds.go_on_from.Goals as goal

pub returns-clause-left : goal.returns-clause-left
returns-clause-left c =
    let r = c.args.rounds.now in
    let bytes = r.bytes.items in
    let spare = r.spare.items in
    let at = r.from + c.args.put_to in
    let stop = r.from + c.args.end in
    let grown : c.extend_from_slice.new.self.items ≡ take stop bytes ++ spare = search rules in
    let within : stop ≤ length bytes = search rules in
    ap (drop at) grown ∙ drop-round r.from c.args.end c.args.put_to at stop bytes spare refl refl within
