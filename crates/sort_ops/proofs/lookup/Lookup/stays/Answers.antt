use Rattle.std.proofs.Common.{◌≡◌, ℤ, true, cond, int_eq, refl, rules}
use Rattle.std.specs.HashSet.{contains}
use Rattle.sort_ops.proofs.NewLemmas.{outside, put_in}
use Rattle.sort_ops.proofs.lookup.Lookup.stays.Goals as goal

pub returns-then-not-is_in-clause-new : goal.returns-then-not-is_in-clause-new
returns-then-not-is_in-clause-new c = λ stays xs knows.
    outside c.args.self.now xs c.args.item (search rules) knows

pub returns-in-Ok-clause-new : goal.returns-in-Ok-clause-new
returns-in-Ok-clause-new c = λ new xs knows.
    let old = c.args.self.now in
    let has : ((v : ℤ) → contains int_eq c.insert.new.self v
    ≡ cond (int_eq c.args.item.value v) true (contains int_eq old.seen v)) = search rules in
    put_in old (record { class = old.class; seen = c.insert.new.self; partial = old.partial }) xs c.args.item refl refl
    has knows
