use Rattle.std.proofs.Common.{◌≡◌, ◌+◌, ℕ, refl, arith, ap, Some, unwrap_or}
use mathlib.Core.Logic.{dite}
use native.Mathlib.Decide.{ℕ_discrete}
use Rattle.completion_core.specs.Holdings.{held}
use Rattle.completion_core.proofs.HoldingLemmas.{puts, on_ok, on_ok_else}
use Rattle.completion_core.proofs.holdings.Holdings.put.Goals as goal

pub returns-clause-held : goal.returns-clause-held
returns-clause-held c a i =
    let had : ℕ = held c.args.self.now c.args.actor c.args.node in
    let h = dite (ℕ_discrete had 0)
    (λ e. on_ok c.insert.result (c.insert.ensures.succeeds (c.requires.room e)) c.insert.ensures.updates)
    (λ n. on_ok_else c.insert.result c.insert.ensures.updates c.insert.ensures.absent
    (λ absent. n (ap (λ o. unwrap_or o 0) absent))) in
    puts c.args.actor c.args.node c.args.k (c.get-had.result + c.args.k) (Some (c.get-had.result + c.args.k))
    c.args.self.now.entries.entries c.insert.new.self.entries h.0 refl
    (let e : c.get-had.result ≡ had = c.get-had.ensures in omega arith) a i
