use Rattle.std.proofs.Common.{◌≡◌, ◌-◌, ℕ, refl, arith, ap, ◌∙◌, Some, None, unwrap_or}
use Rattle.completion_core.specs.Holdings.{held}
use Rattle.completion_core.proofs.HoldingLemmas.{takes, on_ok_else}
use Rattle.completion_core.proofs.holdings.Holdings.take.Goals as goal

pub returns-then-had-k : goal.returns-then-had-k
returns-then-had-k c a i = takes c.args.actor c.args.node c.args.k 0 None c.args.self.now.entries.entries
    c.remove.new.self.entries (λ q. c.remove.ensures.updates.0 q) refl (omega arith) a i

pub returns-else-had-k : goal.returns-else-had-k
returns-else-had-k c a i =
    let had : ℕ = c.get-had.result in
    let differs = c.if-had-k.false in
    let h = on_ok_else c.insert.result c.insert.ensures.updates c.insert.ensures.absent
    (λ absent. let none_held : c.get-had.result ≡ 0 = c.get-had.ensures ∙ ap (λ o. unwrap_or o 0) absent in
    differs (omega arith)) in
    takes c.args.actor c.args.node c.args.k (c.get-had.result - c.args.k) (Some (c.get-had.result - c.args.k))
    c.args.self.now.entries.entries c.insert.new.self.entries h.0 refl
    (let e : c.get-had.result ≡ held c.args.self.now c.args.actor c.args.node = c.get-had.ensures in omega arith) a
    i
