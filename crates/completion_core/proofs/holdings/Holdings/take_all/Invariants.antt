use Rattle.std.proofs.Common.{◌≡◌, ℕ, ◌+◌, take}
use Rattle.completion_core.specs.Holdings.{held, each_place}
use Rattle.completion_core.proofs.holdings.Holdings.take_all.Given as goal

abbrev pub invariant-loop-node : goal.invariant-loop-node
invariant-loop-node l = (a i : ℕ) → held l.self a i + each_place l.actor (take l.node-index l.nodes) a i
    ≡ held l.fn.self a i
