use Rattle.std.proofs.Common.{◌≡◌, ℕ, ◌+◌, ◌≤◌, length, take}
use Rattle.completion_core.specs.Holdings.{held, room, each_place}
use Rattle.completion_core.proofs.holdings.Holdings.put_all.Given as goal

abbrev pub invariant-loop-node : goal.invariant-loop-node
invariant-loop-node l =
    ((a i : ℕ) → held l.self a i ≡ held l.fn.self a i + each_place l.actor (take l.node-index l.nodes) a i)
    × (length l.nodes ≤ room l.self + l.node-index)
