use Rattle.std.proofs.Common.{◌≡◌, drop, map}
use Rattle.columns.specs.Refusals.{has_twice}
use Rattle.columns.proofs.rows.has_same_names.Given as goal

-- no name looked at so far stands a second time
abbrev pub invariant-loop-place : goal.invariant-loop-place
invariant-loop-place l = has_twice (map (λ c. c.name.items) (drop l.place l.columns))
    ≡ has_twice (map (λ c. c.name.items) l.columns)
