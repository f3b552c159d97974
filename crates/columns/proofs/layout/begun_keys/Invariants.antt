use Rattle.std.proofs.Common.{◌≡◌, map, take}
use Rattle.columns.specs.Layouts.{begun_by}
use Rattle.columns.proofs.layout.begun_keys.Given as goal

-- the keys so far that begin with the name
abbrev pub invariant-loop-key : goal.invariant-loop-key
invariant-loop-key l = map (λ key. key.now) l.begun.items
    ≡ begun_by l.name (map (λ key. key.items) (take l.key-index l.keys))
