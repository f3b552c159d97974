use Rattle.std.proofs.Common.{◌≡◌, map, take}
use Rattle.std.specs.List.{filter, list_any}
use Rattle.std.specs.Str.{bytes_eq}
use Rattle.job_names.specs.ColumnKeys.{key_of}
use Rattle.columns.specs.TableForms.{all_places}
use Rattle.columns.proofs.layout.named_places.Given as goal

-- the numbers of places so far
abbrev pub invariant-loop-places : goal.invariant-loop-places
invariant-loop-places l =
    (l.places-items ≡ all_places)
    × (l.named.items ≡ filter (λ p. list_any (bytes_eq (key_of l.name p)) (map (λ key. key.items) l.keys))
    (take l.places-index l.places-items))
