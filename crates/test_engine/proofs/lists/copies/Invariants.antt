use Rattle.std.proofs.Common.{map, slice_index_or, length, []}
use Rattle.test_engine.proofs.lists.copies.Given as goal

abbrev pub ghosts-copies_as : goal.ghosts-copies_as
ghosts-copies_as g a = record {
  jobs = length a.lists.now;
  numbers = λ j. slice_index_or (map (λ v. v.items) a.lists.now) j [];
}
