use Rattle.test_completers.proofs.runs.walk_numbers.Given as goal

abbrev pub ghosts-walk_as : goal.ghosts-walk_as
ghosts-walk_as g a = record { source = a.numbers.now }
