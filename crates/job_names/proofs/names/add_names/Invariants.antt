use Rattle.std.proofs.Common.{◌≡◌, ◌++◌, Err, map}
use Rattle.job_names.specs.JobNames.{names_of_texts}
use Rattle.stream_tokens.specs.declared.job_text.TextFault.{TextFault}
use Rattle.job_names.proofs.names.add_names.Given as goal

-- the names of the texts so far are added; a fault stands before all texts
abbrev pub invariant-loop : goal.invariant-loop
invariant-loop l =
    (map (λ name. name.items) l.names.items ++ names_of_texts l.texts
    ≡ map (λ name. name.items) l.initial.names.items ++ names_of_texts l.initial.texts)
    × ((fault : TextFault) → l.texts ≡ Err fault → l.initial.texts ≡ Err fault)
