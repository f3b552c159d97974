use Rattle.std.proofs.Common.{◌≡◌, drop}
use Rattle.job_language.specs.Scopes.{scope_of}
use Rattle.job_language.specs.Causes.{first_cause}
use Rattle.job_language.specs.Arguments.{reference_causes}
use Rattle.job_language.proofs.argument.references_cause.Given as goal

abbrev pub invariant-loop-name : goal.invariant-loop-name
invariant-loop-name l = first_cause (reference_causes (scope_of l.scope) l.names)
    ≡ first_cause (reference_causes (scope_of l.scope) (drop l.name-index l.names))
