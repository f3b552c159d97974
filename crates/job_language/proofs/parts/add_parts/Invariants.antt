use Rattle.std.proofs.Common.{drop, Result}
use Rattle.job_language.specs.declared.fault.Cause.{Cause}
use Rattle.job_language.specs.Jobs.{AbstractJob}
use Rattle.lambda_expr.specs.CodeWords.{words_in}
use Rattle.job_language.specs.Shapes.{all_placed}
use Rattle.job_language.specs.Scopes.{scope_of}
use Rattle.job_language.specs.Parts.{begun_of}
use Rattle.job_language.specs.Verdicts.{AreRead}
use Rattle.job_language.proofs.parts.add_parts.Given as goal

-- what the calls that are left are read as, all calls are
abbrev pub invariant-loop-call : goal.invariant-loop-call
invariant-loop-call l =
    (r : Result AbstractJob Cause)
    → AreRead (scope_of l.scope) l.text (begun_of l.job) (all_placed (words_in l.text) (drop l.call-index l.calls)) r
    → AreRead (scope_of l.scope) l.text (begun_of l.initial.job) (all_placed (words_in l.text) l.calls) r
