use Rattle.std.proofs.Common.{◌≡◌, drop}
use Rattle.job_language.specs.Table.{operation_among}
use Rattle.job_language.proofs.operation.operation_of.Given as goal

abbrev pub invariant-loop-operation : goal.invariant-loop-operation
invariant-loop-operation l = operation_among l.operation-items l.name
    ≡ operation_among (drop l.operation-index l.operation-items) l.name
