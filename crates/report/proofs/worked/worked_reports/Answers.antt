use Rattle.std.proofs.Common.{refl}
use Rattle.std.specs.Int.{int_wrap}
use Rattle.std.specs.Fmt.{digits}
use Rattle.report.proofs.worked.worked_reports.Goals as goal

pub returns-clause-fault : goal.returns-clause-fault
unfolding int_wrap digits
returns-clause-fault c = refl

pub returns-clause-array : goal.returns-clause-array
unfolding int_wrap digits
returns-clause-array c = refl

pub returns-clause-wraps : goal.returns-clause-wraps
unfolding int_wrap digits
returns-clause-wraps c = refl

pub returns-clause-depth_first : goal.returns-clause-depth_first
unfolding int_wrap digits
returns-clause-depth_first c = refl

pub returns-clause-two_lines : goal.returns-clause-two_lines
unfolding int_wrap digits
returns-clause-two_lines c = refl
