use Rattle.std.proofs.Common.{refl}
use Rattle.std.specs.Int.{int_wrap}
use Rattle.std.specs.Fmt.{digits}
use Rattle.report.proofs.worked.worked_reports_of_each_kind.Goals as goal

pub returns-clause-prefixes : goal.returns-clause-prefixes
unfolding int_wrap digits
returns-clause-prefixes c = refl

pub returns-clause-unusable : goal.returns-clause-unusable
unfolding int_wrap digits
returns-clause-unusable c = refl

pub returns-clause-exact_sums : goal.returns-clause-exact_sums
unfolding int_wrap digits
returns-clause-exact_sums c = refl

pub returns-clause-on_fault : goal.returns-clause-on_fault
unfolding int_wrap digits
returns-clause-on_fault c = refl

pub returns-clause-slices : goal.returns-clause-slices
unfolding int_wrap digits
returns-clause-slices c = refl

pub returns-clause-rows : goal.returns-clause-rows
unfolding int_wrap digits
returns-clause-rows c = refl
