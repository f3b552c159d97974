use Rattle.std.proofs.Common.{ap, unwrap_or}
use Rattle.completion_core.proofs.holdings.Holdings.reserve.Goals as goal

pub returns-clause-held : goal.returns-clause-held
returns-clause-held c a i = ap (λ o. unwrap_or o 0) (c.reserve.ensures.entries.2 (i, a))
