use Rattle.early_stop.specs.Decisive.{Decides}
use Rattle.early_stop.proofs.Leaving.{enough_walked, enough_left, enough_joined}
use Rattle.early_stop.proofs.laws.parts_may_be_joined.Goals as goal

pub returns-clause-walked : goal.returns-clause-walked
returns-clause-walked g c outcome source at s = enough_walked (Decides outcome source) at s

pub returns-clause-left : goal.returns-clause-left
returns-clause-left g c outcome source at p s t ok h = enough_left (Decides outcome source) at p s t ok h

pub returns-clause-joined : goal.returns-clause-joined
returns-clause-joined g c outcome source at s t b d h k = enough_joined (Decides outcome source) at s t b d h k
