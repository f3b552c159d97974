use Rattle.std.proofs.Common.{◌≡◌, drop}
use Rattle.merge_run.proofs.KindLemmas.{kind_among, kinds}
use Rattle.merge_run.proofs.objects.kind_of.Given as goal

abbrev pub invariant-loop-kind : goal.invariant-loop-kind
invariant-loop-kind l = kind_among kinds l.name ≡ kind_among (drop l.kind-index l.kind-items) l.name
