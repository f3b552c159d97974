use Rattle.std.proofs.Common.{◌∷◌, [], IfSome, subst, sym}
use Rattle.lambda_values.specs.Term.{long_of, truth_of}
use Rattle.trace.specs.Stages.{stage_of}
use Rattle.batch_eval.specs.Faultless.{AreFaultless}
use Rattle.batch_eval.proofs.FaultlessLemmas.{filter_faultless, map_faultless, when_some}
use Rattle.batch_eval.proofs.faultless.after_stage.Goals as goal

pub returns-in-Map : goal.returns-in-Map
returns-in-Map c =
    subst (λ s. IfSome c.after_long.result (λ _. AreFaultless c.args.names (stage_of s ∷ []))) (sym c.in-Map.is)
    (when_some c.after_long.result (map_faultless c.args.names (long_of c.in-Map.image)) c.after_long.ensures)

pub returns-in-Filter : goal.returns-in-Filter
returns-in-Filter c =
    subst (λ s. IfSome c.after_test.result (λ _. AreFaultless c.args.names (stage_of s ∷ []))) (sym c.in-Filter.is)
    (when_some c.after_test.result (filter_faultless c.args.names (truth_of c.in-Filter.test)) c.after_test.ensures)
