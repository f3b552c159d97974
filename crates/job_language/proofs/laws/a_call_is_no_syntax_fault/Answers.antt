use Rattle.job_language.proofs.TakenParts.{no_syntax_fault}
use Rattle.job_language.proofs.laws.a_call_is_no_syntax_fault.Goals as goal

pub returns : goal.returns
returns c = no_syntax_fault
