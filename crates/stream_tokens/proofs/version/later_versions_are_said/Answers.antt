use Rattle.stream_tokens.proofs.VersionLemmas.{alike}
use Rattle.stream_tokens.proofs.version.later_versions_are_said.Goals as goal

pub returns : goal.returns
returns c = alike
