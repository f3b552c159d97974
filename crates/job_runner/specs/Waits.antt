-- Condition: jobs that wait for another one.
use Rattle.std.specs.Prelude.{ℕ, List, map}
use Rattle.job_runner.specs.declared.start.Waiting.{Waiting}

-- their start nodes
abbrev pub nodes_in : List Waiting → List ℕ
nodes_in ws = map (λ (w : Waiting). w.node) ws
