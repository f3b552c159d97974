use Rattle.std.proofs.Common.{OnOk, ℕ, List, [], ◌∷◌, ◌++◌, ap, subst, ◌∙◌}
use Rattle.std.specs.Io.KnownBytes.{Appends}
use Rattle.std.specs.Prelude.{codes}
use Rattle.merge_run.specs.FaultTexts.{of_file, part_text}
use Rattle.merge_run.proofs.FaultLines.{line_of_file}
use Rattle.merge_run.proofs.telling.write_merge_line.Goals as goal

pub returns-in-Part : goal.returns-in-Part
returns-in-Part g c = rw c.in-Part.is
    (subst (λ (line : List ℕ). OnOk c.writeln.result
    (Appends (g.W.Write.contents c.args.writer.now) (g.W.Write.contents c.writeln.new.self)
    (codes "streamrun-merge: " ++ line)))
    (line_of_file c.path_of-path.result.now (part_text c.in-Part.cause)
    ∙ ap (λ (path : List ℕ). of_file path (part_text c.in-Part.cause) ++ 10 ∷ []) c.path_of-path.ensures)
    c.writeln.ensures.bytes)
