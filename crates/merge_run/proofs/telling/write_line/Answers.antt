use Rattle.std.proofs.Common.{OnOk, ℕ, List, [], ◌∷◌, ◌++◌, ap, subst, ◌∙◌}
use Rattle.std.specs.Io.KnownBytes.{Appends}
use Rattle.std.specs.Prelude.{codes}
use Rattle.merge_run.specs.FaultTexts.{of_file}
use Rattle.merge_run.proofs.FaultLines.{line_of_file}
use Rattle.merge_run.proofs.telling.write_line.Goals as goal

pub returns-in-JobsRead : goal.returns-in-JobsRead
returns-in-JobsRead g c = rw c.in-JobsRead.is
    (subst (λ (line : List ℕ). OnOk c.writeln.result
    (Appends (g.W.Write.contents c.args.writer.now) (g.W.Write.contents c.writeln.new.self)
    (codes "streamrun-merge: " ++ line)))
    (line_of_file c.args.asked.now.jobs.now (codes "read failed")) c.writeln.ensures.bytes)

pub returns-in-ReportRead : goal.returns-in-ReportRead
returns-in-ReportRead g c = rw c.in-ReportRead.is
    (subst (λ (line : List ℕ). OnOk c.writeln-in-ReportRead.result
    (Appends (g.W.Write.contents c.args.writer.now) (g.W.Write.contents c.writeln-in-ReportRead.new.self)
    (codes "streamrun-merge: " ++ line)))
    (line_of_file c.path_of-path.result.now (codes "read failed") ∙ ap
    (λ (path : List ℕ). of_file path (codes "read failed") ++ 10 ∷ []) c.path_of-path.ensures)
    c.writeln-in-ReportRead.ensures.bytes)
