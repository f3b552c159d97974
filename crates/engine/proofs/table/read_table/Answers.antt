use Rattle.std.proofs.Common.{ℕ, List, map, subst}
use Rattle.columns.specs.Layouts.{IsAnswerBy}
use Rattle.run_settings.specs.declared.table.TableSetting.{TableSetting}
use Rattle.engine.specs.Given.{IsWhole}
use Rattle.engine.specs.Run.{form_with}
use Rattle.engine.proofs.RunLemmas.{whole_answer}
use Rattle.engine.proofs.table.read_table.Goals as goal

pub returns-clause-answer : goal.returns-clause-answer
returns-clause-answer g c =
    let left = g.C.CountedRead.remaining c.args.reader.now in
    let names : List (List ℕ) = map (λ name. name.items) c.args.names.items in
    subst (λ (t : TableSetting). (bytes : List ℕ) × IsWhole left bytes
    × IsAnswerBy (form_with t names) bytes c.read_columns_as.result) c.table-table.ensures
    (whole_answer (form_with c.table-table.result names) left c.read_columns_as.result c.read_columns_as.ensures.cells
    c.read_columns_as.ensures.some_bytes)
