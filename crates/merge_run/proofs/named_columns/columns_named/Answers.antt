use Rattle.std.proofs.Common.{ap, ◌∙◌}
use Rattle.std.specs.Prelude.{map}
use Rattle.tables.specs.Table.{bare}
use Rattle.job_names.specs.JobNames.{names_of_texts}
use Rattle.report_merge.proofs.LoopLemmas.{when_ok}
use Rattle.merge_run.proofs.NamedColumns.{bare_columns}
use Rattle.merge_run.proofs.named_columns.columns_named.Goals as goal

pub returns : goal.returns
returns c = when_ok c.without_cells.result _ _ c.without_cells.ensures
    (λ columns is. is ∙ bare_columns (λ name. name.items) _
    ∙ ap (map bare) (c.in_ok-names.ensures ∙ ap names_of_texts c.within.ensures))
