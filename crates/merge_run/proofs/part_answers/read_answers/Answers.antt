use Rattle.report.proofs.NamedTexts.{names_text}
use Rattle.merge_run.proofs.part_answers.read_answers.Goals as goal

pub json-requires-clause-text : goal.json-requires-clause-text
json-requires-clause-text c = names_text c.args.names.now c.requires
