use Rattle.std.proofs.Common.{refl}
use Rattle.serde_json.specs.Written.{comma_if}
use Rattle.report.specs.Numbers.{array_object}
use Rattle.report.specs.Pieces.{draft_bytes}
use Rattle.report.proofs.ArrayLemmas.{array_answer}
use Rattle.report.proofs.SentPieces.{joined_bytes}
use Rattle.report.proofs.WrittenTextLemmas.{appended_two}
use Rattle.report.proofs.long_json.write_item_by.Goals as goal

pub returns-in_ok-write_comma_if-in-Array : goal.returns-in_ok-write_comma_if-in-Array
returns-in_ok-write_comma_if-in-Array g c =
    let values = c.in-Array.values in
    let written = appended_two c.write_array_by.result (joined_bytes c.args.draft.now.pieces.items)
    c.args.draft.now.last.items c.write_comma_if.new.report.items
    (draft_bytes c.write_array_by.new.draft) (comma_if c.args.later) (array_object c.args.job.name.now values)
    c.in_ok-write_comma_if-in-Array.ensures c.write_array_by.ensures in
    rw (array_answer c.args.names.now c.args.job.name.now c.args.job.answer.now values values c.in-Array.is refl)
    written
