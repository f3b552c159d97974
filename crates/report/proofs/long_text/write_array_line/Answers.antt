use Rattle.report.specs.Numbers.{parted}
use Rattle.report.specs.declared.separator.Separator.TheVariants.{CommaAndBlank}
use Rattle.report.proofs.ArrayLemmas.{array_parted}
use Rattle.report.proofs.SentPieces.{joined_bytes}
use Rattle.report.proofs.WrittenTextLemmas.{array_written}
use Rattle.report.proofs.long_text.write_array_line.Goals as goal

pub returns : goal.returns
returns g c =
    rw (array_parted c.args.values.now) (array_written c.extend_from_slice-3.result
    (joined_bytes c.args.draft.now.pieces.items) c.args.draft.now.last.items c.extend_from_slice.new.self.items
    c.extend_from_slice-2.new.self.items (joined_bytes c.add_numbers.new.self.pieces.items)
    c.add_numbers.new.self.last.items c.extend_from_slice-3.new.self.items c.args.name.now
    (parted CommaAndBlank c.args.values.now) c.in_ok-extend_from_slice.ensures.items
    c.in_ok-extend_from_slice-2.ensures.items c.in_ok-add_numbers.ensures c.extend_from_slice-3.ensures.items)
