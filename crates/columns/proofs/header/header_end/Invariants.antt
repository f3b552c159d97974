use Rattle.columns.specs.Places.{state_of}
use Rattle.columns.proofs.FirstRecord.{ReadAsFar}
use Rattle.columns.proofs.header.header_end.Given as goal

-- the record is read as far as this place
abbrev pub invariant-loop-at : goal.invariant-loop-at
invariant-loop-at l = ReadAsFar l.separator l.text (state_of l.place) l.at
