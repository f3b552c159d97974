use Rattle.std.proofs.Common.{◌≡◌, ◌^◌, ◌<◌, length, ap, arith}
use Rattle.report.specs.Pieces.{bytes_of}
use Rattle.report.proofs.SentPieces.{counted_to, sent_in_piece, sent_in_last}
use Rattle.report.proofs.pieces.write_report.Goals as goal

pub write_after-requires : goal.write_after-requires
write_after-requires g c =
    let pieces = c.as_slice-piece-items.result.now in
    let counted : length (bytes_of pieces c.report.inside.last.items) < 2 ^ 64 =
    rw c.as_slice-piece-items.ensures.value c.report.inside.counted in
    omega (
      arith,
      c.loop-piece.invariant.0,
      ap length c.deref.ensures.value,
      counted_to pieces c.report.inside.last.items c.loop-piece.piece-index c.piece-item.result c.loop-piece-test.true
          c.piece-item.is counted,
    )

pub returns-in-Err-clause-err : goal.returns-in-Err-clause-err
returns-in-Err-clause-err g c =
    let pieces = c.as_slice-piece-items.result.now in
    let last = c.report.inside.last.items in
    let all : bytes_of pieces last ≡ c.args.report.now = rw c.as_slice-piece-items.ensures.value c.report.view_is in
    (sent_in_piece _ _ _ pieces last c.args.report.now c.deref.result.now c.loop-piece.piece-index c.piece-item.result
    c.loop-piece.written c.in-Err.fault.written
    c.loop-piece-test.true c.piece-item.is c.deref.ensures.value all c.loop-piece.invariant.0 c.loop-piece.invariant.1
    c.in-Err.ensures.err).0

pub returns-in-Err-clause-short : goal.returns-in-Err-clause-short
returns-in-Err-clause-short g c =
    let pieces = c.as_slice-piece-items.result.now in
    let last = c.report.inside.last.items in
    let all : bytes_of pieces last ≡ c.args.report.now = rw c.as_slice-piece-items.ensures.value c.report.view_is in
    (sent_in_piece _ _ _ pieces last c.args.report.now c.deref.result.now c.loop-piece.piece-index c.piece-item.result
    c.loop-piece.written c.in-Err.fault.written
    c.loop-piece-test.true c.piece-item.is c.deref.ensures.value all c.loop-piece.invariant.0 c.loop-piece.invariant.1
    c.in-Err.ensures.err).1

pub overflow_add-written : goal.overflow_add-written
overflow_add-written g c =
    let pieces = c.as_slice-piece-items.result.now in
    let counted : length (bytes_of pieces c.report.inside.last.items) < 2 ^ 64 =
    rw c.as_slice-piece-items.ensures.value c.report.inside.counted in
    let below = counted_to pieces c.report.inside.last.items c.loop-piece.piece-index c.piece-item.result
    c.loop-piece-test.true c.piece-item.is counted in
    record { fits = omega (arith, c.loop-piece.invariant.0, c.len.ensures, below) }

pub returns-clause-err : goal.returns-clause-err
returns-clause-err g c =
    let pieces = c.as_slice-piece-items.result.now in
    let all : bytes_of pieces c.deref-2.result.now ≡ c.args.report.now =
    rw (c.as_slice-piece-items.ensures.value, c.deref-2.ensures.value) c.report.view_is in
    sent_in_last _ _ _ pieces c.deref-2.result.now c.args.report.now c.loop-piece.piece-index c.loop-piece.written
    c.write_after-2.result
    c.loop-piece-test.false all c.loop-piece.invariant.0 c.loop-piece.invariant.1 c.write_after-2.ensures.err
