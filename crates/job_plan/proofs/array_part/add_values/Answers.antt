use Rattle.std.proofs.Common.{◌≡◌, suc, ◌-◌, ◌<◌, length, refl, arith, Vec, Global, ℤ}
use Rattle.std.proofs.lemmas.Result.{err_from_is_err_and}
use Rattle.trace.proofs.PieceLemmas.{read_grows, read_stays}
use Rattle.job_plan.proofs.array_part.add_values.Goals as goal

pub returns-in_ok-extend_from_slice-in-Some-clause-ok : goal.returns-in_ok-extend_from_slice-in-Some-clause-ok
returns-in_ok-extend_from_slice-in-Some-clause-ok c =
    let pieces = c.args.pieces.now in
    let some_piece : 0 < pieces.len = c.in-Some.ensures.variant.0 refl in
    let last : suc (pieces.len - 1) ≡ length pieces.items = omega (arith, pieces.ok.0, some_piece) in
    read_grows (λ (piece : Vec ℤ Global). piece.items) pieces.items (pieces.len - 1) c.in-Some.piece.now
    c.extend_from_slice.new.self c.args.values.now last c.in-Some.ensures.value
    c.in_ok-extend_from_slice-in-Some.ensures.items

pub returns-in_err-extend_from_slice-in-Some-clause-err : goal.returns-in_err-extend_from_slice-in-Some-clause-err
returns-in_err-extend_from_slice-in-Some-clause-err c =
    let pieces = c.args.pieces.now in
    let some_piece : 0 < pieces.len = c.in-Some.ensures.variant.0 refl in
    let last : suc (pieces.len - 1) ≡ length pieces.items = omega (arith, pieces.ok.0, some_piece) in
    let same = read_stays (λ (piece : Vec ℤ Global). piece.items) pieces.items (pieces.len - 1) c.in-Some.piece.now
    c.extend_from_slice.new.self last c.in-Some.ensures.value c.in_err-extend_from_slice-in-Some.ensures.items in
    let p = err_from_is_err_and c.from_residual.result c.from_residual.ensures.1 in
    rw p.1 same
