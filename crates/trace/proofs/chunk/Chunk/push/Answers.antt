use Rattle.std.proofs.Common.{◌≡◌, suc, ◌-◌, ◌<◌, [], ◌∷◌, length, refl, arith}
use Rattle.std.proofs.lemmas.Result.{err_from_is_err_and}
use Rattle.trace.proofs.PieceLemmas.{read_grows, read_stays, same_trace, trace_grows}
use Rattle.trace.proofs.chunk.Chunk.push.Goals as goal

pub returns-in_ok-push-in-Some-clause-ok : goal.returns-in_ok-push-in-Some-clause-ok
returns-in_ok-push-in-Some-clause-ok c =
    let pieces = c.self.inside.pieces in
    let some_piece : 0 < pieces.len = c.in-Some.ensures.variant.0 refl in
    let last : suc (pieces.len - 1) ≡ length pieces.items = omega (arith, pieces.ok.0, some_piece) in
    let grown = read_grows (λ piece. piece.items) pieces.items (pieces.len - 1) c.in-Some.piece.now c.push.new.self
    (c.args.item ∷ []) last c.in-Some.ensures.value c.in_ok-push-in-Some.ensures.items in
    trace_grows _ _ (c.args.item ∷ []) c.self.inside.end c.args.self.now grown c.self.view_is c.requires

pub returns-in_err-push-in-Some-clause-err : goal.returns-in_err-push-in-Some-clause-err
returns-in_err-push-in-Some-clause-err c =
    let pieces = c.self.inside.pieces in
    let some_piece : 0 < pieces.len = c.in-Some.ensures.variant.0 refl in
    let last : suc (pieces.len - 1) ≡ length pieces.items = omega (arith, pieces.ok.0, some_piece) in
    let same = read_stays (λ piece. piece.items) pieces.items (pieces.len - 1) c.in-Some.piece.now c.push.new.self last
    c.in-Some.ensures.value c.in_err-push-in-Some.ensures.items in
    let p = err_from_is_err_and c.from_residual.result c.from_residual.ensures.1 in
    rw p.1 (same_trace _ _ c.self.inside.end c.args.self.now same c.self.view_is)
