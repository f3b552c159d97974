use Rattle.std.proofs.Common.{◌≡◌, ◌<◌, length, true, Result, Ok, Err, OnErr, sym, ap, ◌∙◌, arith, rules}
use Rattle.std.specs.Result.{is_err}
use Rattle.trace.specs.Trace.{Trace}
use Rattle.trace.proofs.PieceLemmas.{some_item}
use Rattle.trace.proofs.chunk.Chunk.append.Goals as goal

at_err : {T E P : Type 0} (r : Result T E) → is_err r ≡ true → OnErr r P → P
at_err (Ok x) wrong p = cc
at_err (Err e) is p = p

pub returns-then-is_err-clause-refused : goal.returns-then-is_err-clause-refused
returns-then-is_err-clause-refused c =
    let right = c.right.inside in
    let pieces = c.self.inside.pieces in
    let full = at_err c.append.result (sym c.is_err.ensures.value ∙ c.if-is_err.true) c.append.ensures.full in
    let some_piece : 0 < length right.pieces.items =
    omega (arith, full, pieces.ok.0, pieces.ok.1, right.pieces.ok.0) in (
      search rules,
      λ none_left. some_item (λ piece. piece.items) right.pieces.items right.no_empty_piece some_piece
          (ap (λ (t : Trace). t.items) c.right.view_is ∙ none_left),
    )
