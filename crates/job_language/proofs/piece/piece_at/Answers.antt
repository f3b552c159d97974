use Rattle.std.proofs.Common.{◌≡◌, ◌<◌, ◌+◌, Some, true, false, drop, get_or, ap, sym, subst, ◌∙◌, arith}
use Rattle.std.proofs.lemmas.List.{drop_more, get_or-drop}
use Rattle.lambda_expr.specs.Words.{bad}
use Rattle.lambda_expr.specs.CodeWords.{words_in}
use Rattle.lambda_expr.proofs.WordList.{length-words_of}
use Rattle.job_language.specs.Shapes.{is_open, operation_in, IsNoPiece}
use Rattle.job_language.proofs.PieceReads.{names, no_open, open_within}
use Rattle.job_language.proofs.piece.piece_at.Goals as goal

pub call_piece-requires-clause-in_range : goal.call_piece-requires-clause-in_range
call_piece-requires-clause-in_range c =
    let t = c.args.text.now in
    let open_ : is_open (get_or (words_in t) (c.args.at + 1) bad) ≡ true =
    ap is_open (sym c.word_at-in-Some.ensures.word) ∙ sym c.is_open.ensures ∙ c.if-is_open.true in
    subst (λ n. c.args.at + 1 < n) (length-words_of t.bytes t.tokens) (open_within (words_in t) (c.args.at + 1) open_)

pub call_piece-requires-clause-name : goal.call_piece-requires-clause-name
call_piece-requires-clause-name c = names (get_or (words_in c.args.text.now) c.args.at bad) c.in-Some.operation
    (ap operation_in (sym c.word_at.ensures.word) ∙ sym c.operation_in.ensures ∙ c.in-Some.is)

pub returns-else-is_open : goal.returns-else-is_open
returns-else-is_open c =
    let t = c.args.text.now in
    let ws = words_in t in
    let at = c.args.at in
    let lt = subst (λ n. at < n) (sym (length-words_of t.bytes t.tokens)) c.requires in
    let here : operation_in (get_or ws at bad) ≡ Some c.in-Some.operation =
    ap operation_in (sym c.word_at.ensures.word) ∙ sym c.operation_in.ensures ∙ c.in-Some.is in
    let one : at + 1 + 0 ≡ at + 1 = omega arith in
    let shut : is_open (get_or (drop (at + 1) ws) 0 bad) ≡ false =
    ap is_open (get_or-drop (at + 1) ws 0 bad ∙ ap (λ n. get_or ws n bad) one ∙ sym c.word_at-in-Some.ensures.word)
    ∙ sym c.is_open.ensures ∙ c.if-is_open.false in
    subst IsNoPiece (sym (drop_more ws at bad lt))
    (no_open (get_or ws at bad) (drop (at + 1) ws) c.in-Some.operation here shut)
