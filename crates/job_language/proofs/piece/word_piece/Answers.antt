use Rattle.std.proofs.Common.{◌<◌, ◌+◌, ◌∷◌, drop, ap, sym, subst, ◌∙◌}
use Rattle.std.proofs.lemmas.List.{drop_more}
use Rattle.lambda_expr.specs.Words.{bad}
use Rattle.lambda_expr.specs.CodeWords.{words_in}
use Rattle.lambda_expr.proofs.WordList.{length-words_of}
use Rattle.job_language.specs.Shapes.{operation_in, IsNoPiece, IsMarkOf}
use Rattle.job_language.proofs.PieceReads.{begins_word}
use Rattle.job_language.proofs.piece.word_piece.Goals as goal

pub mark_of_word-requires : goal.mark_of_word-requires
mark_of_word-requires c = ap operation_in c.word_at.ensures.word ∙ c.requires.other

pub returns-in-Some : goal.returns-in-Some
returns-in-Some c =
    let t = c.args.text.now in
    let lt = subst (λ n. c.args.at < n) (sym (length-words_of t.bytes t.tokens)) c.requires.in_range in
    let here = subst (λ w. IsMarkOf w c.in-Some.mark) c.word_at.ensures.word c.in-Some.ensures in
    record {
      begins = begins_word (words_in t) c.args.at c.in-Some.mark lt here;
      mark = here.mark;
      stands = tt;
      opens = tt;
    }

pub returns-in-None : goal.returns-in-None
returns-in-None c =
    let t = c.args.text.now in
    let ws = words_in t in
    let lt = subst (λ n. c.args.at < n) (sym (length-words_of t.bytes t.tokens)) c.requires.in_range in
    subst IsNoPiece (sym (drop_more ws c.args.at bad lt
    ∙ ap (λ w. w ∷ drop (c.args.at + 1) ws) (sym c.word_at.ensures.word)))
    (c.in-None.ensures (drop (c.args.at + 1) ws))
