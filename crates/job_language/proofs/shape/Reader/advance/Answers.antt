use Rattle.std.proofs.Common.{◌≡◌, ◌<◌, drop, reverse, None, Some, ap, sym, subst, ◌∙◌}
use Rattle.std.specs.Prelude.{MatchOption}
use Rattle.lambda_expr.specs.CodeWords.{words_in}
use Rattle.job_language.specs.Reading.{moved}
use Rattle.job_language.specs.Shapes.{IsNoPiece, IsPieceRead, piece_of}
use Rattle.lambda_expr.proofs.WordList.{length-words_of}
use Rattle.job_language.proofs.ShapeLemmas.{no_piece_there, no_move, reading_on}
use Rattle.job_language.proofs.shape.Reader.advance.Goals as goal

pub returns-in_default : goal.returns-in_default
returns-in_default c =
    let ws = words_in c.args.text.now in
    let lt = subst (λ n. c.args.self.now.at < n) (sym (length-words_of c.args.text.now.bytes c.args.text.now.tokens))
    c.requires.in_range in
    let none = subst (λ f. MatchOption f (IsNoPiece (drop c.args.self.now.at ws))
    (λ p. IsPieceRead ws c.args.self.now.at p)) c.in_default.is c.in_ok-piece.ensures in
    no_piece_there ws c.args.self.now c.requires.reading lt none

pub returns-in_default-2 : goal.returns-in_default-2
returns-in_default-2 c =
    let ws = words_in c.args.text.now in
    let r = c.args.self.now in
    let p = c.in-Some.piece in
    let read = subst (λ f. MatchOption f (IsNoPiece (drop r.at ws)) (λ p. IsPieceRead ws r.at p)) c.in-Some.is
    c.in_ok-piece.ensures in
    let none = subst (λ f. MatchOption f (moved r.mode (reverse r.commas.items) p.mark ≡ None)
    (λ k. moved r.mode (reverse r.commas.items) p.mark ≡ Some (k, reverse c.moved.new.commas.items)))
    c.in_default-2.is c.in_ok-mode.ensures in
    no_move ws r (piece_of ws p) p.to c.requires.reading read.begins
    (ap (moved r.mode (reverse r.commas.items)) read.mark ∙ none)

pub returns : goal.returns
returns c =
    let ws = words_in c.args.text.now in
    let r = c.args.self.now in
    let p = c.in-Some.piece in
    let read = subst (λ f. MatchOption f (IsNoPiece (drop r.at ws)) (λ p. IsPieceRead ws r.at p)) c.in-Some.is
    c.in_ok-piece.ensures in
    let some = subst (λ f. MatchOption f (moved r.mode (reverse r.commas.items) p.mark ≡ None)
    (λ k. moved r.mode (reverse r.commas.items) p.mark ≡ Some (k, reverse c.moved.new.commas.items))) c.in-Some-2.is
    c.in_ok-mode.ensures in (
      reading_on ws r (record {
        mode = c.in-Some-2.mode;
        commas = c.moved.new.commas;
        calls = c.add_call.new.calls;
        at = p.to;
      }) (piece_of ws p) c.requires.reading read.begins
          (ap (moved r.mode (reverse r.commas.items)) read.mark ∙ some)
          (c.in_ok-add_call.ensures.calls ws r.at p.mark read.opens)
          (c.in_ok-add_call.ensures.stand ws c.requires.reading.stand read.stands),
      read.begins.further,
    )
