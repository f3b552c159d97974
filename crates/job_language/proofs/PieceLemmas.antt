-- The pieces of a job, one at a time.
use Rattle.std.proofs.Common.{◌≡◌, ℕ, true, false, List, [], ◌∷◌, ◌++◌, length, Some, None, refl, sym, ap, ◌∙◌}
use Rattle.std.proofs.Common.{append_assoc}
use Rattle.std.specs.Prelude.{codes}
use Rattle.stream_tokens.specs.declared.symbol.Symbol.TheVariants as symbol
use Rattle.lambda_expr.specs.Words.{Word, named, sign}
use Rattle.job_language.specs.declared.operation.Operation.{Operation}
use Rattle.job_language.specs.declared.operation.Operation.TheVariants as op
use Rattle.job_language.specs.Table.{name_of, operation_of, allows}
use Rattle.job_language.specs.Calls.{Call, IsCall, call_words, parts_words}
use Rattle.job_language.specs.Splitting.{Completes}
use Rattle.job_language.specs.Grammar.{Piece, call, begin_concat, owner, comma, close, dot, semicolon, piece_words}
use Rattle.job_language.specs.Grammar.{pieces_words, calls_of}
use Rattle.job_language.specs.Reading.{IsPiece, ArePieces}
use Rattle.job_language.proofs.Names.{named_back, one_name}
use Rattle.job_language.proofs.CallReads.{one_reading}

-- the first word of a piece
abbrev pub first_word : Piece → Word
first_word (call c) = named (name_of c.operation)
first_word begin_concat = named (name_of op.Concat)
first_word owner = named (codes "LongStream")
first_word comma = sign symbol.Comma
first_word close = sign symbol.Close
first_word dot = sign symbol.Dot
first_word semicolon = sign symbol.Semicolon

abbrev pub later_words : Piece → List Word
later_words (call c) = sign symbol.Open ∷ (parts_words c.parts ++ sign symbol.Close ∷ [])
later_words begin_concat = sign symbol.Open ∷ []
later_words p = []

pub words_of_piece : (p : Piece) → piece_words p ≡ first_word p ∷ later_words p
words_of_piece (call c) = refl
words_of_piece x = refl

-- a call of no operation is `concat`, and none is `LongStream`
pub not_concat : (c : Call) → IsCall c → name_of c.operation ≡ name_of op.Concat → ⊥
not_concat c h e = let same = one_name c.operation op.Concat e in
    let f : true ≡ false = sym h.allowed ∙ ap (λ o. allows o (length c.parts)) same in absurd cc

pub not_owner : (o : Operation) → name_of o ≡ codes "LongStream" → ⊥
not_owner o e = let f : Some o ≡ None = sym (named_back o) ∙ ap operation_of e in absurd cc

pub name_is : (a b : List ℕ) (ws vs : List Word) → named a ∷ ws ≡ named b ∷ vs → a ≡ b
name_is a b ws vs h = cc

-- the words after the parenthesis of a call
pub call_tail : (c : Call) (r : List Word)
    → call_words c ++ r ≡ named (name_of c.operation) ∷ sign symbol.Open
    ∷ (parts_words c.parts ++ sign symbol.Close ∷ r)
call_tail c r = ap (λ v. named (name_of c.operation) ∷ sign symbol.Open ∷ v)
    (append_assoc (parts_words c.parts) (sign symbol.Close ∷ []) r)

pub completes : (c : Call) (r ws : List Word) → IsCall c
    → call_words c ++ r ≡ named (name_of c.operation) ∷ sign symbol.Open ∷ ws → Completes c r ws
completes c r ws h e = let f : named (name_of c.operation) ∷ sign symbol.Open
    ∷ (parts_words c.parts ++ sign symbol.Close ∷ r) ≡ named (name_of c.operation) ∷ sign symbol.Open ∷ ws =
    sym (call_tail c r) ∙ e in record { call = h; spelled = cc }

-- words begin with one piece at most
pub one_piece : (p q : Piece) (r s : List Word) → IsPiece p → IsPiece q → piece_words p ++ r ≡ piece_words q ++ s
    → (p ≡ q) × (r ≡ s)
one_piece (call c) (call d) r s h k e =
    let same = one_name c.operation d.operation (name_is (name_of c.operation) (name_of d.operation) _ _ e) in
    let ws = parts_words d.parts ++ sign symbol.Close ∷ s in
    let first : Completes c r ws = completes c r ws h
    (e ∙ call_tail d s ∙ ap (λ o. named (name_of o) ∷ sign symbol.Open ∷ ws) (sym same)) in
    let both = one_reading c d r s ws same first (record { call = k; spelled = refl }) in
    (ap call both.0, both.1)
one_piece (call c) begin_concat r s h k e = absurd (not_concat c h (name_is _ _ _ _ e))
one_piece (call c) owner r s h k e = absurd (not_owner c.operation (name_is _ _ _ _ e))
one_piece begin_concat (call d) r s h k e = absurd (not_concat d k (sym (name_is _ _ _ _ e)))
one_piece owner (call d) r s h k e = absurd (not_owner d.operation (sym (name_is _ _ _ _ e)))
one_piece begin_concat owner r s h k e = absurd (not_owner op.Concat (name_is _ _ _ _ e))
one_piece owner begin_concat r s h k e = absurd (not_owner op.Concat (sym (name_is _ _ _ _ e)))
one_piece begin_concat begin_concat r s h k e = (refl, cc)
one_piece owner owner r s h k e = (refl, cc)
one_piece comma comma r s h k e = (refl, cc)
one_piece close close r s h k e = (refl, cc)
one_piece dot dot r s h k e = (refl, cc)
one_piece semicolon semicolon r s h k e = (refl, cc)
one_piece p q r s h k e = absurd cc

pub pieces_append : (ps qs : List Piece) → pieces_words (ps ++ qs) ≡ pieces_words ps ++ pieces_words qs
pieces_append [] qs = refl
pieces_append (p ∷ ps) qs = ap (λ v. piece_words p ++ v) (pieces_append ps qs)
    ∙ sym (append_assoc (piece_words p) (pieces_words ps) (pieces_words qs))

pub calls_append : (ps qs : List Piece) → calls_of (ps ++ qs) ≡ calls_of ps ++ calls_of qs
calls_append [] qs = refl
calls_append (call c ∷ ps) qs = ap (λ v. c ∷ v) (calls_append ps qs)
calls_append (w ∷ ps) qs = calls_append ps qs

pub are_append : (ps qs : List Piece) → ArePieces ps → ArePieces qs → ArePieces (ps ++ qs)
are_append [] qs h k = k
are_append (p ∷ ps) qs h k = (h.0, are_append ps qs h.1 k)

-- pieces that are printed as words with this piece in front begin with it
pub next_piece : (p : Piece) (ps : List Piece) (r : List Word) → IsPiece p → ArePieces ps
    → pieces_words ps ≡ piece_words p ++ r → (qs : List Piece) × (ps ≡ p ∷ qs) × ArePieces qs × (pieces_words qs ≡ r)
next_piece p [] r h k e = let f : [] ≡ first_word p ∷ (later_words p ++ r) = e ∙ ap (λ v. v ++ r) (words_of_piece p) in
    absurd cc
next_piece p (q ∷ qs) r h k e =
    let both = one_piece q p (pieces_words qs) r k.0 h e in
    (qs, ap (λ v. v ∷ qs) both.0, k.1, both.1)

-- no words are spelled by no piece alone
pub no_pieces : (ps : List Piece) → pieces_words ps ≡ [] → ps ≡ []
no_pieces [] h = refl
no_pieces (p ∷ ps) h = let f : first_word p ∷ (later_words p ++ pieces_words ps) ≡ [] =
    ap (λ v. v ++ pieces_words ps) (sym (words_of_piece p)) ∙ h in absurd cc
