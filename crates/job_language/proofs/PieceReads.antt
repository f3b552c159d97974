-- What the reader of pieces answers at a place.
use Rattle.std.proofs.Common.{◌≡◌, ℕ, zero, suc, ◌+◌, ◌-◌, ◌<◌, ◌≤◌, Bool, true, false, List, [], ◌∷◌, ◌++◌, length}
use Rattle.std.proofs.Common.{drop, get_or, Some, refl, sym, ap, subst, ◌∙◌, arith, length-drop, length-take}
use Rattle.std.proofs.Common.{length-append}
use Rattle.std.specs.Prelude.{slice_range, nat_eq, if◌then◌else◌}
use Rattle.std.specs.Cmp.Lexicographic.{pointwise, same_text}
use Rattle.std.proofs.lemmas.List.{drop_more, drop-drop}
use Rattle.stream_tokens.specs.declared.symbol.Symbol.TheVariants as symbol
use Rattle.lambda_expr.specs.Words.{Word, named, sign, bad}
use Rattle.job_language.specs.declared.operation.Operation.{Operation}
use Rattle.job_language.specs.declared.operation.Operation.TheVariants as op
use Rattle.job_language.specs.declared.operation.Role.TheVariants as role
use Rattle.job_language.specs.declared.piece.Mark.{Mark}
use Rattle.job_language.specs.Table.{name_of, operations, operation_among, role_of}
use Rattle.job_language.specs.Calls.{call_words, parts_words}
use Rattle.job_language.specs.Splitting.{pieces, AreEnds, Completes, call_at, IsReadAs, IsNoCallOf}
use Rattle.job_language.specs.Grammar.{call, begin_concat, owner}
use Rattle.job_language.specs.Shapes.{width, sign_piece, is_open, operation_in, IsNoPiece, Begins, IsMarkOf}
use Rattle.job_language.proofs.Names.{one_name}
use Rattle.job_language.proofs.PieceLemmas.{not_owner, name_is, call_tail, completes}

pub front_two : (ws : List Word) (at : ℕ) → at + 1 < length ws
    → drop at ws ≡ get_or ws at bad ∷ get_or ws (at + 1) bad ∷ drop (at + 2) ws
front_two ws at lt =
    let e : at + 1 + 1 ≡ at + 2 = omega arith in
    drop_more ws at bad (omega arith) ∙ ap (λ v. get_or ws at bad ∷ v) (drop_more ws (at + 1) bad lt)
    ∙ ap (λ n. get_or ws at bad ∷ get_or ws (at + 1) bad ∷ drop n ws) e

pub open_within : (ws : List Word) (i : ℕ) → is_open (get_or ws i bad) ≡ true → i < length ws
open_within [] i h = absurd cc
open_within (w ∷ ws) zero h = omega arith
open_within (w ∷ ws) (suc i) h = let k = open_within ws i h in omega arith

-- the operation of a name has that name
named_by : (os : List Operation) (p : Operation) (w : List ℕ) (o : Operation) (b : Bool)
    → pointwise nat_eq w (name_of p) ≡ b → (operation_among os w ≡ Some o → w ≡ name_of o)
    → (if b then Some p else operation_among os w) ≡ Some o → w ≡ name_of o
named_by os p w o true h further k = let e : p ≡ o = cc in same_text w (name_of p) (sym h) ∙ ap name_of e
named_by os p w o false h further k = further k

named_row : (os : List Operation) (w : List ℕ) (o : Operation) → operation_among os w ≡ Some o → w ≡ name_of o
named_row [] w o h = absurd cc
named_row (p ∷ os) w o h = named_by os p w o (pointwise nat_eq w (name_of p)) refl (named_row os w o) h

pub names : (w : Word) (o : Operation) → operation_in w ≡ Some o → w ≡ named (name_of o)
names (named n) o h = ap named (named_row operations n o h)
names x o h = absurd cc

pub is_concat : (o : Operation) → role_of o ≡ role.Concatenation → o ≡ op.Concat
is_concat op.Concat h = refl
is_concat o h = absurd cc

pub length_slice : (ws : List Word) (a e : ℕ) → e < length ws → length (slice_range ws a e) ≡ e - a
length_slice ws a e lt = let k = length-take (e - a) (drop a ws) in let l = length-drop a ws in omega arith

width_from : (ws : List Word) (a e : ℕ) (es : List ℕ) → AreEnds a (e ∷ es) (length ws)
    → length (parts_words (pieces ws a (e ∷ es))) + a + 1 ≡ width (e ∷ es)
width_from ws a e [] h = let k = length_slice ws a e h.1 in let low = h.0 in omega arith
width_from ws a e (d ∷ es) h =
    omega (
      arith,
      length_slice ws a e h.1,
      h.0,
      width_from ws (e + 1) d es h.2,
      length-append (slice_range ws a e) (sign symbol.Comma ∷ parts_words (pieces ws (e + 1) (d ∷ es))),
    )

pub width_is : (ws : List Word) (es : List ℕ) → AreEnds 0 es (length ws)
    → length (parts_words (pieces ws 0 es)) + 1 ≡ width es
width_is ws [] h = refl
width_is ws (e ∷ es) h = let k = width_from ws 0 e es h in omega arith

past : (a : List Word) (w : Word) (rest : List Word) → drop (length a + 1) (a ++ w ∷ rest) ≡ rest
past [] w rest = refl
past (v ∷ a) w rest = let e : suc (length a) + 1 ≡ suc (length a + 1) = omega arith in
    ap (λ n. drop n (v ∷ a ++ w ∷ rest)) e ∙ past a w rest

-- a call in words, and what is left after it
pub call_ends : (o : Operation) (ws : List Word) (es : List ℕ) → IsReadAs o ws es
    → (parts_words (pieces ws 0 es) ++ sign symbol.Close ∷ drop (width es) ws ≡ ws) × (width es ≤ length ws)
call_ends o ws es h =
    let parts = parts_words (pieces ws 0 es) in
    let wide = width_is ws es h.ends in
    let rest : drop (width es) ws ≡ h.rest =
    ap (λ n. drop n ws) (sym wide) ∙ ap (drop (length parts + 1)) (sym h.completes.spelled)
    ∙ past parts (sign symbol.Close) h.rest in
    let long : length ws ≡ length parts + suc (length h.rest) =
    ap length (sym h.completes.spelled) ∙ length-append parts (sign symbol.Close ∷ h.rest) in
    (ap (λ v. parts ++ sign symbol.Close ∷ v) rest ∙ h.completes.spelled, omega arith)

pub begins_call : (ws : List Word) (at : ℕ) (o : Operation) (es : List ℕ) → at + 1 < length ws
    → get_or ws at bad ≡ named (name_of o) → get_or ws (at + 1) bad ≡ sign symbol.Open
    → IsReadAs o (drop (at + 2) ws) es → Begins ws at (call (call_at o (drop (at + 1 + 1) ws) es)) (at + 2 + width es)
begins_call ws at o es lt name open_ h =
    let vs = drop (at + 2) ws in
    let two_ : at + 1 + 1 ≡ at + 2 = omega arith in
    let k = call_ends o vs es h in
    let far = k.1 in
    let left = length-drop (at + 2) ws in
    let rest : drop (width es) vs ≡ drop (at + 2 + width es) ws = drop-drop (width es) (at + 2) ws in
    let c = call_at o vs es in
    let here : drop at ws ≡ call_words c ++ drop (at + 2 + width es) ws =
    front_two ws at lt
    ∙ ap (λ w. w ∷ get_or ws (at + 1) bad ∷ vs) name
    ∙ ap (λ w. named (name_of o) ∷ w ∷ vs) open_
    ∙ ap (λ v. named (name_of o) ∷ sign symbol.Open ∷ v)
    (sym k.0 ∙ ap (λ v. parts_words (pieces vs 0 es) ++ sign symbol.Close ∷ v) rest)
    ∙ sym (call_tail c (drop (at + 2 + width es) ws)) in
    subst (λ n. Begins ws at (call (call_at o (drop n ws) es)) (at + 2 + width es)) (sym two_) (record {
      piece = h.completes.call;
      spelled = here;
      further = omega arith;
      within = omega arith;
    })

-- a name and a parenthesis that begin no call
pub no_call_for : (o : Operation) (vs : List Word) → IsNoCallOf o vs → (role_of o ≡ role.Concatenation → ⊥)
    → IsNoPiece (named (name_of o) ∷ sign symbol.Open ∷ vs)
no_call_for o vs none_ n (call c) rest k e =
    let same = one_name c.operation o (name_is (name_of c.operation) (name_of o) _ _ e) in
    let here : Completes c rest vs = completes c rest vs k
    (e ∙ ap (λ p. named (name_of p) ∷ sign symbol.Open ∷ vs) (sym same)) in
    none_ c.parts rest (subst (λ p. Completes (record { operation = p; parts = c.parts }) rest vs) same here)
no_call_for o vs none_ n begin_concat rest k e = n (ap role_of (sym (one_name op.Concat o (name_is _ _ _ _ e))))
no_call_for o vs none_ n owner rest k e = not_owner o (sym (name_is _ _ _ _ e))
no_call_for o vs none_ n p rest k e = absurd cc

pub begins_no_call : (ws : List Word) (at : ℕ) (o : Operation) → at + 1 < length ws
    → get_or ws at bad ≡ named (name_of o) → get_or ws (at + 1) bad ≡ sign symbol.Open → IsNoCallOf o (drop (at + 2) ws)
    → (role_of o ≡ role.Concatenation → ⊥) → IsNoPiece (drop at ws)
begins_no_call ws at o lt name open_ none_ n =
    subst IsNoPiece (sym (front_two ws at lt ∙ ap (λ w. w ∷ get_or ws (at + 1) bad ∷ drop (at + 2) ws) name
    ∙ ap (λ w. named (name_of o) ∷ w ∷ drop (at + 2) ws) open_)) (no_call_for o (drop (at + 2) ws) none_ n)

pub no_open : (w : Word) (vs : List Word) (o : Operation) → operation_in w ≡ Some o → is_open (get_or vs 0 bad) ≡ false
    → IsNoPiece (w ∷ vs)
no_open w vs o h shut (call c) rest k e = let f : true ≡ false = ap (λ v. is_open (get_or v 1 bad)) e ∙ shut in
    absurd cc
no_open w vs o h shut begin_concat rest k e = let f : true ≡ false = ap (λ v. is_open (get_or v 1 bad)) e ∙ shut in
    absurd cc
no_open w vs o h shut owner rest k e = not_owner o (sym (name_is _ _ _ _ (e ∙ ap (λ v. v ∷ vs) (names w o h))))
no_open w vs o h shut p rest k e = let f = e ∙ ap (λ v. v ∷ vs) (names w o h) in absurd cc

pub width_last : (es : List ℕ) → 0 < length es → get_or es (length es - 1) 0 + 1 ≡ width es
width_last [] h = absurd (omega arith)
width_last (e ∷ []) h = refl
width_last (e ∷ d ∷ es) h = let n : suc (suc (length es)) - 1 ≡ suc (suc (length es) - 1) = omega arith in
    ap (λ n. get_or (e ∷ d ∷ es) n 0 + 1) n ∙ width_last (d ∷ es) (omega arith)

pub begins_word : (ws : List Word) (at : ℕ) (m : Mark) → at < length ws → IsMarkOf (get_or ws at bad) m
    → Begins ws at (sign_piece m) (at + 1)
begins_word ws at m lt h = record {
  piece = h.piece;
  spelled = drop_more ws at bad lt ∙ ap (λ v. v ++ drop (at + 1) ws) (sym h.spelled);
  further = omega arith;
  within = omega arith;
}
