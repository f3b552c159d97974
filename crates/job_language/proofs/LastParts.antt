-- The last part of a call, by the ends of its parts.
use Rattle.std.proofs.Common.{◌≡◌, ℕ, suc, ◌+◌, ◌-◌, ◌<◌, List, [], ◌∷◌, length, drop, get_or, None, refl, sym, ap, ◌∙◌}
use Rattle.std.proofs.Common.{arith}
use Rattle.lambda_expr.specs.Words.{Word}
use Rattle.job_language.specs.declared.operation.Operation.{Operation}
use Rattle.job_language.specs.declared.operation.Param.TheVariants.{Number}
use Rattle.job_language.specs.Table.{param_of}
use Rattle.job_language.specs.Splitting.{pieces, AreEnds}
use Rattle.stream_tokens.specs.CutTexts.{TokenizedText, between}
use Rattle.job_language.specs.declared.piece.WrittenCall as written
use Rattle.job_language.specs.Shapes.{start_before, call_in, placed_in, StandsIn}
use Rattle.job_language.specs.Arguments.{key_in, last_param, last_part, before_last, no_token, argument_text}
use Rattle.job_language.proofs.PieceReads.{length_slice}
use Rattle.job_language.proofs.CauseLemmas.{length_parts}

-- a call of one part, of two, and of any other number
pub one_part : (xs : List (List Word)) → length xs ≡ 1 → xs ≡ get_or xs 0 [] ∷ []
one_part [] h = absurd (omega arith)
one_part (a ∷ []) h = refl
one_part (a ∷ b ∷ xs) h = absurd (omega arith)

pub two_parts : (xs : List (List Word)) → length xs ≡ 2 → xs ≡ get_or xs 0 [] ∷ get_or xs 1 [] ∷ []
two_parts [] h = absurd (omega arith)
two_parts (a ∷ []) h = absurd (omega arith)
two_parts (a ∷ b ∷ []) h = refl
two_parts (a ∷ b ∷ c ∷ xs) h = absurd (omega arith)

pub no_key : (xs : List (List Word)) → (length xs ≡ 1 → ⊥) → (length xs ≡ 2 → ⊥) → key_in xs ≡ None
no_key [] h k = refl
no_key (a ∷ []) h k = absurd (h refl)
no_key (a ∷ b ∷ []) h k = absurd (k refl)
no_key (a ∷ b ∷ c ∷ xs) h k = refl

pub none_last : (o : Operation) (ws : List Word) (es : List ℕ) → length es ≡ 0 → last_param o (pieces ws 0 es) ≡ Number
none_last o ws [] h = refl
none_last o ws (e ∷ es) h = absurd (omega arith)

pub last_some : (o : Operation) (ws : List Word) (a : ℕ) (es : List ℕ) → 0 < length es
    → param_of o (length es) (length es - 1) ≡ last_param o (pieces ws a es)
last_some o ws a [] h = absurd (omega arith)
last_some o ws a (e ∷ es) h =
    let l = length_parts ws (e + 1) es in
    let k : length (e ∷ es) - 1 ≡ length es = omega arith in
    ap (param_of o (suc (length es))) k ∙ ap (λ n. param_of o (suc n) n) (sym l)

pub last_at : (xs : List (List Word)) → 0 < length xs → get_or xs (length xs - 1) [] ≡ last_part xs
last_at [] h = absurd (omega arith)
last_at (a ∷ []) h = refl
last_at (a ∷ b ∷ xs) h =
    let k : length (a ∷ b ∷ xs) - 1 ≡ suc (length (b ∷ xs) - 1) = omega arith in
    ap (λ n. get_or (a ∷ b ∷ xs) n []) k ∙ last_at (b ∷ xs) (omega arith)

start_step : (a e f : ℕ) (es : List ℕ) → start_before (e + 1) (f ∷ es) (length (f ∷ es) - 1)
    ≡ start_before a (e ∷ f ∷ es) (length (e ∷ f ∷ es) - 1)
start_step a e f [] = refl
start_step a e f (g ∷ gs) =
    let k : length (f ∷ g ∷ gs) - 1 ≡ suc (length gs) = omega arith in
    let m : length (e ∷ f ∷ g ∷ gs) - 1 ≡ suc (suc (length gs)) = omega arith in
    ap (start_before (e + 1) (f ∷ g ∷ gs)) k ∙ sym (ap (start_before a (e ∷ f ∷ g ∷ gs)) m)

end_step : (e f : ℕ) (es : List ℕ) → get_or (f ∷ es) (length (f ∷ es) - 1) 0
    ≡ get_or (e ∷ f ∷ es) (length (e ∷ f ∷ es) - 1) 0
end_step e f es =
    let m : length (e ∷ f ∷ es) - 1 ≡ suc (length (f ∷ es) - 1) = omega arith in
    sym (ap (λ n. get_or (e ∷ f ∷ es) n 0) m)

pub before_of : (ws : List Word) (a : ℕ) (es : List ℕ) → 0 < length es → AreEnds a es (length ws)
    → before_last (pieces ws a es) + a ≡ start_before a es (length es - 1)
before_of ws a [] lt h = absurd (omega arith)
before_of ws a (e ∷ []) lt h = let zero_before : before_last (pieces ws a (e ∷ [])) ≡ 0 = refl in omega arith
before_of ws a (e ∷ f ∷ es) lt h =
    omega (arith, length_slice ws a e h.1, before_of ws (e + 1) (f ∷ es) (omega arith) h.2, start_step a e f es, h.0)

pub last_length : (ws : List Word) (a : ℕ) (es : List ℕ) → 0 < length es → AreEnds a es (length ws)
    → length (last_part (pieces ws a es)) + start_before a es (length es - 1) ≡ get_or es (length es - 1) 0
last_length ws a [] lt h = absurd (omega arith)
last_length ws a (e ∷ []) lt h = let l = length_slice ws a e h.1 in let low = h.0 in omega arith
last_length ws a (e ∷ f ∷ es) lt h =
    omega (arith, last_length ws (e + 1) (f ∷ es) (omega arith) h.2, start_step a e f es, end_step e f es)

-- the text of the last part, by these places
pub text_at : (t : TokenizedText) (ws : List Word) (c : written.WrittenCall) (place start end : ℕ) → StandsIn ws c
    → place + 1 ≡ length c.ends.items → start ≡ start_before 0 c.ends.items place → end ≡ get_or c.ends.items place 0
    → between t (get_or t.tokens (c.opened + start) no_token) (get_or t.tokens (c.opened + 1 + end) no_token)
    (c.opened + start) (c.opened + 1 + end) ≡ argument_text t (placed_in ws c)
text_at t ws c place start end h last from to =
    let es = c.ends.items in
    let xs = (call_in ws c).parts in
    let some : 0 < length es = omega arith in
    let is : length es - 1 ≡ place = omega arith in
    let before = before_of (drop (c.opened + 1) ws) 0 es some h.ends in
    let long = last_length (drop (c.opened + 1) ws) 0 es some h.ends in
    let here : start_before 0 es (length es - 1) ≡ start = ap (start_before 0 es) is ∙ sym from in
    let there : get_or es (length es - 1) 0 ≡ end = ap (λ n. get_or es n 0) is ∙ sym to in
    let first : c.opened + start ≡ c.opened + before_last xs = omega arith in
    let second : c.opened + 1 + end ≡ c.opened + before_last xs + suc (length (last_part xs)) = omega arith in
    ap (λ i. between t (get_or t.tokens i no_token) (get_or t.tokens (c.opened + 1 + end) no_token) i
    (c.opened + 1 + end)) first
    ∙ ap (λ j. between t (get_or t.tokens (c.opened + before_last xs) no_token) (get_or t.tokens j no_token)
    (c.opened + before_last xs) j) second
