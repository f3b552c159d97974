-- What the scanner reads after the first byte, over the whole text.
use Rattle.std.proofs.Common.{◌≡◌, ℕ, ◌+◌, ◌-◌, ◌<◌, ◌==◌, true, false, List, [], ◌∷◌, length, take, drop, slice_index}
use Rattle.std.proofs.Common.{refl, sym, ap, ◌∙◌, subst, arith, inl, inr, add-one}
use Rattle.std.specs.List.{prefix_len}
use Rattle.std.specs.Char.{is_ascii_digit}
use Rattle.std.proofs.lemmas.Bool.{eqb-true}
use Rattle.std.proofs.lemmas.List.{take_rest}
use Rattle.stream_tokens.specs.declared.token.TokenKind.TheVariants.{Number, String, Reference, Bad}
use Rattle.stream_tokens.specs.Bytes.{is_name_start, is_name_byte, is_long_mark}
use Rattle.stream_tokens.specs.Tokens.{IsLongest, IsFirstToken}
use Rattle.stream_tokens.proofs.Longest.{longest_marked, longest_plain, stays_inside, longest_string, open_string}
use Rattle.stream_tokens.proofs.Longest.{longest_reference, lone_dollar}

-- the bytes after the first one, as the code slices them
behind : (a : ℕ) (rest : List ℕ) → take (length (a ∷ rest) - 1) (drop 1 (a ∷ rest)) ≡ rest
behind a rest = take_rest (a ∷ rest) 1

one_on : (a : ℕ) (rest : List ℕ) (i : ℕ) → slice_index (a ∷ rest) (i + 1) ≡ slice_index rest i
one_on a rest i = ap (slice_index (a ∷ rest)) (add-one i)

pub string_read : (text : List ℕ) (i : ℕ) → 0 < length text → slice_index text 0 ≡ 34
    → i ≡ prefix_len stays_inside (take (length text - 1) (drop 1 text)) → i + 1 < length text
    → slice_index text (i + 1) ≡ 34 → IsFirstToken text String (i + 2)
string_read [] i some quote is less closed = absurd (omega arith)
string_read (a ∷ rest) i some quote is less closed =
    let at : i ≡ prefix_len stays_inside rest = is ∙ ap (prefix_len stays_inside) (behind a rest) in
    let close : slice_index rest (prefix_len stays_inside rest) ≡ 34 =
    ap (slice_index rest) (sym at) ∙ sym (one_on a rest i) ∙ closed in
    let first : IsFirstToken (34 ∷ rest) String (prefix_len stays_inside rest + 2) =
    inl (longest_string rest (omega arith) close) in
    subst (λ k. IsFirstToken (a ∷ rest) String (k + 2)) (sym at)
    (subst (λ b. IsFirstToken (b ∷ rest) String (prefix_len stays_inside rest + 2)) (sym quote) first)

pub string_open : (text : List ℕ) (i : ℕ) → 0 < length text → slice_index text 0 ≡ 34
    → i ≡ prefix_len stays_inside (take (length text - 1) (drop 1 text))
    → (i + 1 < length text → slice_index text (i + 1) ≡ 34 → ⊥) → IsFirstToken text Bad 1
string_open [] i some quote is unclosed = absurd (omega arith)
string_open (a ∷ rest) i some quote is unclosed =
    let at : i ≡ prefix_len stays_inside rest = is ∙ ap (prefix_len stays_inside) (behind a rest) in
    let first : IsFirstToken (34 ∷ rest) Bad 1 =
    inr (open_string rest (λ less close. unclosed (omega arith)
    (one_on a rest i ∙ ap (slice_index rest) at ∙ close))) in
    subst (λ b. IsFirstToken (b ∷ rest) Bad 1) (sym quote) first

pub reference_read : (text : List ℕ) (k : ℕ) → 0 < length text → slice_index text 0 ≡ 36
    → is_name_start (slice_index (take (length text - 1) (drop 1 text)) 0) ≡ true
    → k ≡ prefix_len is_name_byte (take (length text - 1) (drop 1 text)) → IsFirstToken text Reference (k + 1)
reference_read [] k some dollar starts is = absurd (omega arith)
reference_read (a ∷ rest) k some dollar starts is =
    let at : k ≡ prefix_len is_name_byte rest = is ∙ ap (prefix_len is_name_byte) (behind a rest) in
    let starts_rest : is_name_start (slice_index rest 0) ≡ true =
    ap (λ w. is_name_start (slice_index w 0)) (sym (behind a rest)) ∙ starts in
    let first : IsFirstToken (36 ∷ rest) Reference (prefix_len is_name_byte rest + 1) =
    inl (longest_reference rest starts_rest) in
    subst (λ k. IsFirstToken (a ∷ rest) Reference (k + 1)) (sym at)
    (subst (λ b. IsFirstToken (b ∷ rest) Reference (prefix_len is_name_byte rest + 1)) (sym dollar) first)

pub dollar_alone : (text : List ℕ) → 0 < length text → slice_index text 0 ≡ 36
    → is_name_start (slice_index (take (length text - 1) (drop 1 text)) 0) ≡ false → IsFirstToken text Bad 1
dollar_alone [] some dollar starts = absurd (omega arith)
dollar_alone (a ∷ rest) some dollar starts =
    let starts_rest : is_name_start (slice_index rest 0) ≡ false =
    ap (λ w. is_name_start (slice_index w 0)) (sym (behind a rest)) ∙ starts in
    let first : IsFirstToken (36 ∷ rest) Bad 1 = inr (lone_dollar rest starts_rest) in
    subst (λ b. IsFirstToken (b ∷ rest) Bad 1) (sym dollar) first

pub dollar_last : (text : List ℕ) → 0 < length text → slice_index text 0 ≡ 36
    → (length (take (length text - 1) (drop 1 text)) == 0) ≡ true → IsFirstToken text Bad 1
dollar_last [] some dollar last = absurd (omega arith)
dollar_last (a ∷ []) some dollar last = subst (λ b. IsFirstToken (b ∷ []) Bad 1) (sym dollar)
    (inr (lone_dollar [] refl))
dollar_last (a ∷ b ∷ rest) some dollar last =
    let none_left : length (take (length (a ∷ b ∷ rest) - 1) (drop 1 (a ∷ b ∷ rest))) ≡ 0 = eqb-true _ 0 last in
    let e : length (b ∷ rest) ≡ 0 = ap length (sym (behind a (b ∷ rest))) ∙ none_left in
    absurd (omega (arith, e))

pub number_marked : (text : List ℕ) (n : ℕ) → is_name_start (slice_index text 0) ≡ false
    → is_ascii_digit (slice_index text 0) ≡ true → n ≡ prefix_len is_ascii_digit text → n < length text
    → is_long_mark (slice_index text n) ≡ true → IsLongest text Number (n + 1)
number_marked text n h d is less mark =
    subst (λ k. IsLongest text Number (k + 1)) (sym is)
    (longest_marked text h d (omega arith) (ap (λ k. is_long_mark (slice_index text k)) (sym is) ∙ mark))

pub number_plain : (text : List ℕ) (n : ℕ) → is_name_start (slice_index text 0) ≡ false
    → is_ascii_digit (slice_index text 0) ≡ true → n ≡ prefix_len is_ascii_digit text
    → (n < length text → is_long_mark (slice_index text n) ≡ false) → IsLongest text Number n
number_plain text n h d is unmarked =
    subst (λ k. IsLongest text Number k) (sym is)
    (longest_plain text h d (λ less. ap (λ k. is_long_mark (slice_index text k)) (sym is) ∙ unmarked (omega arith)))
