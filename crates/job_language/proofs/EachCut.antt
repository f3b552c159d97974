-- Each text is cut into tokens.
use Rattle.std.proofs.Common.{◌≡◌, inl, ⊎_elim, ℕ, zero, suc, ◌+◌, ◌-◌, ◌<◌, ◌≤◌, ◌==◌, Bool, true, false, List, []}
use Rattle.std.proofs.Common.{◌∷◌, ◌++◌, length, take, drop, slice_index, Option, Some, None, refl, sym, ap, subst, ◌∙◌}
use Rattle.std.proofs.Common.{arith}
use Rattle.std.specs.Char.{is_ascii_digit}
use Rattle.std.specs.List.{prefix_len}
use Rattle.std.proofs.lemmas.Bool.{eqb-true}
use Rattle.std.proofs.lemmas.List.{length-drop}
use Rattle.std.proofs.str.Laws.{order}
use Rattle.stream_tokens.specs.declared.token.Token.{Token}
use Rattle.stream_tokens.specs.declared.token.TokenKind.{TokenKind}
use Rattle.stream_tokens.specs.declared.token.TokenKind.TheVariants.{Name, Number, String, Reference, Symbol, Bad}
use Rattle.stream_tokens.specs.declared.symbol.Symbol.{Symbol as SymbolType}
use Rattle.stream_tokens.specs.Bytes.{is_blank, is_name_start, is_name_byte, is_long_mark}
use Rattle.stream_tokens.specs.Scanning.{symbol_at}
use Rattle.stream_tokens.specs.Symbols.{spelling_of}
use Rattle.stream_tokens.specs.Tokens.{AreTokensOf, CutBetween, IsFirstToken}
use Rattle.stream_tokens.proofs.CutLemmas.{cut_blank, cut_push, first_some, none_blank}
use Rattle.stream_tokens.proofs.FrontReads.{dollar_alone, number_marked, number_plain, reference_read, string_open}
use Rattle.stream_tokens.proofs.FrontReads.{string_read}
use Rattle.stream_tokens.proofs.Longest.{longest_name, nothing_taken, stays_inside, symbol_taken}

-- some token stands at the front
abbrev pub HasFirst : List ℕ → Type 0
HasFirst text = (kind : TokenKind) × (n : ℕ) × IsFirstToken text kind n

first_name : (text : List ℕ) → is_name_start (slice_index text 0) ≡ true → HasFirst text
first_name text h = (Name, prefix_len is_name_byte text, inl (longest_name text h))

marked : (text : List ℕ) → is_name_start (slice_index text 0) ≡ false → is_ascii_digit (slice_index text 0) ≡ true
    → prefix_len is_ascii_digit text < length text → (b : Bool)
    → is_long_mark (slice_index text (prefix_len is_ascii_digit text)) ≡ b → HasFirst text
marked text n d lt true m = (
  Number,
  prefix_len is_ascii_digit text + 1,
  inl (number_marked text (prefix_len is_ascii_digit text) n d refl lt m),
)
marked text n d lt false m = (
  Number,
  prefix_len is_ascii_digit text,
  inl (number_plain text (prefix_len is_ascii_digit text) n d refl (λ less. m)),
)

first_number : (text : List ℕ) → is_name_start (slice_index text 0) ≡ false → is_ascii_digit (slice_index text 0) ≡ true
    → HasFirst text
first_number text n d =
    ⊎_elim (λ (lt : prefix_len is_ascii_digit text < length text). marked text n d lt
    (is_long_mark (slice_index text (prefix_len is_ascii_digit text))) refl)
    (λ (le : length text ≤ prefix_len is_ascii_digit text). (
      Number,
      prefix_len is_ascii_digit text,
      inl (number_plain text (prefix_len is_ascii_digit text) n d refl (λ less. absurd (omega arith))),
    ))
    (order (prefix_len is_ascii_digit text) (length text))

abbrev inside_of : List ℕ → ℕ
inside_of text = prefix_len stays_inside (take (length text - 1) (drop 1 text))

closing : (text : List ℕ) → 0 < length text → slice_index text 0 ≡ 34 → inside_of text + 1 < length text → (b : Bool)
    → (slice_index text (inside_of text + 1) == 34) ≡ b → HasFirst text
closing text some quote lt true h = (
  String,
  inside_of text + 2,
  string_read text (inside_of text) some quote refl lt (eqb-true (slice_index text (inside_of text + 1)) 34 h),
)
closing text some quote lt false h = (
  Bad,
  1,
  string_open text (inside_of text) some quote refl
      (λ less is. let e : true ≡ false = sym (ap (λ n. n == 34) is) ∙ h in absurd cc),
)

first_string : (text : List ℕ) → 0 < length text → slice_index text 0 ≡ 34 → HasFirst text
first_string text some quote =
    ⊎_elim (λ (lt : inside_of text + 1 < length text). closing text some quote lt
    (slice_index text (inside_of text + 1) == 34) refl)
    (λ (le : length text ≤ inside_of text + 1).
    (Bad, 1, string_open text (inside_of text) some quote refl (λ less is. omega arith)))
    (order (inside_of text + 1) (length text))

named : (text : List ℕ) → 0 < length text → slice_index text 0 ≡ 36 → (b : Bool)
    → is_name_start (slice_index (take (length text - 1) (drop 1 text)) 0) ≡ b → HasFirst text
named text some dollar true h = (
  Reference,
  prefix_len is_name_byte (take (length text - 1) (drop 1 text)) + 1,
  reference_read text _ some dollar h refl,
)
named text some dollar false h = (Bad, 1, dollar_alone text some dollar h)

by_symbol : (text : List ℕ) → 0 < length text → is_blank (slice_index text 0) ≡ false
    → is_name_start (slice_index text 0) ≡ false → is_ascii_digit (slice_index text 0) ≡ false
    → (slice_index text 0 == 34) ≡ false → (slice_index text 0 == 36) ≡ false → (o : Option SymbolType)
    → symbol_at text ≡ o → HasFirst text
by_symbol text some solid n d q r (Some s) h =
    (Symbol s, length (spelling_of s), symbol_taken text s some (n, d, q, r) h)
by_symbol text some solid n d q r None h = (Bad, 1, nothing_taken text some (n, d, q, r) solid h)

by_dollar : (text : List ℕ) → 0 < length text → is_blank (slice_index text 0) ≡ false
    → is_name_start (slice_index text 0) ≡ false → is_ascii_digit (slice_index text 0) ≡ false
    → (slice_index text 0 == 34) ≡ false → (b : Bool) → (slice_index text 0 == 36) ≡ b → HasFirst text
by_dollar text some solid n d q true h =
    named text some (eqb-true (slice_index text 0) 36 h)
    (is_name_start (slice_index (take (length text - 1) (drop 1 text)) 0)) refl
by_dollar text some solid n d q false h = by_symbol text some solid n d q h (symbol_at text) refl

by_quote : (text : List ℕ) → 0 < length text → is_blank (slice_index text 0) ≡ false
    → is_name_start (slice_index text 0) ≡ false → is_ascii_digit (slice_index text 0) ≡ false → (b : Bool)
    → (slice_index text 0 == 34) ≡ b → HasFirst text
by_quote text some solid n d true h = first_string text some (eqb-true (slice_index text 0) 34 h)
by_quote text some solid n d false h = by_dollar text some solid n d h (slice_index text 0 == 36) refl

by_digit : (text : List ℕ) → 0 < length text → is_blank (slice_index text 0) ≡ false
    → is_name_start (slice_index text 0) ≡ false → (b : Bool) → is_ascii_digit (slice_index text 0) ≡ b → HasFirst text
by_digit text some solid n true h = first_number text n h
by_digit text some solid n false h = by_quote text some solid n h (slice_index text 0 == 34) refl

by_name : (text : List ℕ) → 0 < length text → is_blank (slice_index text 0) ≡ false → (b : Bool)
    → is_name_start (slice_index text 0) ≡ b → HasFirst text
by_name text some solid true h = first_name text h
by_name text some solid false h = by_digit text some solid h (is_ascii_digit (slice_index text 0)) refl

each_first : (text : List ℕ) → 0 < length text → is_blank (slice_index text 0) ≡ false → HasFirst text
each_first text some solid = by_name text some solid (is_name_start (slice_index text 0)) refl

-- the tokens from a place on, after those before it
abbrev IsCutFrom : List ℕ → Type 0
IsCutFrom text = (ts : List Token) × AreTokensOf ts text

front_byte : (text : List ℕ) (b : ℕ) → slice_index (drop b text) 0 ≡ slice_index text b
front_byte text zero = refl
front_byte [] (suc b) = refl
front_byte (a ∷ text) (suc b) = front_byte text b

after_token : (text : List ℕ) (ts : List Token) (b : ℕ) → CutBetween text 0 ts b → b < length text
    → (f : HasFirst (drop b text)) → (c : ℕ) × (us : List Token) × (b < c) × (c ≤ length text) × CutBetween text 0 us c
after_token text ts b cut lt f =
    let n = f.1 in
    let some = first_some (drop b text) f.0 n f.2 in
    let low = some.0 in
    let fits = some.1 in
    let left = length-drop b text in
    let t : Token = record { kind = f.0; from = b; to = b + n } in
    let more : b < b + n = omega arith in
    let size : b + n - b ≡ n = omega arith in (
      b + n,
      ts ++ t ∷ [],
      more,
      omega arith,
      cut_push text 0 ts b t cut refl more (subst (IsFirstToken (drop b text) f.0) (sym size) f.2),
    )

step : (text : List ℕ) (ts : List Token) (b : ℕ) → CutBetween text 0 ts b → b < length text → (q : Bool)
    → is_blank (slice_index text b) ≡ q → (c : ℕ) × (us : List Token) × (b < c) × (c ≤ length text)
    × CutBetween text 0 us c
step text ts b cut lt true h = (b + 1, ts, omega arith, omega arith, cut_blank text 0 ts b lt cut h)
step text ts b cut lt false h =
    after_token text ts b cut lt (each_first (drop b text) (omega (arith, length-drop b text))
    (ap is_blank (front_byte text b) ∙ h))

cut_from : (size : ℕ) (text : List ℕ) (ts : List Token) (b : ℕ) → CutBetween text 0 ts b → b ≤ length text
    → length text - b ≤ size → IsCutFrom text
cut_from zero text ts b cut le few = let end : b ≡ length text = omega arith in
    (ts, subst (CutBetween text 0 ts) end cut)
cut_from (suc size) text ts b cut le few =
    ⊎_elim (λ (lt : b < length text). let s = step text ts b cut lt (is_blank (slice_index text b)) refl in
    let far = s.2 in cut_from size text s.1 s.0 s.4 s.3 (omega arith))
    (λ (ge : length text ≤ b). let end : b ≡ length text = omega arith in (ts, subst (CutBetween text 0 ts) end cut))
    (order b (length text))

pub each_cut : (text : List ℕ) → (ts : List Token) × AreTokensOf ts text
each_cut text = cut_from (length text) text [] 0 (omega arith, none_blank text 0) (omega arith) (omega arith)
