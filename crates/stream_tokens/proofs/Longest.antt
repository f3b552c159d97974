-- Which token is the longest at the front of a text.
use Rattle.std.proofs.Common.{◌≡◌, ℕ, zero, suc, ◌+◌, ◌<◌, ◌≤◌, Bool, true, false, not, ◌==◌, cond, List, [], ◌∷◌, ◌++◌}
use Rattle.std.proofs.Common.{length, take, drop, slice_index, Option, Some, None, refl, sym, ap, ◌∙◌, subst, arith}
use Rattle.std.proofs.Common.{inl, inr, ⊎_elim, append-nil, take-append-drop, length-append, add-one}
use Rattle.std.specs.List.{list_all, prefix_len}
use Rattle.std.specs.Char.{is_ascii_digit}
use Rattle.std.proofs.str.Laws.{order}
use Rattle.std.proofs.lemmas.Grind.{common_steps}
use Rattle.std.proofs.lemmas.List.{take_at, take-take, take_more, get_or-take, get_or_at, length-take-le}
use Rattle.std.proofs.lemmas.List.Sums.{prefix_len-le-length, prefix_len_passes}
use Rattle.std.proofs.lemmas.List.Folds.{length-prefix_len}
use Rattle.stream_tokens.specs.declared.symbol.Symbol.{Symbol as SymbolType}
use Rattle.stream_tokens.specs.declared.token.TokenKind.{TokenKind}
use Rattle.stream_tokens.specs.declared.token.TokenKind.TheVariants.{Name, Number, String, Reference, Symbol, Bad}
use Rattle.stream_tokens.specs.Bytes.{is_blank, is_name_start, is_name_byte, is_long_mark, ends_text}
use Rattle.stream_tokens.specs.Symbols.{spelling_of}
use Rattle.stream_tokens.specs.Scanning.{symbol_at}
use Rattle.stream_tokens.specs.Forms.{IsName, IsMark, HasForm}
use Rattle.stream_tokens.specs.Tokens.{IsLongest, IsBadByte, IsFirstToken}
use Rattle.stream_tokens.proofs.Runs.{run_passed, passes_run, longest_run}
use Rattle.stream_tokens.proofs.Fronts.{kind_of_symbol, kind_at, kind_is}
use Rattle.stream_tokens.proofs.SymbolFronts.{BeginsWith, symbol_begins, symbol_longest}

-- a text whose front decides a kind has no form but that kind's
same_form : (k other : TokenKind) (w : List ℕ) → kind_at w ≡ k → HasForm other w → HasForm k w
same_form k other w e h = subst (λ j. HasForm j w) (sym (kind_is other w h) ∙ e) h

name_front : (a : ℕ) (w : List ℕ) → is_name_start a ≡ true → kind_at (a ∷ w) ≡ Name
name_front a w h = ap (λ b. cond b Name (cond (is_ascii_digit a) Number
    (cond (a == 34) String (cond (a == 36) Reference (kind_of_symbol (symbol_at (a ∷ w))))))) h

number_front : (a : ℕ) (w : List ℕ) → is_name_start a ≡ false → is_ascii_digit a ≡ true → kind_at (a ∷ w) ≡ Number
number_front a w h d =
    ap (λ b. cond b Name (cond (is_ascii_digit a) Number
    (cond (a == 34) String (cond (a == 36) Reference (kind_of_symbol (symbol_at (a ∷ w))))))) h
    ∙ ap (λ b. cond b Number (cond (a == 34) String (cond (a == 36) Reference (kind_of_symbol (symbol_at (a ∷ w)))))) d

symbol_front : (a : ℕ) (w : List ℕ) → is_name_start a ≡ false → is_ascii_digit a ≡ false → (a == 34) ≡ false
    → (a == 36) ≡ false → kind_at (a ∷ w) ≡ kind_of_symbol (symbol_at (a ∷ w))
symbol_front a w h d q r =
    ap (λ b. cond b Name (cond (is_ascii_digit a) Number
    (cond (a == 34) String (cond (a == 36) Reference (kind_of_symbol (symbol_at (a ∷ w))))))) h
    ∙ ap (λ b. cond b Number (cond (a == 34) String (cond (a == 36) Reference (kind_of_symbol (symbol_at (a ∷ w)))))) d
    ∙ ap (λ b. cond b String (cond (a == 36) Reference (kind_of_symbol (symbol_at (a ∷ w))))) q
    ∙ ap (λ b. cond b Reference (kind_of_symbol (symbol_at (a ∷ w)))) r

starts_is_byte : (b : ℕ) → is_name_start b ≡ true → is_name_byte b ≡ true
starts_is_byte b h = grind (arith, common_steps)

-- Names.

pub longest_name : (text : List ℕ) → is_name_start (slice_index text 0) ≡ true
    → IsLongest text Name (prefix_len is_name_byte text)
longest_name [] h = absurd (let e : false ≡ true = h in cc)
longest_name (a ∷ rest) h =
    let more = run_passed is_name_byte a rest (starts_is_byte a h) in
    record {
      within = prefix_len-le-length is_name_byte (a ∷ rest);
      form = subst (λ n. IsName (take n (a ∷ rest))) (sym more) (h, passes_run is_name_byte rest);
      longest = λ other m fits form. name_bound a rest h other m fits form more;
    }
  where
    name_bound : (a : ℕ) (rest : List ℕ) → is_name_start a ≡ true → (other : TokenKind) (m : ℕ) → m ≤ length (a ∷ rest)
        → HasForm other (take m (a ∷ rest)) → prefix_len is_name_byte (a ∷ rest) ≡ suc (prefix_len is_name_byte rest)
        → m ≤ prefix_len is_name_byte (a ∷ rest)
    name_bound a rest h other zero fits form more = omega arith
    name_bound a rest h other (suc j) fits form more =
        let whole = same_form Name other (a ∷ take j rest) (name_front a (take j rest) h) form in
        let bound = longest_run is_name_byte rest j (omega arith) whole.1 in
        omega (arith, more, bound)

-- Numbers.

digits_some : (text : List ℕ) → is_ascii_digit (slice_index text 0) ≡ true → 0 < prefix_len is_ascii_digit text
digits_some [] h = absurd (let e : false ≡ true = h in cc)
digits_some (a ∷ rest) h = let e = run_passed is_ascii_digit a rest h in omega (arith, e)

-- the parts of any number at the front
record NumberAt (text : List ℕ) (m : ℕ) : Type 0 where
  digits : List ℕ
  mark : List ℕ
  is : take m text ≡ digits ++ mark
  size : m ≡ length digits + length mark
  bound : length digits ≤ prefix_len is_ascii_digit text
  ends : IsMark mark

number_at : (text : List ℕ) (other : TokenKind) (m : ℕ) → is_name_start (slice_index text 0) ≡ false
    → is_ascii_digit (slice_index text 0) ≡ true → 0 < m → m ≤ length text → HasForm other (take m text)
    → NumberAt text m
number_at [] other m h d some fits form = absurd (omega arith)
number_at (a ∷ rest) other zero h d some fits form = absurd (omega arith)
number_at (a ∷ rest) other (suc j) h d some fits form =
    let f = same_form Number other (a ∷ take j rest) (number_front a (take j rest) h d) form in
    let size : suc j ≡ length f.0 + length f.1 =
    sym (length-take-le (suc j) (a ∷ rest) fits) ∙ ap length f.2 ∙ length-append f.0 f.1 in
    let front : take (length f.0) (a ∷ rest) ≡ f.0 =
    sym (take-take (length f.0) (suc j) (a ∷ rest) (omega arith)) ∙ ap (take (length f.0)) f.2
    ∙ take_at f.0 f.1 (length f.0) refl in
    record {
      digits = f.0;
      mark = f.1;
      is = f.2;
      size = size;
      bound = longest_run is_ascii_digit (a ∷ rest) (length f.0) (omega arith)
          (ap (list_all is_ascii_digit) front ∙ f.4);
      ends = f.5;
    }

mark_short : (mark : List ℕ) → IsMark mark → length mark ≤ 1
mark_short [] h = omega arith
mark_short (b ∷ []) h = omega arith
mark_short (b ∷ c ∷ bs) h = absurd h

number_form : (text : List ℕ) → is_ascii_digit (slice_index text 0) ≡ true
    → (0 < length (take (prefix_len is_ascii_digit text) text))
    × (list_all is_ascii_digit (take (prefix_len is_ascii_digit text) text) ≡ true)
number_form text d =
    let some = digits_some text d in
    let size = length-prefix_len is_ascii_digit text in
    (omega arith, passes_run is_ascii_digit text)

pub longest_marked : (text : List ℕ) → is_name_start (slice_index text 0) ≡ false
    → is_ascii_digit (slice_index text 0) ≡ true → prefix_len is_ascii_digit text < length text
    → is_long_mark (slice_index text (prefix_len is_ascii_digit text)) ≡ true
    → IsLongest text Number (prefix_len is_ascii_digit text + 1)
longest_marked text h d less mark =
    let n : ℕ = prefix_len is_ascii_digit text in
    let front = number_form text d in
    record {
      within = omega arith;
      form = (take n text, slice_index text n ∷ [], take_more text n 0 less, front.0, front.1, mark);
      longest = λ other m fits form. bound other m fits form;
    }
  where
    bound : (other : TokenKind) (m : ℕ) → m ≤ length text → HasForm other (take m text)
        → m ≤ prefix_len is_ascii_digit text + 1
    bound other zero fits form = omega arith
    bound other (suc j) fits form =
        let at = number_at text other (suc j) h d (omega arith) fits form in
        omega (arith, at.size, at.bound, mark_short at.mark at.ends)

plain_bound : (text : List ℕ) (m : ℕ) (digits mark : List ℕ) → m ≤ length text → take m text ≡ digits ++ mark
    → m ≡ length digits + length mark → length digits ≤ prefix_len is_ascii_digit text → IsMark mark
    → (prefix_len is_ascii_digit text < length text
    → is_long_mark (slice_index text (prefix_len is_ascii_digit text)) ≡ false) → m ≤ prefix_len is_ascii_digit text
plain_bound text m digits [] fits is size bound ends unmarked = omega arith
plain_bound text m digits (b ∷ c ∷ bs) fits is size bound ends unmarked = absurd ends
plain_bound text m digits (b ∷ []) fits is size bound ends unmarked =
    let n : ℕ = prefix_len is_ascii_digit text in
    ⊎_elim
    (λ (less : length digits < n). omega arith)
    (λ (same : n ≤ length digits).
    let at : length digits ≡ n = omega arith in
    let byte : slice_index text n ≡ b = sym (get_or-take m text n 0 (omega arith)) ∙ ap (λ w. slice_index w n) is
    ∙ get_or_at digits b [] 0 n at in
    let not_mark : is_long_mark b ≡ false = ap is_long_mark (sym byte) ∙ unmarked (omega arith) in
    absurd (let e : true ≡ false = sym ends ∙ not_mark in cc))
    (order (length digits) n)

pub longest_plain : (text : List ℕ) → is_name_start (slice_index text 0) ≡ false
    → is_ascii_digit (slice_index text 0) ≡ true
    → (prefix_len is_ascii_digit text < length text
    → is_long_mark (slice_index text (prefix_len is_ascii_digit text)) ≡ false)
    → IsLongest text Number (prefix_len is_ascii_digit text)
longest_plain text h d unmarked =
    let n : ℕ = prefix_len is_ascii_digit text in
    let front = number_form text d in
    record {
      within = prefix_len-le-length is_ascii_digit text;
      form = (take n text, [], sym (append-nil (take n text)), front.0, front.1, tt);
      longest = λ other m fits form. bound other m fits form;
    }
  where
    bound : (other : TokenKind) (m : ℕ) → m ≤ length text → HasForm other (take m text)
        → m ≤ prefix_len is_ascii_digit text
    bound other zero fits form = omega arith
    bound other (suc j) fits form =
        let at = number_at text other (suc j) h d (omega arith) fits form in
        plain_bound text (suc j) at.digits at.mark fits at.is at.size at.bound at.ends unmarked

-- Strings.

abbrev pub stays_inside : ℕ → Bool
stays_inside b = not (ends_text b)

-- the parts of any string at the front
record StringAt (rest : List ℕ) (m : ℕ) : Type 0 where
  inside : List ℕ
  size : m ≡ length inside + 2
  within : length inside < length rest
  bound : length inside ≤ prefix_len stays_inside rest
  closed : slice_index rest (length inside) ≡ 34

string_at : (rest : List ℕ) (other : TokenKind) (m : ℕ) → m ≤ suc (length rest) → HasForm other (take m (34 ∷ rest))
    → 0 < m → StringAt rest m
string_at rest other zero fits form some = absurd (omega arith)
string_at rest other (suc j) fits form some =
    let f = same_form String other (34 ∷ take j rest) refl form in
    let behind : take j rest ≡ f.0 ++ 34 ∷ [] = ap (drop 1) f.1 in
    let size : j ≡ length f.0 + 1 = sym (length-take-le j rest (omega arith)) ∙ ap length behind
    ∙ length-append f.0 (34 ∷ []) in
    let front : take (length f.0) rest ≡ f.0 =
    sym (take-take (length f.0) j rest (omega arith)) ∙ ap (take (length f.0)) behind
    ∙ take_at f.0 (34 ∷ []) (length f.0) refl in
    record {
      inside = f.0;
      size = omega arith;
      within = omega arith;
      bound = longest_run stays_inside rest (length f.0) (omega arith) (ap (list_all stays_inside) front ∙ f.2);
      closed = sym (get_or-take j rest (length f.0) 0 (omega arith)) ∙ ap (λ w. slice_index w (length f.0)) behind
          ∙ get_or_at f.0 34 [] 0 (length f.0) refl;
    }

pub longest_string : (rest : List ℕ) → prefix_len stays_inside rest < length rest
    → slice_index rest (prefix_len stays_inside rest) ≡ 34
    → IsLongest (34 ∷ rest) String (prefix_len stays_inside rest + 2)
longest_string rest less quote =
    let i : ℕ = prefix_len stays_inside rest in
    let two : i + 2 ≡ suc (i + 1) = omega arith in
    record {
      within = omega arith;
      form = (
        take i rest,
        ap (λ n. take n (34 ∷ rest)) two
            ∙ ap (λ w. 34 ∷ w) (take_more rest i 0 less ∙ ap (λ b. take i rest ++ b ∷ []) quote),
        passes_run stays_inside rest,
      );
      longest = λ other m fits form. bound other m fits form;
    }
  where
    bound : (other : TokenKind) (m : ℕ) → m ≤ length (34 ∷ rest) → HasForm other (take m (34 ∷ rest))
        → m ≤ prefix_len stays_inside rest + 2
    bound other zero fits form = omega arith
    bound other (suc j) fits form = let at = string_at rest other (suc j) fits form (omega arith) in
        omega (arith, at.size, at.bound)

-- nothing has no form
pub formed_some : (other : TokenKind) → HasForm other [] → ⊥
formed_some other h = let e : Bad ≡ other = kind_is other [] h in subst (λ k. HasForm k []) (sym e) h

pub open_string : (rest : List ℕ) → (prefix_len stays_inside rest < length rest
    → slice_index rest (prefix_len stays_inside rest) ≡ 34 → ⊥) → IsBadByte (34 ∷ rest) Bad 1
open_string rest unclosed = record {
  within = omega arith;
  solid = refl;
  formless = λ other m fits form. formless other m fits form;
  bad = refl;
  single = refl;
}
  where
    formless : (other : TokenKind) (m : ℕ) → m ≤ length (34 ∷ rest) → HasForm other (take m (34 ∷ rest)) → ⊥
    formless other zero fits form = formed_some other form
    formless other (suc j) fits form =
        let at = string_at rest other (suc j) fits form (omega arith) in
        let n : ℕ = length at.inside in
        let i : ℕ = prefix_len stays_inside rest in
        ⊎_elim
        (λ (less : n < i).
        let stays = prefix_len_passes stays_inside rest n 0 less in
        let e : false ≡ true = ap stays_inside (sym at.closed) ∙ stays in
        cc)
        (λ (more : i ≤ n).
        let same : n ≡ i = omega (arith, at.bound) in
        unclosed (omega (arith, at.within)) (ap (slice_index rest) (sym same) ∙ at.closed))
        (order n i)

-- References.

reference_name : (rest : List ℕ) (other : TokenKind) (j : ℕ) → HasForm other (take (suc j) (36 ∷ rest))
    → IsName (take j rest)
reference_name rest other j form =
    let f = same_form Reference other (36 ∷ take j rest) refl form in
    subst IsName (sym (ap (drop 1) f.1)) f.2

pub longest_reference : (rest : List ℕ) → is_name_start (slice_index rest 0) ≡ true
    → IsLongest (36 ∷ rest) Reference (prefix_len is_name_byte rest + 1)
longest_reference rest h =
    let k : ℕ = prefix_len is_name_byte rest in
    let name = longest_name rest h in
    record {
      within = omega (arith, name.within);
      form = (take k rest, ap (λ n. take n (36 ∷ rest)) (add-one k), name.form);
      longest = λ other m fits form. bound other m fits form;
    }
  where
    bound : (other : TokenKind) (m : ℕ) → m ≤ length (36 ∷ rest) → HasForm other (take m (36 ∷ rest))
        → m ≤ prefix_len is_name_byte rest + 1
    bound other zero fits form = omega arith
    bound other (suc j) fits form =
        let name = longest_name rest h in
        omega (arith, name.longest Name j (omega arith) (reference_name rest other j form))

name_starts : (rest : List ℕ) (j : ℕ) → IsName (take j rest) → is_name_start (slice_index rest 0) ≡ true
name_starts rest zero h = absurd h
name_starts [] (suc j) h = absurd h
name_starts (b ∷ bs) (suc j) h = h.0

pub lone_dollar : (rest : List ℕ) → is_name_start (slice_index rest 0) ≡ false → IsBadByte (36 ∷ rest) Bad 1
lone_dollar rest h = record {
  within = omega arith;
  solid = refl;
  formless = λ other m fits form. formless other m fits form;
  bad = refl;
  single = refl;
}
  where
    formless : (other : TokenKind) (m : ℕ) → m ≤ length (36 ∷ rest) → HasForm other (take m (36 ∷ rest)) → ⊥
    formless other zero fits form = formed_some other form
    formless other (suc j) fits form = let e : false ≡ true =
        sym h ∙ name_starts rest j (reference_name rest other j form) in cc

-- Symbols.

-- the first byte begins no other kind of token
abbrev pub BeginsSymbol : ℕ → Type 0
BeginsSymbol a = (is_name_start a ≡ false) × (is_ascii_digit a ≡ false) × ((a == 34) ≡ false) × ((a == 36) ≡ false)

spelled_by : (w : List ℕ) (o : Option SymbolType) (other : TokenKind) → kind_of_symbol o ≡ other → HasForm other w
    → (s : SymbolType) × (w ≡ spelling_of s)
spelled_by w None other e h = absurd (subst (λ k. HasForm k w) (sym e) h)
spelled_by w (Some s) other e h = (s, subst (λ k. HasForm k w) (sym e) h)

-- a front with a form is a symbol, and the one that is taken is at least as long
symbol_bound : (a : ℕ) (rest : List ℕ) (other : TokenKind) (j : ℕ) → BeginsSymbol a → suc j ≤ length (a ∷ rest)
    → HasForm other (take (suc j) (a ∷ rest))
    → (t : SymbolType) × (symbol_at (a ∷ rest) ≡ Some t) × (suc j ≤ length (spelling_of t))
symbol_bound a rest other j b fits form =
    let w : List ℕ = a ∷ take j rest in
    let s = spelled_by w (symbol_at w) other (sym (symbol_front a (take j rest) b.0 b.1 b.2 b.3) ∙ kind_is other w form)
    form in
    let t = symbol_longest s.0 (drop (suc j) (a ∷ rest)) in
    let whole : spelling_of s.0 ++ drop (suc j) (a ∷ rest) ≡ a ∷ rest =
    ap (λ v. v ++ drop (suc j) (a ∷ rest)) (sym s.1) ∙ take-append-drop (suc j) (a ∷ rest) in
    let size : suc j ≡ length (spelling_of s.0) = sym (length-take-le (suc j) (a ∷ rest) fits) ∙ ap length s.1 in
    (t.0, ap symbol_at (sym whole) ∙ t.1, omega (arith, t.2, size))

some_is : {s t : SymbolType} → Some s ≡ Some t → s ≡ t
some_is e = cc

pub longest_symbol : (a : ℕ) (rest : List ℕ) (s : SymbolType) → BeginsSymbol a → symbol_at (a ∷ rest) ≡ Some s
    → IsLongest (a ∷ rest) (Symbol s) (length (spelling_of s))
longest_symbol a rest s b at =
    let front : BeginsWith (a ∷ rest) (Some s) = subst (BeginsWith (a ∷ rest)) at (symbol_begins a rest) in
    record {
      within = front.0;
      form = front.1;
      longest = λ other m fits form. bound other m fits form;
    }
  where
    bound : (other : TokenKind) (m : ℕ) → m ≤ length (a ∷ rest) → HasForm other (take m (a ∷ rest))
        → m ≤ length (spelling_of s)
    bound other zero fits form = omega arith
    bound other (suc j) fits form =
        let t = symbol_bound a rest other j b fits form in
        let same : t.0 ≡ s = some_is (sym t.1 ∙ at) in
        subst (λ u. suc j ≤ length (spelling_of u)) same t.2

pub no_symbol : (a : ℕ) (rest : List ℕ) → BeginsSymbol a → is_blank a ≡ false → symbol_at (a ∷ rest) ≡ None
    → IsBadByte (a ∷ rest) Bad 1
no_symbol a rest b solid at = record {
  within = omega arith;
  solid = solid;
  formless = λ other m fits form. formless other m fits form;
  bad = refl;
  single = refl;
}
  where
    formless : (other : TokenKind) (m : ℕ) → m ≤ length (a ∷ rest) → HasForm other (take m (a ∷ rest)) → ⊥
    formless other zero fits form = formed_some other form
    formless other (suc j) fits form =
        let t = symbol_bound a rest other j b fits form in
        let e : None ≡ Some t.0 = sym at ∙ t.1 in
        cc

-- Symbols, over the whole text.

pub symbol_taken : (text : List ℕ) (s : SymbolType) → 0 < length text → BeginsSymbol (slice_index text 0)
    → symbol_at text ≡ Some s → IsFirstToken text (Symbol s) (length (spelling_of s))
symbol_taken [] s some b at = absurd (omega arith)
symbol_taken (a ∷ rest) s some b at = inl (longest_symbol a rest s b at)

pub nothing_taken : (text : List ℕ) → 0 < length text → BeginsSymbol (slice_index text 0)
    → is_blank (slice_index text 0) ≡ false → symbol_at text ≡ None → IsFirstToken text Bad 1
nothing_taken [] some b solid at = absurd (omega arith)
nothing_taken (a ∷ rest) some b solid at = inr (no_symbol a rest b solid at)
