-- The words of a text, place by place, and those of a part of it.
use Rattle.std.proofs.Common.{◌≡◌, ℕ, suc, ◌+◌, ◌-◌, ◌<◌, ◌≤◌, true, false, List, [], ◌∷◌, length, take, drop, get_or}
use Rattle.std.proofs.Common.{Option, Some, None, refl, sym, ap, ◌∙◌, arith}
use Rattle.std.specs.Prelude.{◌&&◌, is_some, option_map, slice_range}
use Rattle.std.specs.List.{list_all}
use Rattle.std.specs.Option.{unwrap_or}
use Rattle.std.proofs.lemmas.List.{drop_more, drop-drop}
use Rattle.stream_tokens.specs.declared.token.Token.{Token}
use Rattle.stream_tokens.specs.Tokens.{AreTokensOf, CutBetween}
use Rattle.stream_tokens.specs.CutTexts.{TokenizedText, shifted, between}
use Rattle.stream_tokens.proofs.CutTextLemmas.{cut_bound, part_between, part_of}
use Rattle.lambda_expr.specs.Words.{Word, bad, named, word_for, word_of, words_of}
use Rattle.lambda_expr.specs.CodeWords.{words_in}
use Rattle.job_language.specs.Grammar.{is_sound}
use Rattle.job_language.specs.Shapes.{begins_job, first_name}
use Rattle.job_language.specs.Table.{has_words, name_in}

words_drop : (text : List ℕ) (n : ℕ) (ts : List Token) → words_of text (drop n ts) ≡ drop n (words_of text ts)
words_drop text (suc n) (t ∷ ts) = words_drop text n ts
words_drop text x ts = refl

words_take : (text : List ℕ) (n : ℕ) (ts : List Token) → words_of text (take n ts) ≡ take n (words_of text ts)
words_take text (suc n) (t ∷ ts) = ap (λ vs. word_of text t ∷ vs) (words_take text n ts)
words_take text x ts = refl

words_slice : (text : List ℕ) (ts : List Token) (a b : ℕ)
    → words_of text (slice_range ts a b) ≡ slice_range (words_of text ts) a b
words_slice text ts a b = words_take text (b - a) (drop a ts) ∙ ap (take (b - a)) (words_drop text a ts)

-- words are the same in a part of the text
words_from : (text : List ℕ) (a c b : ℕ) (ts : List Token) → a ≤ c → CutBetween text c ts b
    → words_of (slice_range text a b) (shifted a ts) ≡ words_of text ts
words_from text a c b [] h k = refl
words_from text a c b (t ∷ ts) h k =
    let low = k.0 in
    let some = k.2 in
    ap (λ w. word_for t.kind w ∷ words_of (slice_range text a b) (shifted a ts))
    (part_of text a b t.from t.to (omega arith) (omega arith) (cut_bound text t.to ts b k.4))
    ∙ ap (λ v. word_of text t ∷ v) (words_from text a t.to b ts (omega arith) k.4)

words_between : (t : TokenizedText) (i j : ℕ) (d : Token) → AreTokensOf t.tokens t.bytes → i < j → j < length t.tokens
    → words_in (between t (get_or t.tokens i d) (get_or t.tokens j d) i j) ≡ slice_range (words_in t) (i + 1) j
words_between t i j d cut lt less =
    let a = (get_or t.tokens i d).to in
    words_from t.bytes a a (get_or t.tokens j d).from (slice_range t.tokens (i + 1) j) (omega arith)
    (part_between t.bytes 0 (length t.bytes) t.tokens i j d lt less cut)
    ∙ words_slice t.bytes t.tokens (i + 1) j

slice_after : (ws : List Word) (o a b : ℕ) → slice_range ws (o + a + 1) (o + 1 + b) ≡ slice_range (drop (o + 1) ws) a b
slice_after ws o a b =
    let e : o + 1 + b - (o + a + 1) ≡ b - a = omega arith in
    let f : o + a + 1 ≡ o + 1 + a = omega arith in
    ap (λ n. take n (drop (o + a + 1) ws)) e ∙ ap (take (b - a)) (ap (λ n. drop n ws) f ∙ sym (drop-drop a (o + 1) ws))

-- a part of a call, counted from the word after its parenthesis
pub part_words : (t : TokenizedText) (o a b : ℕ) (d : Token) → AreTokensOf t.tokens t.bytes → a ≤ b
    → o + 1 + b < length t.tokens → words_in
    (between t (get_or t.tokens (o + a) d) (get_or t.tokens (o + 1 + b) d) (o + a) (o + 1 + b))
    ≡ slice_range (drop (o + 1) (words_in t)) a b
part_words t o a b d cut le less = words_between t (o + a) (o + 1 + b) d cut (omega arith) less
    ∙ slice_after (words_in t) o a b

pub some_words : (ws : List Word) → (length ws ≡ 0 → ⊥) → true ≡ has_words ws
some_words [] h = absurd (h refl)
some_words (a ∷ ws) h = refl

pub none_words : (ws : List Word) → length ws ≡ 0 → false ≡ has_words ws
none_words [] h = refl
none_words (a ∷ ws) h = absurd (omega arith)

-- what the first words say
pub begins_two : (ws : List Word) → begins_job (get_or ws 0 bad ∷ get_or ws 1 bad ∷ drop 2 ws) ≡ begins_job ws
begins_two [] = refl
begins_two (named n ∷ []) = refl
begins_two (a ∷ []) = refl
begins_two (a ∷ b ∷ ws) = refl

pub first_is : (ws : List Word) → unwrap_or (name_in (get_or ws 0 bad ∷ [])) [] ≡ first_name ws
first_is [] = refl
first_is (named n ∷ ws) = refl
first_is (a ∷ ws) = refl

-- whether the words from a place on are sound, word by word
pub sound_on : (ws : List Word) (i : ℕ) (w : Word) → i < length ws → w ≡ get_or ws i bad
    → list_all is_sound ws ≡ list_all is_sound (drop i ws)
    → list_all is_sound ws ≡ is_sound w && list_all is_sound (drop (i + 1) ws)
sound_on ws i w lt is h = h ∙ ap (list_all is_sound) (drop_more ws i bad lt ∙ ap (λ v. v ∷ drop (i + 1) ws) (sym is))

-- a word that is read of some words
pub is_mapped : {A B : Type 0} (f : A → B) (o : Option A) → is_some o ≡ is_some (option_map f o)
is_mapped f None = refl
is_mapped f (Some x) = refl

pub unwrap_mapped : {A B : Type 0} (f : A → B) (o : Option A) (d : A)
    → f (unwrap_or o d) ≡ unwrap_or (option_map f o) (f d)
unwrap_mapped f None d = refl
unwrap_mapped f (Some x) d = refl
