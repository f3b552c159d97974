-- The words of a list of tokens, place by place.
use Rattle.std.proofs.Common.{◌≡◌, ℕ, zero, suc, ◌<◌, ◌≤◌, List, [], ◌∷◌, length, get_or, refl, sym, ap, ◌∙◌, arith}
use Rattle.stream_tokens.specs.declared.token.Token.{Token}
use Rattle.stream_tokens.specs.declared.token.TokenKind.{TokenKind}
use Rattle.stream_tokens.specs.declared.token.TokenKind.TheVariants as kind
use Rattle.stream_tokens.specs.CutTexts.{TokenizedText}
use Rattle.stream_tokens.specs.Tokens.{token_text}
use Rattle.lambda_expr.specs.Words.{named, bad, word_of, words_of, word_for}
use Rattle.lambda_expr.specs.CodeWords.{words_in}

pub length-words_of : (text : List ℕ) (ts : List Token) → length (words_of text ts) ≡ length ts
length-words_of text [] = refl
length-words_of text (t ∷ ts) = ap suc (length-words_of text ts)

pub get_or-words_of : (text : List ℕ) (ts : List Token) (i : ℕ) (d : Token) → i < length ts
    → get_or (words_of text ts) i bad ≡ word_of text (get_or ts i d)
get_or-words_of text [] i d h = absurd (omega arith)
get_or-words_of text (t ∷ ts) zero d h = refl
get_or-words_of text (t ∷ ts) (suc i) d h = let k : i < length ts = omega arith in get_or-words_of text ts i d k

-- what the word of a token says of the token
pub named_kind : (k : TokenKind) (bytes p : List ℕ) → word_for k bytes ≡ named p → k ≡ kind.Name
named_kind kind.Name bytes p h = refl
named_kind x bytes p h = cc

pub named_bytes : (k : TokenKind) (bytes p : List ℕ) → word_for k bytes ≡ named p → bytes ≡ p
named_bytes kind.Name bytes p h = cc
named_bytes x bytes p h = cc

-- the word at a place, from its kind and its bytes
pub word_there : (text : List ℕ) (ts : List Token) (i : ℕ) (d : Token) (k : TokenKind) (bytes : List ℕ) → i < length ts
    → k ≡ (get_or ts i d).kind → bytes ≡ token_text text (get_or ts i d)
    → get_or (words_of text ts) i bad ≡ word_for k bytes
word_there text ts i d k bytes lt same is =
    get_or-words_of text ts i d lt ∙ sym (ap (λ k. word_for k bytes) same ∙ ap (word_for (get_or ts i d).kind) is)

pub past_words : (text : List ℕ) (ts : List Token) (i : ℕ) → length ts ≤ i → get_or (words_of text ts) i bad ≡ bad
past_words text [] i h = refl
past_words text (t ∷ ts) zero h = absurd (omega arith)
past_words text (t ∷ ts) (suc i) h = let k : length ts ≤ i = omega arith in past_words text ts i k

pub count_words : (t : TokenizedText) (n : ℕ) → n ≡ length t.tokens → n ≡ length (words_in t)
count_words t n h = h ∙ sym (length-words_of t.bytes t.tokens)
