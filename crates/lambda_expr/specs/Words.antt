-- Meaning: what the tokens of a text are to a grammar.
use Rattle.std.specs.Prelude.{ℕ, List, [], ◌∷◌}
use Rattle.stream_tokens.specs.declared.symbol.Symbol.{Symbol}
use Rattle.stream_tokens.specs.declared.token.Token.{Token}
use Rattle.stream_tokens.specs.declared.token.TokenKind.{TokenKind}
use Rattle.stream_tokens.specs.declared.token.TokenKind.TheVariants as kind
use Rattle.stream_tokens.specs.Tokens.{token_text}

-- a word of a text: a name, a number, a string and a reference with their bytes, a symbol by itself
pub data Word : Type 0 where
  named : List ℕ → Word
  numeral : List ℕ → Word
  quoted : List ℕ → Word
  referred : List ℕ → Word
  sign : Symbol → Word
  bad : Word

-- helper: the word of a token of this kind with these bytes
abbrev pub word_for : TokenKind → List ℕ → Word
word_for kind.Name bytes = named bytes
word_for kind.Number bytes = numeral bytes
word_for kind.String bytes = quoted bytes
word_for kind.Reference bytes = referred bytes
word_for (kind.Symbol s) bytes = sign s
word_for kind.Bad bytes = bad

abbrev pub word_of : List ℕ → Token → Word
word_of text t = word_for t.kind (token_text text t)

-- the words of a text that was cut into these tokens
abbrev pub words_of : List ℕ → List Token → List Word
words_of text [] = []
words_of text (t ∷ ts) = word_of text t ∷ words_of text ts
