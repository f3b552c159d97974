-- Condition: which words the words of the program mean.
use Rattle.std.specs.Prelude.{List}
use Rattle.stream_tokens.specs.CutTexts.{TokenizedText}
use Rattle.lambda_expr.specs.Words.{Word, named, numeral, quoted, referred, sign, bad, words_of}
use Rattle.lambda_expr.specs.declared.word.Word as code
use Rattle.lambda_expr.specs.declared.word.Word.TheVariants as code_word

abbrev pub word_of : code.Word → Word
word_of (code_word.Name w) = named w.now
word_of (code_word.Number w) = numeral w.now
word_of (code_word.Text w) = quoted w.now
word_of (code_word.Reference w) = referred w.now
word_of (code_word.Sign s) = sign s
word_of code_word.Bad = bad

-- the words of a text with its tokens
abbrev pub words_in : TokenizedText → List Word
words_in t = words_of t.bytes t.tokens
