-- Condition: which lexemes the fields of a part mean.
use Rattle.std.specs.Prelude.{◌<◌, ◌≤◌, ◌^◌, List, length, option_copied, slice_range}
use Rattle.lambda_expr.specs.declared.lexeme.Lexeme.{Lexeme}
use Rattle.lambda_expr.specs.declared.lexeme.Lexemes.TheInside.{Inside}
use Rattle.lambda_expr.specs.CodeWords.{words_in}
use Rattle.lambda_expr.specs.Lexemes.{lexemes_from}

-- the lexemes of the whole text by its first two names, from `from` up to `to`
abbrev pub part_of : Inside → List Lexeme
part_of l = slice_range (lexemes_from l.cells (option_copied l.first) (option_copied l.second) 0 (words_in l.text.now))
    l.from l.to

pub record IsPart (l : Inside) : Type 0 where
  pub in_order : l.from ≤ l.to
  pub within : l.to ≤ length l.text.now.tokens
  pub fits : l.to < 2 ^ 64
