-- Meaning: the bodies of lambdas that give a stream: a source and its operands.
use Rattle.std.specs.Prelude.{◌≡◌, ℕ, List, [], ◌∷◌, ◌++◌, length, Option, Some, None}
use Rattle.lambda_expr.specs.declared.source.StreamSource.{StreamSource}
use Rattle.lambda_expr.specs.declared.source.StreamSource.TheVariants as source
use Rattle.lambda_expr.specs.declared.lexeme.Lexeme.{Lexeme}
use Rattle.lambda_expr.specs.declared.lexeme.Lexeme.TheVariants as word
use Rattle.lambda_expr.specs.declared.lexeme.Name.TheVariants.{Plain, LongStream}
use Rattle.lambda_expr.specs.declared.table.Member.{Member}
use Rattle.lambda_expr.specs.declared.table.Member.TheVariants as member
use Rattle.lambda_expr.specs.declared.sign.Sign.TheVariants.{Comma}
use Rattle.lambda_expr.specs.Grammar.{Shape, Binds, spells}

-- the source that a name is of
abbrev pub source_of : Member → Option StreamSource
source_of (member.Source s) = Some s
source_of m = None

-- how many operands a source has: ranges have two, `empty` has none
abbrev pub Takes : StreamSource → ℕ → Type 0
Takes source.Range n = n ≡ 2
Takes source.RangeClosed n = n ≡ 2
Takes source.Of n = Unit {0}
Takes source.Empty n = n ≡ 0

-- operands after others, each after a comma, and the parenthesis that closes
abbrev pub further : List Shape → List Lexeme
further [] = word.Close ∷ []
further (e ∷ es) = word.Sign Comma ∷ (spells e ++ further es)

-- operands with commas between them, and the parenthesis that closes
abbrev pub listed : List Shape → List Lexeme
listed [] = word.Close ∷ []
listed (e ∷ es) = spells e ++ further es

abbrev pub AreBound : List Shape → Type 0
AreBound [] = Unit {0}
AreBound (e ∷ es) = Binds 1 e × AreBound es

-- the words are the operands of this source, and the parenthesis that closes
pub record AreOperands (s : StreamSource) (es : List Shape) (ws : List Lexeme) : Type 0 where
  pub count : Takes s (length es)
  pub bound : AreBound es
  pub spelled : listed es ≡ ws

-- the words are `( E , .. )`, as the operands of this source
abbrev pub IsOpened : StreamSource → List Shape → List Lexeme → Type 0
IsOpened s es [] = ⊥
IsOpened s es (word.Open ∷ ws) = AreOperands s es ws
IsOpened s es (w ∷ ws) = ⊥

-- the words are `NAME ( E , .. )`
abbrev pub IsNamed : StreamSource → List Shape → List Lexeme → Type 0
IsNamed s es [] = ⊥
IsNamed s es (word.Name (Plain i) ∷ ws) = (source_of i.member ≡ Some s) × IsOpened s es ws
IsNamed s es (w ∷ ws) = ⊥

-- the words are `. NAME ( E , .. )`
abbrev pub IsDotted : StreamSource → List Shape → List Lexeme → Type 0
IsDotted s es [] = ⊥
IsDotted s es (word.Dot ∷ ws) = IsNamed s es ws
IsDotted s es (w ∷ ws) = ⊥

-- the words are `NAME ( E , .. )` or `LongStream . NAME ( E , .. )` (`java.util.stream.LongStream`)
abbrev pub IsStream : StreamSource → List Shape → List Lexeme → Type 0
IsStream s es [] = ⊥
IsStream s es (word.Name LongStream ∷ ws) = IsDotted s es ws
IsStream s es (w ∷ ws) = IsNamed s es (w ∷ ws)
