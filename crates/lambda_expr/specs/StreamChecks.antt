-- Meaning: what the operands of an inner stream are refused for, and the stream that they give.
use Rattle.std.specs.Prelude.{ℕ, max, Bool, true, ◌&&◌, List, [], ◌∷◌, Option, Some, None}
use Rattle.lambda_expr.specs.declared.source.StreamSource.{StreamSource}
use Rattle.lambda_expr.specs.declared.source.StreamSource.TheVariants as source
use Rattle.lambda_expr.specs.Checks.{depth, fit, literals, names_known}
use Rattle.lambda_expr.specs.Grammar.{Shape}
use Rattle.lambda_expr.specs.Lexemes.{Names}
use Rattle.lambda_values.specs.Streams.{Inner, range, range_closed, values}
use Rattle.lambda_values.specs.Term.{Long}
use Rattle.lambda_expr.specs.Typing.{Typed, typed, long}

-- the numbers of each operand fit
abbrev pub all_fit : List Shape → Bool
all_fit [] = true
all_fit (e ∷ es) = fit (literals e) && all_fit es

-- the depth of the deepest operand, 0 if there is none
abbrev pub deepest : List Shape → ℕ
deepest [] = 0
deepest (e ∷ es) = max (depth e) (deepest es)

-- each name of each operand is one of n parameters, a method or a constant
abbrev pub all_known : ℕ → List Shape → Bool
all_known n [] = true
all_known n (e ∷ es) = names_known n e && all_known n es

-- helper: one more number before others, if it is one
abbrev pub and_number : Typed → Option (List Long) → Option (List Long)
and_number (long a) (Some es) = Some (a ∷ es)
and_number t es = None

-- the numeric expressions that operands spell, if each of them spells one
abbrev pub numbers : Names → List Shape → Option (List Long)
numbers h [] = Some []
numbers h (e ∷ es) = and_number (typed h e) (numbers h es)

-- the inner stream of a source and its operands; a range has two, and `empty()` gives what `of()` gives
abbrev pub stream_of : StreamSource → List Long → Option Inner
stream_of source.Range (a ∷ b ∷ []) = Some (range a b)
stream_of source.RangeClosed (a ∷ b ∷ []) = Some (range_closed a b)
stream_of source.Of es = Some (values es)
stream_of source.Empty es = Some (values es)
stream_of s es = None
