-- Each text with tokens has an answer.
use Rattle.std.proofs.Common.{◌≢◌, ◌⊎◌, inl, inr, ℕ, suc, max, ◌<◌, ◌≤◌, Bool, true, false, nat_lt, not, List, length}
use Rattle.std.proofs.Common.{Option, Some, None, Result, Ok, Err, refl, ⊎_elim}
use Rattle.std.proofs.str.Laws.{order}
use Rattle.std.specs.Prelude.{if◌then◌else◌}
use Rattle.stream_tokens.specs.declared.token.Token.{Token}
use Rattle.stream_tokens.specs.Tokens.{AreTokensOf}
use Rattle.lambda_expr.specs.declared.fault.ReadFault.{ReadFault}
use Rattle.lambda_expr.specs.declared.fault.ReadFault.TheVariants as fault
use Rattle.lambda_values.specs.declared.lambda.PairForm.{PairForm}
use Rattle.lambda_expr.specs.declared.want.Want.{Want}
use Rattle.lambda_expr.specs.declared.want.Want.TheVariants as want
use Rattle.lambda_expr.specs.declared.source.StreamSource.{StreamSource}
use Rattle.lambda_expr.specs.Checks.{depth, fit, literals, names_known}
use Rattle.lambda_expr.specs.Heads.{ALambda, BodyShape, expression, operands, parameters}
use Rattle.lambda_expr.specs.Lexemes.{Names, lexemes_of, names_in}
use Rattle.lambda_values.specs.Lambda.{AbstractLambda}
use Rattle.lambda_expr.specs.Refusals.{Judged, IsRefusedWithin, column, lambda_of, streamed, verdict, wanted}
use Rattle.lambda_expr.specs.Stops.{StopsAt}
use Rattle.lambda_expr.specs.StreamChecks.{all_fit, all_known, deepest, numbers, stream_of}
use Rattle.lambda_values.specs.Streams.{Inner}
use Rattle.lambda_values.specs.Term.{Long}
use Rattle.lambda_expr.specs.Typing.{Typed, long, boolean}
use Rattle.lambda_expr.proofs.Heads.{each_lambda}

-- what a verdict may be
abbrev IsVerdict : Result AbstractLambda ReadFault → Type 0
IsVerdict (Err (fault.Syntax n)) = ⊥
IsVerdict (Err fault.NoMemory) = ⊥
IsVerdict x = Unit {0}

wanted_verdict : (w : Want) (t : Typed) (f : PairForm) → IsVerdict (wanted w t f)
wanted_verdict want.Long (long a) f = tt
wanted_verdict want.Bool (boolean a) f = tt
wanted_verdict want.Pair (long a) f = tt
wanted_verdict w t f = tt

either_verdict : (b : Bool) (r s : Result AbstractLambda ReadFault) → IsVerdict r → IsVerdict s
    → IsVerdict (if b then r else s)
either_verdict true r s h k = h
either_verdict false r s h k = k

lambda_verdict : (g : Option Inner) → IsVerdict (lambda_of g)
lambda_verdict None = tt
lambda_verdict (Some g) = tt

streamed_verdict : (s : StreamSource) (o : Option (List Long)) → IsVerdict (streamed s o)
streamed_verdict s None = tt
streamed_verdict s (Some es) = lambda_verdict (stream_of s es)

is_verdict : (w : Want) (h : Names) (b : BodyShape) → IsVerdict (verdict w h b)
is_verdict w h (operands s es) = either_verdict (not (all_fit es)) _ _ tt
    (either_verdict (nat_lt 64 (max (suc (deepest es)) (length es))) _ _ tt
    (either_verdict (not (all_known 1 es)) _ _ tt (streamed_verdict s (numbers h es))))
is_verdict w h (expression e) = either_verdict (not (fit (literals e))) _ _ tt
    (either_verdict (nat_lt 64 (depth e)) _ _ tt
    (either_verdict (not (names_known (parameters w) e)) _ _ tt (wanted_verdict w _ _)))

-- a lambda or a refusal
abbrev pub HasAnswer : Bool → List ℕ → Want → Type 0
HasAnswer cells text w = ((t : AbstractLambda) × Judged cells text w (Ok t))
    ⊎ ((f : ReadFault) × (f ≢ fault.NoMemory) × IsRefusedWithin cells text w f)

by_verdict : (cells : Bool) (text : List ℕ) (w : Want) (r : Result AbstractLambda ReadFault) → IsVerdict r
    → Judged cells text w r → HasAnswer cells text w
by_verdict cells text w (Ok t) v j = inl (t, j)
by_verdict cells text w (Err fault.WrongType) v j = inr (fault.WrongType, (λ e. cc), j)
by_verdict cells text w (Err fault.UnknownName) v j = inr (fault.UnknownName, (λ e. cc), j)
by_verdict cells text w (Err fault.TooDeep) v j = inr (fault.TooDeep, (λ e. cc), inr j)
by_verdict cells text w (Err fault.LiteralTooLarge) v j = inr (fault.LiteralTooLarge, (λ e. cc), j)
by_verdict cells text w x v j = absurd v

by_words : (cells : Bool) (text : List ℕ) (ts : List Token) (w : Want) → AreTokensOf ts text → length ts ≤ 4096
    → ALambda w (lexemes_of cells text ts) ⊎ ((n : ℕ) × StopsAt (ALambda w) (lexemes_of cells text ts) n)
    → HasAnswer cells text w
by_words cells text ts w cut few (inl l) =
    by_verdict cells text w (verdict w (names_in text ts) l.0) (is_verdict w (names_in text ts) l.0)
    (record { body = l.0; spelled = record { tokens = ts; cut = cut; few = few; lambda = l.1 }; gives = refl })
by_words cells text ts w cut few (inr s) =
    inr (
      fault.Syntax (column text ts s.0),
      (λ e. cc),
      record { tokens = ts; cut = cut; few = few; place = s.0; stops = s.1; here = refl },
    )

pub each_text : (cells : Bool) (text : List ℕ) (ts : List Token) (w : Want) → AreTokensOf ts text
    → HasAnswer cells text w
each_text cells text ts w cut =
    ⊎_elim (λ (many : 4096 < length ts). inr
    (fault.TooDeep, (λ e. cc), inl (record { tokens = ts; cut = cut; many = many })))
    (λ (few : length ts ≤ 4096). by_words cells text ts w cut few (each_lambda w (lexemes_of cells text ts)))
    (order 4096 (length ts))
