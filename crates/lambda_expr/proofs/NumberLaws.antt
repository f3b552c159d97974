-- Tokens have one answer as a number.
use Rattle.std.proofs.Common.{◌≡◌, ℕ, ℤ, List, Some, None, refl, sym, ap, ◌∙◌}
use Rattle.stream_tokens.specs.declared.token.Token.{Token}
use Rattle.lambda_expr.specs.declared.fault.ReadFault.{ReadFault}
use Rattle.lambda_expr.specs.declared.fault.ReadFault.TheVariants as fault
use Rattle.lambda_expr.specs.Words.{words_of}
use Rattle.lambda_expr.specs.Refusals.{column}
use Rattle.lambda_expr.specs.Numbers.{ANumber, SpellsNumber, IsTooLarge, StopsAtColumn, IsNumberRefused}
use Rattle.lambda_expr.proofs.OneStop.{one_place}

pub same_number : (text : List ℕ) (ts : List Token) (y z : ℤ) → SpellsNumber text ts y → SpellsNumber text ts z → y ≡ z
same_number text ts y z s t = let e : Some y ≡ Some z = sym s.value ∙ t.value in cc

large_or_fits : (text : List ℕ) (ts : List Token) (z : ℤ) → SpellsNumber text ts z → IsTooLarge text ts → ⊥
large_or_fits text ts z s t = let e : Some z ≡ None = sym s.value ∙ t.outside in cc

large_or_stops : (text : List ℕ) (ts : List Token) (at : ℕ) → IsTooLarge text ts → StopsAtColumn text ts at → ⊥
large_or_stops text ts at t s = s.stops.outside t.number

pub same_fault : (text : List ℕ) (ts : List Token) (f g : ReadFault) → IsNumberRefused text ts f
    → IsNumberRefused text ts g → f ≡ g
same_fault text ts (fault.Syntax at) (fault.Syntax to) h k =
    let place = one_place ANumber (words_of text ts) h.place k.place h.stops k.stops in
    ap fault.Syntax (h.here ∙ ap (column text ts) place ∙ sym k.here)
same_fault text ts (fault.Syntax at) fault.LiteralTooLarge h k = absurd (large_or_stops text ts at k h)
same_fault text ts fault.LiteralTooLarge (fault.Syntax at) h k = absurd (large_or_stops text ts at h k)
same_fault text ts fault.LiteralTooLarge fault.LiteralTooLarge h k = refl
same_fault text ts f fault.WrongType h k = absurd k
same_fault text ts f fault.UnknownName h k = absurd k
same_fault text ts f fault.TooDeep h k = absurd k
same_fault text ts f fault.NoMemory h k = absurd k
same_fault text ts fault.WrongType g h k = absurd h
same_fault text ts fault.UnknownName g h k = absurd h
same_fault text ts fault.TooDeep g h k = absurd h
same_fault text ts fault.NoMemory g h k = absurd h

pub never_both : (text : List ℕ) (ts : List Token) (z : ℤ) (f : ReadFault) → SpellsNumber text ts z
    → IsNumberRefused text ts f → ⊥
never_both text ts z (fault.Syntax at) s h = h.stops.outside s.number
never_both text ts z fault.LiteralTooLarge s h = large_or_fits text ts z s h
never_both text ts z x s h = h
