-- What is collected of a call: its numbers, its last part.
use Rattle.std.proofs.Common.{◌≡◌, ◌≢◌, ℕ, suc, ◌+◌, ◌<◌, List, [], ◌∷◌, ◌++◌, length, drop, get_or, None, Err, refl}
use Rattle.std.proofs.Common.{sym, ap, ◌∙◌, arith}
use Rattle.std.proofs.lemmas.List.{drop_more}
use Rattle.stream_tokens.specs.declared.symbol.Symbol.TheVariants as symbol
use Rattle.lambda_expr.specs.Words.{Word, named, numeral, quoted, sign}
use Rattle.lambda_expr.specs.Refusals.{IsRefusedWithin}
use Rattle.lambda_expr.specs.declared.fault.ReadFault.{ReadFault}
use Rattle.lambda_expr.specs.declared.fault.ReadFault.TheVariants as fault
use Rattle.lambda_expr.specs.declared.want.Want.{Want}
use Rattle.job_language.specs.declared.operation.Operation.{Operation}
use Rattle.job_language.specs.declared.fault.Cause.{Cause}
use Rattle.job_language.specs.declared.fault.Cause.TheVariants as cause
use Rattle.job_language.specs.Table.{name_in, param_of, places_in, string_in}
use Rattle.job_language.specs.FaultCauses.{cause_of}
use Rattle.job_language.specs.Causes.{Scope, number_in, numbers_of}
use Rattle.job_language.specs.Operators.{method_in}
use Rattle.job_language.specs.Arguments.{IsLambdaRead, reads_cells}

-- the numbers of a call from a part on
pub values_more : (o : Operation) (n i : ℕ) (xs : List (List Word)) → i < length xs
    → numbers_of o n i (drop i xs) ≡ number_in (param_of o n i) (get_or xs i []) ++ numbers_of o n (i + 1)
    (drop (i + 1) xs)
values_more o n i xs lt =
    let e : suc i ≡ i + 1 = omega arith in
    ap (λ v. numbers_of o n i v) (drop_more xs i [] lt)
    ∙ ap (λ k. number_in (param_of o n i) (get_or xs i []) ++ numbers_of o n k (drop (i + 1) xs)) e

-- words too few or too many for a name, a string or places
pub no_string : (ws : List Word) → (length ws ≡ 1 → ⊥) → None ≡ string_in ws
no_string [] h = refl
no_string (a ∷ []) h = absurd (h refl)
no_string (quoted w ∷ b ∷ ws) h = refl
no_string (a ∷ b ∷ ws) h = refl

pub no_places : (ws : List Word) → (length ws ≡ 1 → ⊥) → None ≡ places_in ws
no_places [] h = refl
no_places (a ∷ []) h = absurd (h refl)
no_places (numeral w ∷ b ∷ ws) h = refl
no_places (a ∷ b ∷ ws) h = refl

pub no_name : (ws : List Word) → (length ws ≡ 1 → ⊥) → None ≡ name_in ws
no_name [] h = refl
no_name (a ∷ []) h = absurd (h refl)
no_name (named w ∷ b ∷ ws) h = refl
no_name (a ∷ b ∷ ws) h = refl

-- words too few or too many for a method
pub no_method : (ws : List Word) → (length ws ≡ 3 → ⊥) → None ≡ method_in ws
no_method [] h = refl
no_method (named v ∷ []) h = refl
no_method (a ∷ []) h = refl
no_method (named v ∷ sign symbol.DoubleColon ∷ []) h = refl
no_method (a ∷ b ∷ []) h = refl
no_method (a ∷ b ∷ c ∷ []) h = absurd (h refl)
no_method (named v ∷ sign symbol.DoubleColon ∷ named w ∷ d ∷ ws) h = refl
no_method (a ∷ b ∷ c ∷ d ∷ ws) h = refl

-- a lambda that is refused
pub lambda_refused : (s : Scope) (text : List ℕ) (w : Want) (f : ReadFault) (e : Cause)
    → IsRefusedWithin (reads_cells s) text w f → e ≡ cause_of f → e ≢ cause.NoMemory → IsLambdaRead s text w (Err e)
lambda_refused s text w fault.NoMemory e h is other = absurd (other is)
lambda_refused s text w f e h is other = (Err f, h, ap Err (sym is))
