-- Each text has one answer.
use Rattle.std.proofs.Common.{◌≡◌, ◌≢◌, ℕ, ◌≤◌, Bool, inl, inr, List, length, Result, Ok, Err, refl, sym, ap, subst}
use Rattle.std.proofs.Common.{◌∙◌, arith}
use Rattle.stream_tokens.specs.declared.token.Token.{Token}
use Rattle.stream_tokens.specs.Tokens.{AreTokensOf}
use Rattle.stream_tokens.proofs.CutLemmas.{same_tokens}
use Rattle.lambda_expr.specs.declared.fault.ReadFault.{ReadFault}
use Rattle.lambda_expr.specs.declared.fault.ReadFault.TheVariants as fault
use Rattle.lambda_expr.specs.declared.want.Want.{Want}
use Rattle.lambda_values.specs.declared.lambda.Lambda.{Lambda}
use Rattle.lambda_expr.specs.Lexemes.{lexemes_of, names_in}
use Rattle.lambda_expr.specs.Stops.{StopsAt}
use Rattle.lambda_expr.specs.Heads.{ALambda, IsLambda}
use Rattle.lambda_values.specs.Lambda.{AbstractLambda, body_of}
use Rattle.lambda_expr.specs.Refusals.{verdict, Judged, IsNoLambda, HasTooManyTokens, column, SpellsLambdaWithin}
use Rattle.lambda_expr.specs.Refusals.{IsRefusedWithin}
use Rattle.lambda_expr.proofs.OneStop.{one_place}
use Rattle.lambda_expr.proofs.Lambdas.{one_lambda}

-- what a text gives, memory aside
pub data Outcome (cells : Bool) (text : List ℕ) (want : Want) (r : Result AbstractLambda ReadFault) : Type 0 where
  many : HasTooManyTokens text → r ≡ Err fault.TooDeep → Outcome cells text want r
  outside : (at : ℕ) → IsNoLambda cells text want at → r ≡ Err (fault.Syntax at) → Outcome cells text want r
  judged : Judged cells text want r → Outcome cells text want r

one_cut : (text : List ℕ) (ts us : List Token) → AreTokensOf ts text → AreTokensOf us text → ts ≡ us
one_cut text ts us h k = same_tokens text 0 ts us (length text) h k

few_or_many : (text : List ℕ) (ts : List Token) → AreTokensOf ts text → length ts ≤ 4096 → HasTooManyTokens text → ⊥
few_or_many text ts cut few m =
    let same : length m.tokens ≡ length ts = ap length (one_cut text m.tokens ts m.cut cut) in
    omega (arith, m.many)

in_or_out : (cells : Bool) (text : List ℕ) (want : Want) (r : Result AbstractLambda ReadFault) (at : ℕ)
    → Judged cells text want r → IsNoLambda cells text want at → ⊥
in_or_out cells text want r at j n =
    let ts = j.spelled.tokens in
    let out = subst (λ us. ALambda want (lexemes_of cells text us) → ⊥) (one_cut text n.tokens ts n.cut j.spelled.cut)
    n.stops.outside in
    out (j.body, j.spelled.lambda)

one_column : (cells : Bool) (text : List ℕ) (want : Want) (a b : ℕ) → IsNoLambda cells text want a
    → IsNoLambda cells text want b → a ≡ b
one_column cells text want a b m n =
    let same : n.tokens ≡ m.tokens = one_cut text n.tokens m.tokens n.cut m.cut in
    let there = subst (λ us. StopsAt (ALambda want) (lexemes_of cells text us) n.place) same n.stops in
    let place : m.place ≡ n.place = one_place (ALambda want) (lexemes_of cells text m.tokens) m.place n.place m.stops
    there in
    m.here ∙ ap (column text m.tokens) place ∙ ap (λ us. column text us n.place) (sym same) ∙ sym n.here

one_judgement : (cells : Bool) (text : List ℕ) (want : Want) (r s : Result AbstractLambda ReadFault)
    → Judged cells text want r → Judged cells text want s → r ≡ s
one_judgement cells text want r s j k =
    let same : k.spelled.tokens ≡ j.spelled.tokens =
    one_cut text k.spelled.tokens j.spelled.tokens k.spelled.cut j.spelled.cut in
    let there = subst (λ us. IsLambda want (lexemes_of cells text us) k.body) same k.spelled.lambda in
    let one = one_lambda (lexemes_of cells text j.spelled.tokens) want j.body k.body j.spelled.lambda there in
    sym j.gives ∙ ap (λ us. verdict want (names_in text us) j.body) (sym same)
    ∙ ap (verdict want (names_in text k.spelled.tokens)) one ∙ k.gives

pub one_outcome : (cells : Bool) (text : List ℕ) (want : Want) (r s : Result AbstractLambda ReadFault)
    → Outcome cells text want r → Outcome cells text want s → r ≡ s
one_outcome cells text want r s (many m e) (many n f) = e ∙ sym f
one_outcome cells text want r s (many m e) (outside at n f) = absurd (few_or_many text n.tokens n.cut n.few m)
one_outcome cells text want r s (many m e) (judged j) =
    absurd (few_or_many text j.spelled.tokens j.spelled.cut j.spelled.few m)
one_outcome cells text want r s (outside at n e) (many m f) = absurd (few_or_many text n.tokens n.cut n.few m)
one_outcome cells text want r s (outside at n e) (outside to m f) =
    e ∙ ap (λ k. Err (fault.Syntax k)) (one_column cells text want at to n m) ∙ sym f
one_outcome cells text want r s (outside at n e) (judged j) = absurd (in_or_out cells text want s at j n)
one_outcome cells text want r s (judged j) (many m f) =
    absurd (few_or_many text j.spelled.tokens j.spelled.cut j.spelled.few m)
one_outcome cells text want r s (judged j) (outside at n f) = absurd (in_or_out cells text want r at j n)
one_outcome cells text want r s (judged j) (judged k) = one_judgement cells text want r s j k

-- a refusal is an outcome, being out of memory apart
outcome_of : (cells : Bool) (text : List ℕ) (want : Want) (f : ReadFault) → IsRefusedWithin cells text want f
    → f ≢ fault.NoMemory → Outcome cells text want (Err f)
outcome_of cells text want (fault.Syntax at) h n = outside at h refl
outcome_of cells text want fault.TooDeep (inl m) n = many m refl
outcome_of cells text want fault.TooDeep (inr j) n = judged j
outcome_of cells text want fault.LiteralTooLarge j n = judged j
outcome_of cells text want fault.UnknownName j n = judged j
outcome_of cells text want fault.WrongType j n = judged j
outcome_of cells text want fault.NoMemory h n = absurd (n refl)

-- a text spells one lambda
pub same_lambda : (cells : Bool) (text : List ℕ) (want : Want) (l m : Lambda) → SpellsLambdaWithin cells text want l
    → SpellsLambdaWithin cells text want m → body_of l.body ≡ body_of m.body
same_lambda cells text want l m h k = let e =
    one_judgement cells text want (Ok (body_of l.body)) (Ok (body_of m.body)) h k in cc

-- a text is refused for one thing
pub same_refusal : (cells : Bool) (text : List ℕ) (want : Want) (f g : ReadFault) → IsRefusedWithin cells text want f
    → IsRefusedWithin cells text want g → f ≢ fault.NoMemory → g ≢ fault.NoMemory → f ≡ g
same_refusal cells text want f g h k n m =
    let e = one_outcome cells text want (Err f) (Err g) (outcome_of cells text want f h n)
    (outcome_of cells text want g k m) in
    cc

apart : (cells : Bool) (text : List ℕ) (want : Want) (l : Lambda) (f : ReadFault) → SpellsLambdaWithin cells text want l
    → Outcome cells text want (Err f) → ⊥
apart cells text want l f h o = let e = one_outcome cells text want (Ok (body_of l.body)) (Err f) (judged h) o in cc

-- what spells a lambda is refused for being out of memory alone
pub only_memory : (cells : Bool) (text : List ℕ) (want : Want) (l : Lambda) (f : ReadFault)
    → SpellsLambdaWithin cells text want l → IsRefusedWithin cells text want f → f ≡ fault.NoMemory
only_memory cells text want l fault.NoMemory h k = refl
only_memory cells text want l f h k = absurd (apart cells text want l f h (outcome_of cells text want f k (λ e. cc)))
