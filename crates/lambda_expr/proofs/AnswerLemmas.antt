-- What the reader of lambdas answers.
use Rattle.std.proofs.Common.{◌≡◌, ℕ, ◌≤◌, Bool, inr, List, length, Result, Ok, Err, subst}
use Rattle.std.specs.Prelude.{IfErr, IfOk}
use Rattle.stream_tokens.specs.declared.token.Token.{Token}
use Rattle.stream_tokens.specs.Tokens.{AreTokensOf}
use Rattle.lambda_expr.specs.declared.fault.ReadFault.{ReadFault}
use Rattle.lambda_expr.specs.declared.fault.ReadFault.TheVariants as fault
use Rattle.lambda_values.specs.declared.lambda.Lambda.{Lambda}
use Rattle.lambda_expr.specs.declared.want.Want.{Want}
use Rattle.lambda_expr.specs.declared.lexeme.Lexeme.{Lexeme}
use Rattle.lambda_expr.specs.declared.body.BodySteps.{BodySteps}
use Rattle.lambda_expr.specs.BodyReading.{AreSteps}
use Rattle.lambda_expr.specs.Heads.{ALambda, BodyShape, IsLambda}
use Rattle.lambda_expr.specs.Judging.{IsJudged, IsWritten}
use Rattle.lambda_expr.specs.Lexemes.{lexemes_of, names_in}
use Rattle.lambda_expr.specs.Refusals.{column, verdict, IsNoLambda, IsRefusedWithin, IsSpelled, SpellsLambdaWithin}
use Rattle.lambda_expr.specs.Stops.{StopsAt}

-- the text, with its tokens, that is read
pub record IsRead (cells : Bool) (text : List ℕ) (ts : List Token) (ws : List Lexeme) : Type 0 where
  pub cut : AreTokensOf ts text
  pub few : length ts ≤ 4096
  pub words : ws ≡ lexemes_of cells text ts

abbrev IsVerdict : List ℕ → List Token → Want → BodySteps → Result Lambda ReadFault → Type 0
IsVerdict text ts w ss r = (b : BodyShape) → AreSteps b ss → IsJudged (verdict w (names_in text ts) b) r

abbrev spelled : (cells : Bool) (text : List ℕ) (ts : List Token) (ws : List Lexeme) (w : Want) (e : BodyShape)
    → IsRead cells text ts ws → IsLambda w ws e → IsSpelled cells text w e
spelled cells text ts ws w e r l = record
    { tokens = ts; cut = r.cut; few = r.few; lambda = subst (λ ws. IsLambda w ws e) r.words l }

pub judged_ok : (cells : Bool) (text : List ℕ) (ts : List Token) (ws : List Lexeme) (w : Want) (ss : BodySteps)
    (r : Result Lambda ReadFault) → IsRead cells text ts ws → IsWritten w ws ss → IsVerdict text ts w ss r
    → IfOk r (λ l. SpellsLambdaWithin cells text w l)
judged_ok cells text ts ws w ss (Ok l) is x v =
    record { body = x.0; spelled = spelled cells text ts ws w x.0 is x.1; gives = v x.0 x.2 }
judged_ok cells text ts ws w ss (Err f) is x v = tt

pub judged_refused : (cells : Bool) (text : List ℕ) (ts : List Token) (ws : List Lexeme) (w : Want) (ss : BodySteps)
    (r : Result Lambda ReadFault) → IsRead cells text ts ws → IsWritten w ws ss → IsVerdict text ts w ss r
    → IfErr r (λ f. IsRefusedWithin cells text w f)
judged_refused cells text ts ws w ss (Ok l) is x v = tt
judged_refused cells text ts ws w ss (Err (fault.Syntax n)) is x v = absurd (v x.0 x.2)
judged_refused cells text ts ws w ss (Err fault.TooDeep) is x v =
    inr (record { body = x.0; spelled = spelled cells text ts ws w x.0 is x.1; gives = v x.0 x.2 })
judged_refused cells text ts ws w ss (Err fault.NoMemory) is x v = tt
judged_refused cells text ts ws w ss y is x v =
    record { body = x.0; spelled = spelled cells text ts ws w x.0 is x.1; gives = v x.0 x.2 }

pub stopped : (cells : Bool) (text : List ℕ) (ts : List Token) (ws : List Lexeme) (w : Want) (n at : ℕ)
    → IsRead cells text ts ws → StopsAt (ALambda w) ws n → at ≡ column text ts n → IsNoLambda cells text w at
stopped cells text ts ws w n at is s here =
    record {
      tokens = ts;
      cut = is.cut;
      few = is.few;
      place = n;
      stops = subst (λ ws. StopsAt (ALambda w) ws n) is.words s;
      here = here;
    }
