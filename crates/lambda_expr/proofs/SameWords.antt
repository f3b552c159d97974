-- Words that are neither `cell`, nor `row`, nor a string are the same lexemes, whether texts may have cells and rows or
-- not.
use Rattle.std.proofs.Common.{◌≡◌, ℕ, suc, Bool, true, false, inl, inr, List, [], ◌∷◌, Option, Some, None, Result, refl}
use Rattle.std.proofs.Common.{sym, ap, subst, ◌∙◌}
use Rattle.std.specs.Prelude.{if◌then◌else◌, codes}
use Rattle.stream_tokens.specs.declared.token.Token.{Token}
use Rattle.lambda_expr.specs.declared.fault.ReadFault.{ReadFault}
use Rattle.lambda_expr.specs.declared.fault.ReadFault.TheVariants as fault
use Rattle.lambda_values.specs.declared.lambda.Lambda.{Lambda}
use Rattle.lambda_expr.specs.declared.want.Want.{Want}
use Rattle.lambda_expr.specs.declared.lexeme.Lexeme.TheVariants as word
use Rattle.lambda_expr.specs.Heads.{ALambda, IsLambda}
use Rattle.lambda_expr.specs.Lexemes.{NameNoPlace, first_name, is_reserved, is_taken, lexeme_of, lexemes_from}
use Rattle.lambda_expr.specs.Lexemes.{lexemes_of, name_of}
use Rattle.lambda_expr.specs.Members.{is_named}
use Rattle.lambda_expr.specs.Refusals.{IsNoLambda, IsRefusedWithin, Judged, NamesNoPlace, SpellsLambdaWithin}
use Rattle.lambda_expr.specs.Stops.{StopsAt}
use Rattle.lambda_expr.specs.Words.{Word, named, quoted, words_of}
use Rattle.lambda_values.specs.Lambda.{AbstractLambda}

same_name : (b : Bool) (first second : Option (List ℕ)) (w : List ℕ) → is_named w (codes "cell") ≡ false
    → is_named w (codes "row") ≡ false → name_of b first second w ≡ name_of false first second w
same_name true first second w h k = rw h (rw k refl)
same_name false first second w h k = refl

same_reserved : (b : Bool) (w : List ℕ) → is_named w (codes "cell") ≡ false → is_named w (codes "row") ≡ false
    → is_reserved b w ≡ is_reserved false w
same_reserved true w h k = rw h (rw k refl)
same_reserved false w h k = refl

same_taken : (b : Bool) (taken : Option (List ℕ)) (w : List ℕ) → is_named w (codes "cell") ≡ false
    → is_named w (codes "row") ≡ false → is_taken b taken w ≡ is_taken false taken w
same_taken true None w h k = rw h (rw k refl)
same_taken true (Some taken) w h k = rw h (rw k refl)
same_taken false taken w h k = refl

same_first : (b : Bool) (taken : Option (List ℕ)) (ws : List Word) → NameNoPlace ws
    → first_name b taken ws ≡ first_name false taken ws
same_first b taken [] n = refl
same_first b taken (named w ∷ ws) n = ap (λ t. if t then first_name b taken ws else Some w)
    (same_taken b taken w n.0 n.1) ∙ ap (λ v. if is_taken false taken w then v else Some w) (same_first b taken ws n.2)
same_first b taken (quoted w ∷ ws) n = absurd n
same_first b taken (w ∷ ws) n = same_first b taken ws n

same_from : (b : Bool) (first second : Option (List ℕ)) (at : ℕ) (ws : List Word) → NameNoPlace ws
    → lexemes_from b first second at ws ≡ lexemes_from false first second at ws
same_from b first second at [] n = refl
same_from b first second at (named w ∷ ws) n =
    ap (λ v. word.Name v ∷ lexemes_from b first second (suc at) ws) (same_name b first second w n.0 n.1)
    ∙ ap (λ ls. word.Name (name_of false first second w) ∷ ls) (same_from b first second (suc at) ws n.2)
same_from b first second at (quoted w ∷ ws) n = absurd n
same_from b first second at (w ∷ ws) n =
    ap (λ ls. lexeme_of false first second at w ∷ ls) (same_from b first second (suc at) ws n)

same_lexemes : (b : Bool) (text : List ℕ) (ts : List Token) → NameNoPlace (words_of text ts)
    → lexemes_of b text ts ≡ lexemes_of false text ts
same_lexemes b text ts n =
    let ws = words_of text ts in
    let first = first_name false None ws in
    ap (λ o. lexemes_from b o (first_name b o ws) 0 ws) (same_first b None ws n)
    ∙ ap (λ o. lexemes_from b first o 0 ws) (same_first b first ws n)
    ∙ same_from b first (first_name false first ws) 0 ws n

either_way : (b c : Bool) (text : List ℕ) (ts : List Token) → NameNoPlace (words_of text ts)
    → lexemes_of b text ts ≡ lexemes_of c text ts
either_way b c text ts n = same_lexemes b text ts n ∙ sym (same_lexemes c text ts n)

judged_alike : (b c : Bool) (text : List ℕ) (want : Want) (r : Result AbstractLambda ReadFault) → NamesNoPlace text
    → Judged b text want r → Judged c text want r
judged_alike b c text want r n j =
    let ts = j.spelled.tokens in
    record {
      body = j.body;
      spelled = record {
        tokens = ts;
        cut = j.spelled.cut;
        few = j.spelled.few;
        lambda = subst (λ ls. IsLambda want ls j.body) (either_way b c text ts (n ts j.spelled.cut))
            j.spelled.lambda;
      };
      gives = j.gives;
    }

stopped_alike : (b c : Bool) (text : List ℕ) (want : Want) (at : ℕ) → NamesNoPlace text → IsNoLambda b text want at
    → IsNoLambda c text want at
stopped_alike b c text want at n j = record {
  tokens = j.tokens;
  cut = j.cut;
  few = j.few;
  place = j.place;
  stops = subst (λ ls. StopsAt (ALambda want) ls j.place) (either_way b c text j.tokens (n j.tokens j.cut)) j.stops;
  here = j.here;
}

pub spelled_alike : (b c : Bool) (text : List ℕ) (want : Want) (l : Lambda) → NamesNoPlace text
    → SpellsLambdaWithin b text want l → SpellsLambdaWithin c text want l
spelled_alike b c text want l n j = judged_alike b c text want _ n j

pub refused_alike : (b c : Bool) (text : List ℕ) (want : Want) (f : ReadFault) → NamesNoPlace text
    → IsRefusedWithin b text want f → IsRefusedWithin c text want f
refused_alike b c text want (fault.Syntax at) n x = stopped_alike b c text want at n x
refused_alike b c text want fault.TooDeep n (inl m) = inl m
refused_alike b c text want fault.TooDeep n (inr j) = inr (judged_alike b c text want _ n j)
refused_alike b c text want fault.LiteralTooLarge n j = judged_alike b c text want _ n j
refused_alike b c text want fault.UnknownName n j = judged_alike b c text want _ n j
refused_alike b c text want fault.WrongType n j = judged_alike b c text want _ n j
refused_alike b c text want fault.NoMemory n x = tt
