-- The kind of fault with a name.
use Rattle.std.proofs.Common.{◌≡◌, ℕ, ◌+◌, ◌<◌, true, false, List, [], ◌∷◌, length, get_or, drop, Option, Some, None}
use Rattle.std.proofs.Common.{refl, ap, ◌∙◌}
use Rattle.std.specs.Prelude.{nat_eq, if◌then◌else◌}
use Rattle.std.specs.Cmp.Lexicographic.{pointwise}
use Rattle.std.proofs.lemmas.List.{drop_more}
use Rattle.lambda_values.specs.FaultTexts.{kind_text}
use Rattle.lambda_values.specs.declared.fault.FaultKind.{FaultKind}
use Rattle.lambda_values.specs.declared.fault.FaultKind.TheVariants.{DivideByZero, Overflow, OutOfArray, SourceTooLong}

abbrev pub kinds : List FaultKind
kinds = DivideByZero ∷ Overflow ∷ OutOfArray ∷ SourceTooLong ∷ []

-- the first of these kinds with this name
abbrev pub kind_among : List FaultKind → List ℕ → Option FaultKind
kind_among [] w = None
kind_among (k ∷ ks) w = if pointwise nat_eq (kind_text k) w then Some k else kind_among ks w

named_back : (k : FaultKind) → kind_among kinds (kind_text k) ≡ Some k
named_back DivideByZero = refl
named_back Overflow = refl
named_back OutOfArray = refl
named_back SourceTooLong = refl

pub kind_is : (k : FaultKind) (w : List ℕ) → w ≡ kind_text k → kind_among kinds w ≡ Some k
kind_is k w same = ap (kind_among kinds) same ∙ named_back k

-- a kind with another name is skipped
pub kind_more : (ks : List FaultKind) (i : ℕ) (w : List ℕ) (d : FaultKind) → i < length ks
    → pointwise nat_eq (kind_text (get_or ks i d)) w ≡ false
    → kind_among (drop i ks) w ≡ kind_among (drop (i + 1) ks) w
kind_more ks i w d lt other = ap (λ v. kind_among v w) (drop_more ks i d lt)
    ∙ ap (λ b. if b then Some (get_or ks i d) else kind_among (drop (i + 1) ks) w) other

-- a kind with this name is the first
pub kind_here : (ks : List FaultKind) (i : ℕ) (w : List ℕ) (d : FaultKind) → i < length ks
    → pointwise nat_eq (kind_text (get_or ks i d)) w ≡ true
    → kind_among (drop i ks) w ≡ Some (get_or ks i d)
kind_here ks i w d lt same = ap (λ v. kind_among v w) (drop_more ks i d lt)
    ∙ ap (λ b. if b then Some (get_or ks i d) else kind_among (drop (i + 1) ks) w) same
