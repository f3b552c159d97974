-- Which answers have objects that begin in these ways.
use Rattle.std.proofs.Common.{◌≡◌, ◌≢◌, ℕ, ℤ, ◌<◌, ◌^◌, Bool, true, false, List, [], ◌∷◌, ◌++◌, length, Option, Some}
use Rattle.std.proofs.Common.{None, refl, sym, ap, ◌∙◌, arith, drop, FitsSigned}
use Rattle.std.specs.Prelude.{codes, slice_index, slice_index_or}
use Rattle.std.specs.Int.{w64}
use Rattle.std.specs.Fmt.{signed_decimal}
use Rattle.job_meaning.specs.Longs.{AllFit, FaultFits, IsFirst, OptionFits}
use Rattle.job_meaning.specs.declared.answer.Answer.{Answer}
use Rattle.job_meaning.specs.declared.answer.Answer.TheVariants as answer
use Rattle.lambda_values.specs.FaultTexts.{kind_text}
use Rattle.lambda_values.specs.declared.fault.FaultKind.{FaultKind}
use Rattle.lambda_values.specs.declared.fault.FaultKind.TheVariants.{DivideByZero, Overflow, OutOfArray, SourceTooLong}
use Rattle.merge_run.proofs.NumbersLemmas.{signed_fits}
use Rattle.merge_run.proofs.TakenLemmas.{no_number}
use Rattle.merge_run.specs.Objects.{IsSaid, array_then, fault_then, named_then, object_then, optional_then, said_then}
use Rattle.merge_run.specs.Objects.{truth_then}
use Rattle.merge_run.specs.Small.{IsHeld}
use Rattle.merge_run.specs.Taken.{is_plain}
use Rattle.trace.specs.declared.item.Fault.{Fault}

byte_at : (i : ℕ) (xs ys : List ℕ) → xs ≡ ys → slice_index xs i ≡ slice_index ys i
byte_at i xs ys e = ap (λ bs. slice_index bs i) e

pub kind_is_plain : (k : FaultKind) → is_plain (kind_text k) ≡ true
kind_is_plain DivideByZero = refl
kind_is_plain Overflow = refl
kind_is_plain OutOfArray = refl
kind_is_plain SourceTooLong = refl

module _ (names : List (List ℕ)) where
  -- after the name stands a number
  pub number_said : (a : Answer) (rest left bytes : List ℕ) → IsSaid a → IsHeld names a
      → bytes ≡ codes ",\"number\":" ++ left → bytes ≡ said_then names a rest
      → (z : ℤ) × (a ≡ answer.Number z) × FitsSigned w64 z × (left ≡ signed_decimal z ++ 125 ∷ rest)
  number_said (answer.Number z) rest left bytes said held found same =
      (z, refl, signed_fits z held.fits, ap (drop 10) (sym found ∙ same))
  number_said (answer.Truth b) rest left bytes said held found same =
      absurd (omega (arith, byte_at 2 _ _ (sym found ∙ same)))
  number_said (answer.Optional o) rest left bytes said held found same =
      absurd (omega (arith, byte_at 2 _ _ (sym found ∙ same)))
  number_said (answer.Array vs) rest left bytes said held found same = absurd said
  number_said (answer.Fault f) rest left bytes said held found same = absurd said
  number_said (answer.Unusable i) rest left bytes said held found same =
      absurd (omega (arith, byte_at 2 _ _ (sym found ∙ same)))

  pub optional_said : (a : Answer) (rest left bytes : List ℕ) → IsSaid a → IsHeld names a
      → bytes ≡ codes ",\"optional\":" ++ left → bytes ≡ said_then names a rest
      → (o : Option ℤ) × (a ≡ answer.Optional o) × OptionFits o × (left ≡ optional_then o rest)
  optional_said (answer.Number z) rest left bytes said held found same =
      absurd (omega (arith, byte_at 2 _ _ (sym found ∙ same)))
  optional_said (answer.Truth b) rest left bytes said held found same =
      absurd (omega (arith, byte_at 2 _ _ (sym found ∙ same)))
  optional_said (answer.Optional o) rest left bytes said held found same =
      (o, refl, held.fits, ap (drop 12) (sym found ∙ same))
  optional_said (answer.Array vs) rest left bytes said held found same = absurd said
  optional_said (answer.Fault f) rest left bytes said held found same = absurd said
  optional_said (answer.Unusable i) rest left bytes said held found same =
      absurd (omega (arith, byte_at 2 _ _ (sym found ∙ same)))

  pub truth_said : (a : Answer) (rest left bytes : List ℕ) → IsSaid a → bytes ≡ codes ",\"truth\":" ++ left
      → bytes ≡ said_then names a rest
      → (b : Bool) × (a ≡ answer.Truth b) × (left ≡ truth_then b rest)
  truth_said (answer.Number z) rest left bytes said found same =
      absurd (omega (arith, byte_at 2 _ _ (sym found ∙ same)))
  truth_said (answer.Truth b) rest left bytes said found same = (b, refl, ap (drop 9) (sym found ∙ same))
  truth_said (answer.Optional o) rest left bytes said found same =
      absurd (omega (arith, byte_at 2 _ _ (sym found ∙ same)))
  truth_said (answer.Array vs) rest left bytes said found same = absurd said
  truth_said (answer.Fault f) rest left bytes said found same = absurd said
  truth_said (answer.Unusable i) rest left bytes said found same =
      absurd (omega (arith, byte_at 2 _ _ (sym found ∙ same)))

  -- or, if nothing else does, the name of another job
  pub unusable_said : (a : Answer) (rest bytes : List ℕ) → IsSaid a → IsHeld names a
      → ((left : List ℕ) → bytes ≢ codes ",\"number\":" ++ left)
      → ((left : List ℕ) → bytes ≢ codes ",\"optional\":" ++ left)
      → ((left : List ℕ) → bytes ≢ codes ",\"truth\":" ++ left) → bytes ≡ said_then names a rest
      → (i : ℕ) × (a ≡ answer.Unusable i) × (i < length names) × IsFirst names i
      × (bytes ≡ codes ",\"unusable\":\"" ++ (slice_index_or names i [] ++ 34 ∷ 125 ∷ rest))
  unusable_said (answer.Number z) rest bytes said held number optional truth same = absurd (number _ same)
  unusable_said (answer.Truth b) rest bytes said held number optional truth same = absurd (truth _ same)
  unusable_said (answer.Optional o) rest bytes said held number optional truth same = absurd (optional _ same)
  unusable_said (answer.Array vs) rest bytes said held number optional truth same = absurd said
  unusable_said (answer.Fault f) rest bytes said held number optional truth same = absurd said
  unusable_said (answer.Unusable i) rest bytes said held number optional truth same =
      (i, refl, held.named i refl, held.fits, same)

  -- an object begins with an array
  pub array_object : (name : List ℕ) (a : Answer) (rest left bytes : List ℕ) → IsHeld names a
      → bytes ≡ codes "\"array\":[" ++ left → bytes ≡ object_then names name a rest
      → (vs : List ℤ) × (a ≡ answer.Array vs) × AllFit vs × (left ≡ array_then name vs rest)
  array_object name (answer.Number z) rest left bytes held found same =
      absurd (omega (arith, byte_at 1 _ _ (sym found ∙ same)))
  array_object name (answer.Truth b) rest left bytes held found same =
      absurd (omega (arith, byte_at 1 _ _ (sym found ∙ same)))
  array_object name (answer.Optional o) rest left bytes held found same =
      absurd (omega (arith, byte_at 1 _ _ (sym found ∙ same)))
  array_object name (answer.Array vs) rest left bytes held found same =
      (vs, refl, held.fits, ap (drop 9) (sym found ∙ same))
  array_object name (answer.Fault f) rest left bytes held found same =
      absurd (omega (arith, byte_at 1 _ _ (sym found ∙ same)))
  array_object name (answer.Unusable i) rest left bytes held found same =
      absurd (omega (arith, byte_at 1 _ _ (sym found ∙ same)))

  -- or with a fault
  pub fault_object : (name : List ℕ) (a : Answer) (rest left bytes : List ℕ) → IsHeld names a
      → bytes ≡ codes "\"fault\":" ++ left → bytes ≡ object_then names name a rest
      → (f : Fault) × (a ≡ answer.Fault f) × FaultFits f × (f.stage < 2 ^ 32) × (left ≡ fault_then name f rest)
  fault_object name (answer.Number z) rest left bytes held found same =
      absurd (omega (arith, byte_at 1 _ _ (sym found ∙ same)))
  fault_object name (answer.Truth b) rest left bytes held found same =
      absurd (omega (arith, byte_at 1 _ _ (sym found ∙ same)))
  fault_object name (answer.Optional o) rest left bytes held found same =
      absurd (omega (arith, byte_at 1 _ _ (sym found ∙ same)))
  fault_object name (answer.Array vs) rest left bytes held found same =
      absurd (omega (arith, byte_at 1 _ _ (sym found ∙ same)))
  fault_object name (answer.Fault f) rest left bytes held found same =
      (f, refl, held.fits, held.stage f refl, ap (drop 8) (sym found ∙ same))
  fault_object name (answer.Unusable i) rest left bytes held found same =
      absurd (omega (arith, byte_at 1 _ _ (sym found ∙ same)))

  -- or, if with neither, with a name
  pub named_object : (name : List ℕ) (a : Answer) (rest bytes : List ℕ)
      → ((left : List ℕ) → bytes ≢ codes "\"array\":[" ++ left) → ((left : List ℕ) → bytes ≢ codes "\"fault\":" ++ left)
      → bytes ≡ object_then names name a rest → IsSaid a × (bytes ≡ named_then names name a rest)
  named_object name (answer.Number z) rest bytes array fault same = (tt, same)
  named_object name (answer.Truth b) rest bytes array fault same = (tt, same)
  named_object name (answer.Optional o) rest bytes array fault same = (tt, same)
  named_object name (answer.Array vs) rest bytes array fault same = absurd (array _ same)
  named_object name (answer.Fault f) rest bytes array fault same = absurd (fault _ same)
  named_object name (answer.Unusable i) rest bytes array fault same = (tt, same)

-- `null` or a number
pub none_said : (o : Option ℤ) (rest left bytes : List ℕ) → OptionFits o → bytes ≡ codes "null}" ++ left
    → bytes ≡ optional_then o rest → (None ≡ o) × (left ≡ rest)
none_said None rest left bytes fits found same = (refl, ap (drop 5) (sym found ∙ same))
none_said (Some v) rest left bytes fits found same =
    absurd (no_number v (125 ∷ rest) _ 110 (signed_fits v fits) refl (sym same ∙ found))

pub some_said : (o : Option ℤ) (rest bytes : List ℕ) → OptionFits o → ((left : List ℕ) → bytes ≢ codes "null}" ++ left)
    → bytes ≡ optional_then o rest
    → (z : ℤ) × (o ≡ Some z) × FitsSigned w64 z × (bytes ≡ signed_decimal z ++ 125 ∷ rest)
some_said None rest bytes fits none same = absurd (none rest same)
some_said (Some z) rest bytes fits none same = (z, refl, signed_fits z fits, same)

-- `true` or `false`
pub true_said : (b : Bool) (rest left bytes : List ℕ) → bytes ≡ codes "true}" ++ left → bytes ≡ truth_then b rest
    → (true ≡ b) × (left ≡ rest)
true_said true rest left bytes found same = (refl, ap (drop 5) (sym found ∙ same))
true_said false rest left bytes found same = absurd (omega (arith, byte_at 0 _ _ (sym found ∙ same)))

pub false_said : (b : Bool) (rest bytes : List ℕ) → ((left : List ℕ) → bytes ≢ codes "true}" ++ left)
    → bytes ≡ truth_then b rest → (false ≡ b) × (bytes ≡ codes "false}" ++ rest)
false_said true rest bytes none same = absurd (none rest same)
false_said false rest bytes none same = (refl, same)
