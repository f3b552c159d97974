-- The numbers of an array, one after the other.
use Rattle.std.proofs.Common.{◌≡◌, ℕ, ℤ, false, List, [], ◌∷◌, ◌++◌, Option, MatchOption, ◌≢◌, Some, drop, None}
use Rattle.std.proofs.Common.{append_assoc, append-nil, refl, sym, ap, ◌∙◌, arith, FitsSigned, pos, negsuc}
use Rattle.std.specs.Prelude.{codes, slice_index}
use Rattle.std.specs.Int.{w64}
use Rattle.std.specs.Fmt.{signed_decimal}
use denote.Ref.{Bor}
use Rattle.job_meaning.specs.Longs.{AllFit, Fits}
use Rattle.report.specs.AnswerForms.{further}
use Rattle.merge_run.proofs.TakenLemmas.{no_number}
use Rattle.merge_run.specs.Taken.{IsTaken, is_number_byte, parted}

-- of these numbers some were taken, and the text of the others is left
pub record AreOthersLeft (values : List ℤ) (rest : List ℕ) (taken : List ℤ) (left : List ℕ) : Type 0 where
  pub others : List ℤ
  pub all : values ≡ taken ++ others
  pub fit : AllFit others
  pub text : left ≡ further (codes ",") others ++ 93 ∷ rest

pub signed_fits : (z : ℤ) → Fits z → FitsSigned w64 z
signed_fits (pos n) h = omega (arith, h)
signed_fits (negsuc n) h = omega (arith, h)

-- what the contract of a reader of one number says of what it gives
abbrev pub Takes : List ℕ → Option (ℤ × Bor (List ℕ)) → Type 0
Takes bytes result =
    (z : ℤ) (rest : List ℕ) (b : ℕ) → FitsSigned w64 z → is_number_byte b ≡ false → bytes ≡ signed_decimal z ++ b ∷ rest
    → IsTaken z (b ∷ rest) result

taken_before : (z : ℤ) (zs : List ℤ) (rest bytes : List ℕ) (result : Option (ℤ × Bor (List ℕ))) → Takes bytes result
    → Fits z
    → bytes ≡ signed_decimal z ++ (further (codes ",") zs ++ 93 ∷ rest)
    → IsTaken z (further (codes ",") zs ++ 93 ∷ rest) result
taken_before z [] rest bytes result takes fits same = takes z rest 93 (signed_fits z fits) refl same
taken_before z (w ∷ ws) rest bytes result takes fits same = takes z _ 44 (signed_fits z fits) refl same

-- the first number is taken, and then the others are left
pub first_taken : (values : List ℤ) (rest bytes : List ℕ) (result : Option (ℤ × Bor (List ℕ))) → Takes bytes result
    → ((left : List ℕ) → bytes ≢ 93 ∷ left) → AllFit values
    → bytes ≡ parted values ++ 93 ∷ rest
    → MatchOption result ⊥ (λ found. AreOthersLeft values rest (found.0 ∷ []) found.1.now)
first_taken [] rest bytes result takes some fit same = absurd (some rest same)
first_taken (z ∷ zs) rest bytes result takes some fit same =
    one result (taken_before z zs rest bytes result takes fit.0
    (same ∙ append_assoc (signed_decimal z) (further (codes ",") zs) (93 ∷ rest)))
  where
    one : (found : Option (ℤ × Bor (List ℕ))) → IsTaken z (further (codes ",") zs ++ 93 ∷ rest) found
        → MatchOption found ⊥ (λ f. AreOthersLeft (z ∷ zs) rest (f.0 ∷ []) f.1.now)
    one None is = is
    one (Some f) is = record {
      others = zs;
      all = ap (λ v. v ∷ zs) (sym is.0);
      fit = fit.1;
      text = is.1;
    }

-- the bracket stands first, so there is no number
pub no_numbers : (values : List ℤ) (rest left bytes : List ℕ) → AllFit values → bytes ≡ 93 ∷ left
    → bytes ≡ parted values ++ 93 ∷ rest → ([] ≡ values) × (left ≡ rest)
no_numbers [] rest left bytes fit found same = (refl, ap (drop 1) (sym found ∙ same))
no_numbers (z ∷ zs) rest left bytes fit found same =
    absurd (no_number z (further (codes ",") zs ++ 93 ∷ rest) left 93 (signed_fits z fit.0) refl
    (sym (append_assoc (signed_decimal z) (further (codes ",") zs) (93 ∷ rest)) ∙ sym same ∙ found))

pub fit_more : (values : List ℤ) (z : ℤ) → AllFit values → Fits z → AllFit (values ++ z ∷ [])
fit_more [] z fit one = (one, tt)
fit_more (v ∷ vs) z fit one = (fit.0, fit_more vs z fit.1 one)

-- a comma is left, so another number is, which is taken
pub next_taken : (values : List ℤ) (rest : List ℕ) (taken : List ℤ) (more : List ℕ) (result : Option (ℤ × Bor (List ℕ)))
    → Takes more result → AreOthersLeft values rest taken (44 ∷ more)
    → MatchOption result ⊥ (λ found. AreOthersLeft values rest (taken ++ found.0 ∷ []) found.1.now)
next_taken values rest taken more result takes left = next left.others left.all left.fit left.text
  where
    next : (others : List ℤ) → values ≡ taken ++ others → AllFit others
        → 44 ∷ more ≡ further (codes ",") others ++ 93 ∷ rest
        → MatchOption result ⊥ (λ found. AreOthersLeft values rest (taken ++ found.0 ∷ []) found.1.now)
    next [] all fit text = absurd (let n : 44 ≡ 93 = ap (λ bs. slice_index bs 0) text in omega arith)
    next (z ∷ zs) all fit text =
        let same : more ≡ signed_decimal z ++ (further (codes ",") zs ++ 93 ∷ rest) =
        ap (drop 1) text ∙ append_assoc (signed_decimal z) (further (codes ",") zs) (93 ∷ rest) in
        one result (taken_before z zs rest more result takes fit.0 same)
      where
        one : (found : Option (ℤ × Bor (List ℕ))) → IsTaken z (further (codes ",") zs ++ 93 ∷ rest) found
            → MatchOption found ⊥ (λ f. AreOthersLeft values rest (taken ++ f.0 ∷ []) f.1.now)
        one None is = is
        one (Some f) is = record {
          others = zs;
          all = all ∙ ap (λ v. taken ++ v ∷ zs) (sym is.0) ∙ sym (append_assoc taken (f.0 ∷ []) zs);
          fit = fit.1;
          text = is.1;
        }

-- no comma is left, so all numbers were taken, and the bracket is left
pub all_taken : (values : List ℤ) (rest : List ℕ) (taken : List ℤ) (left : List ℕ)
    → ((more : List ℕ) → left ≢ 44 ∷ more) → AreOthersLeft values rest taken left
    → (taken ≡ values) × (left ≡ 93 ∷ rest)
all_taken values rest taken left none is = end is.others is.all is.text
  where
    end : (others : List ℤ) → values ≡ taken ++ others → left ≡ further (codes ",") others ++ 93 ∷ rest
        → (taken ≡ values) × (left ≡ 93 ∷ rest)
    end [] all text = (sym (all ∙ append-nil taken), text)
    end (z ∷ zs) all text = absurd (none _ text)
