-- Folds of the values whose flag is set, lane by lane.
use Rattle.std.proofs.Common.{◌≡◌, ℕ, suc, ◌+◌, ◌<◌, ℤ, pos, ◌+ℤ◌, FitsSigned, w64, Bool, true, false, List, [], ◌∷◌}
use Rattle.std.proofs.Common.{◌++◌}
use Rattle.std.proofs.Common.{length, Some, None, fold, refl, sym, ap, subst, ◌∙◌, arith, rules, add-one, length-append}
use Rattle.std.proofs.lemmas.Int.{SFits-int_wrap, int_wrap-add_left, int_wrap_fits, ints}
use Rattle.std.proofs.lemmas.List.{append-nil}
use Rattle.std.proofs.lemmas.List.Sums.{fold-append}
use lib.IntN.{+ℤ_idr}
use Rattle.lambda_values.specs.Wrap.{wrap}
use Rattle.reduce_ops.specs.declared.op.Op.{Op}
use Rattle.reduce_ops.specs.declared.op.Op.TheVariants.{Sum}
use Rattle.reduce_ops.specs.Operators.{identity_of, value_of}
use Rattle.reduce_ops.proofs.Identities.{all_identities}
use Rattle.batch_eval.specs.Lanes.{at}
use Rattle.batch_eval.specs.Batches.{flagged_values}
use Rattle.prefix_walks.specs.Batches.{each_one, folded_values}

-- numbers of 64 bits
abbrev pub AllFit : List ℤ → Type 0
AllFit [] = Unit {0}
AllFit (v ∷ vs) = FitsSigned w64 v × AllFit vs

fit_joined : (vs ws : List ℤ) → AllFit vs → AllFit ws → AllFit (vs ++ ws)
fit_joined [] ws a b = b
fit_joined (v ∷ vs) ws a b = (a.0, fit_joined vs ws a.1 b)

module _ (p : ℤ → Bool) (value : ℕ → ℤ) (flags : List ℤ) where
  -- one value more, or none
  pub values_set : (n : ℕ) → p (at flags n) ≡ true
      → flagged_values p value flags (n + 1) ≡ flagged_values p value flags n ++ value n ∷ []
  values_set n set = rw (add-one, set) refl

  pub values_unset : (n : ℕ) → p (at flags n) ≡ false
      → flagged_values p value flags (n + 1) ≡ flagged_values p value flags n
  values_unset n unset = rw (add-one, unset) (append-nil (flagged_values p value flags n))

  pub passed_set : (n : ℕ) → p (at flags n) ≡ true
      → length (flagged_values p value flags (n + 1)) ≡ length (flagged_values p value flags n) + 1
  passed_set n set = ap (λ (vs : List ℤ). length vs) (values_set n set)
      ∙ length-append (flagged_values p value flags n) (value n ∷ [])

  pub fit_set : (n : ℕ) → p (at flags n) ≡ true → FitsSigned w64 (value n)
      → AllFit (flagged_values p value flags n) → AllFit (flagged_values p value flags (n + 1))
  fit_set n set here before = subst AllFit (sym (values_set n set))
      (fit_joined (flagged_values p value flags n) (value n ∷ []) before (here, tt))

  module _ (op : Op) (counts : Bool) (identity : ℤ) where
    -- the fold of the values of the first n lanes
    abbrev pub folded_from : ℕ → ℤ
    folded_from n = fold (λ a v. value_of op a (each_one counts v)) identity (flagged_values p value flags n)

    pub folded_set : (n : ℕ) → p (at flags n) ≡ true
        → folded_from (n + 1) ≡ value_of op (folded_from n) (each_one counts (value n))
    folded_set n set =
        let f : ℤ → ℤ → ℤ = λ a v. value_of op a (each_one counts v) in
        ap (fold f identity) (values_set n set)
        ∙ fold-append f identity (flagged_values p value flags n) (value n ∷ [])

    pub folded_unset : (n : ℕ) (a : ℤ) → identity_of op ≡ Some identity → FitsSigned w64 a → a ≡ folded_from n
        → p (at flags n) ≡ false → folded_from (n + 1) ≡ value_of op a identity
    folded_unset n a is fits so_far unset =
        ap (fold (λ b v. value_of op b (each_one counts v)) identity) (values_unset n unset) ∙ sym so_far
        ∙ sym (all_identities op identity is a fits).1

    one_fits : (v : ℤ) → FitsSigned w64 v → FitsSigned w64 (each_one counts v)
    one_fits v fits = by_kind counts where
      by_kind : (b : Bool) → FitsSigned w64 (each_one b v)
      by_kind true = search rules
      by_kind false = fits

    some_folded : identity_of op ≡ Some identity → (vs : List ℤ) → AllFit vs → 0 < length vs
        → Some (fold (λ a v. value_of op a (each_one counts v)) identity vs) ≡ folded_values (value_of op) counts vs
    some_folded is [] fits some = absurd (omega (arith, some))
    some_folded is (v ∷ vs) fits some =
        ap (λ (a : ℤ). Some (fold (λ b w. value_of op b (each_one counts w)) a vs))
        (all_identities op identity is (each_one counts v) (one_fits v fits.0)).0

    -- a fold onto an identity is the fold, if there are values
    pub flagged_folded : identity_of op ≡ Some identity → (n : ℕ) → AllFit (flagged_values p value flags n)
        → 0 < length (flagged_values p value flags n)
        → Some (folded_from n) ≡ folded_values (value_of op) counts (flagged_values p value flags n)
    flagged_folded is n fits some = some_folded is (flagged_values p value flags n) fits some

    pub none_folded : (vs : List ℤ) → 0 ≡ length vs → None ≡ folded_values (value_of op) counts vs
    none_folded [] none_left = refl
    none_folded (v ∷ vs) none_left = absurd (omega (arith, none_left))

-- the sum of ones
ones_onto : (a : ℤ) (vs : List ℤ) → wrap a ≡ a
    → fold (λ b w. value_of Sum b (each_one true w)) a vs ≡ wrap (a +ℤ pos (length vs))
ones_onto a [] is = sym is ∙ ap wrap (sym (+ℤ_idr a))
ones_onto a (v ∷ vs) is =
    let one_more : (a +ℤ pos 1) +ℤ pos (length vs) ≡ a +ℤ pos (suc (length vs)) = omega (arith, ints) in
    ones_onto (wrap (a +ℤ pos 1)) vs (int_wrap_fits w64 (wrap (a +ℤ pos 1)) (SFits-int_wrap w64 (a +ℤ pos 1)))
    ∙ int_wrap-add_left w64 (a +ℤ pos 1) (pos (length vs)) ∙ ap wrap one_more

pub ones_folded : (vs : List ℤ) → 0 < length vs
    → Some (wrap (pos (length vs))) ≡ folded_values (value_of Sum) true vs
ones_folded [] some = absurd (omega (arith, some))
ones_folded (v ∷ vs) some =
    let all : pos 1 +ℤ pos (length vs) ≡ pos (suc (length vs)) = omega (arith, ints) in
    let small : FitsSigned w64 (pos 1) = search rules in
    ap Some (ap wrap (sym all) ∙ sym (ones_onto (pos 1) vs (int_wrap_fits w64 (pos 1) small)))
