-- The lanes that pass, moved to the front one after the other.
use Rattle.std.proofs.Common.{◌≡◌, ℕ, zero, suc, ◌+◌, ◌<◌, ◌≤◌, Bool, true, false, List, [], ◌∷◌, ◌++◌, length, get_or}
use Rattle.std.proofs.Common.{if◌then◌else◌, refl, sym, ap, subst, ◌∙◌, arith, add-one, length-append}
use Rattle.std.proofs.lemmas.List.{append-nil, get_or_append_left, get_or_at, get_or-set_same, get_or-set_other}
use lib.ListN.{set}
use mathlib.Core.Logic.{dite}
use native.Mathlib.Decide.{ℕ_discrete}
use Rattle.batch_eval.specs.Batches.{picked}

abbrev one_if : Bool → ℕ → List ℕ
one_if b n = if b then n ∷ [] else []

picked_more : (p : ℕ → Bool) (i : ℕ) (b : Bool) → b ≡ p i → picked p (i + 1) ≡ picked p i ++ one_if b i
picked_more p i b is = rw (add-one, is) refl

-- no lane passes
pub none_picked : (p : ℕ → Bool) (n : ℕ) → ((k : ℕ) → k < n → p k ≡ false) → length (picked p n) ≡ 0
none_picked p zero unset = refl
none_picked p (suc n) unset =
    rw (unset n (omega arith)) (ap length (append-nil (picked p n))
    ∙ none_picked p n (λ k below. unset k (omega (arith, below))))

-- how many lanes have passed
pub kept_set : (p : ℕ → Bool) (i kept : ℕ) (b : Bool) → b ≡ p i → b ≡ true → kept ≡ length (picked p i)
    → kept + 1 ≡ length (picked p (i + 1))
kept_set p i kept b is set so_far =
    let more : picked p (i + 1) ≡ picked p i ++ i ∷ [] = picked_more p i true (sym set ∙ is) in
    rw more (omega (arith, length-append (picked p i) (i ∷ [])))

pub kept_unset : (p : ℕ → Bool) (i kept : ℕ) (b : Bool) → b ≡ p i → b ≡ false → kept ≡ length (picked p i)
    → kept ≡ length (picked p (i + 1))
kept_unset p i kept b is unset so_far =
    let more : picked p (i + 1) ≡ picked p i ++ [] = picked_more p i false (sym unset ∙ is) in
    rw (more, append-nil) so_far

module _ {A B : Type 0} (g : A → B) (p : ℕ → Bool) (source : ℕ → B) (column : List A) (kept i : ℕ) (v d : A) where
  -- what stands in front, by what it means, and after it what lane i has written
  pub front_more_by : (b : Bool) → b ≡ p i → g v ≡ source i → kept < length column → kept ≡ length (picked p i)
      → ((j : ℕ) → j < kept → g (get_or column j d) ≡ source (get_or (picked p i) j 0)) → (j : ℕ)
      → j < length (picked p (i + 1)) → g (get_or (set column kept v) j d) ≡ source (get_or (picked p (i + 1)) j 0)
  front_more_by true is here within so_far front j below =
      let xs = picked p i in
      let more : picked p (i + 1) ≡ xs ++ i ∷ [] = picked_more p i true is in
      let longer : j < length (xs ++ i ∷ []) = subst (λ (ys : List ℕ). j < length ys) more below in
      rw more (dite (ℕ_discrete j kept)
      (λ last. rw last (ap g (get_or-set_same column kept v d within) ∙ here
      ∙ ap source (sym (get_or_at xs i [] 0 kept (sym so_far)))))
      (λ other.
      let earlier : j < kept = omega (arith, length-append xs (i ∷ [])) in
      let inside : j < length xs = omega arith in
      ap g (get_or-set_other column kept j v d other) ∙ front j earlier
      ∙ ap source (sym (get_or_append_left xs (i ∷ []) 0 j inside))))
  front_more_by false is here within so_far front j below =
      let xs = picked p i in
      let more : picked p (i + 1) ≡ xs ++ [] = picked_more p i false is in
      let same : picked p (i + 1) ≡ xs = more ∙ append-nil xs in
      let inside : j < length xs = subst (λ (ys : List ℕ). j < length ys) same below in
      rw same (ap g (get_or-set_other column kept j v d (λ e. absurd (omega arith))) ∙ front j (omega arith))

module _ {A : Type 0} (p : ℕ → Bool) (source : ℕ → A) (column : List A) (kept i : ℕ) (v d : A) where
  -- what stands in front, and after it what lane i has written
  pub front_more : (b : Bool) → b ≡ p i → v ≡ source i → kept < length column → kept ≡ length (picked p i)
      → ((j : ℕ) → j < kept → get_or column j d ≡ source (get_or (picked p i) j 0)) → (j : ℕ)
      → j < length (picked p (i + 1)) → get_or (set column kept v) j d ≡ source (get_or (picked p (i + 1)) j 0)
  front_more true is here within so_far front j below =
      let xs = picked p i in
      let more : picked p (i + 1) ≡ xs ++ i ∷ [] = picked_more p i true is in
      let longer : j < length (xs ++ i ∷ []) = subst (λ (ys : List ℕ). j < length ys) more below in
      rw more (dite (ℕ_discrete j kept)
      (λ last. rw last (get_or-set_same column kept v d within ∙ here
      ∙ ap source (sym (get_or_at xs i [] 0 kept (sym so_far)))))
      (λ other.
      let earlier : j < kept = omega (arith, length-append xs (i ∷ [])) in
      let inside : j < length xs = omega arith in
      get_or-set_other column kept j v d other ∙ front j earlier
      ∙ ap source (sym (get_or_append_left xs (i ∷ []) 0 j inside))))
  front_more false is here within so_far front j below =
      let xs = picked p i in
      let more : picked p (i + 1) ≡ xs ++ [] = picked_more p i false is in
      let same : picked p (i + 1) ≡ xs = more ∙ append-nil xs in
      let inside : j < length xs = subst (λ (ys : List ℕ). j < length ys) same below in
      rw same (get_or-set_other column kept j v d (λ e. absurd (omega arith)) ∙ front j (omega arith))

  -- what lies after lane i
  pub rest_more : kept ≤ i → ((k : ℕ) → i ≤ k → get_or column k d ≡ source k) → (k : ℕ) → i + 1 ≤ k
      → get_or (set column kept v) k d ≡ source k
  rest_more behind rest k after = get_or-set_other column kept k v d (λ e. absurd (omega arith)) ∙ rest k (omega arith)
