-- A lane of many, and its place among those that were picked.
use Rattle.std.proofs.Common.{◌≡◌, ℕ, zero, suc, ◌+◌, ◌<◌, ℤ, Bool, true, false, not, List, [], ◌∷◌, ◌++◌, length}
use Rattle.std.proofs.Common.{get_or, Option, Some, None, Result, Ok, Err, if◌then◌else◌, refl, sym, ap, subst, ◌∙◌}
use Rattle.std.proofs.Common.{arith, length-append}
use Rattle.std.proofs.lemmas.List.{append-nil, get_or_append_left, get_or_at, get_or-set_same, get_or-set_other}
use lib.ListN.{set}
use mathlib.Core.Logic.{dite}
use native.Mathlib.Decide.{ℕ_discrete}
use Rattle.lambda_values.specs.declared.fault.FaultKind.{FaultKind}
use Rattle.lambda_values.specs.Operators.{on}
use Rattle.batch_eval.specs.declared.reached.Reached.{Reached}
use Rattle.batch_eval.specs.Lanes.{after, at, flagged, is_set, Reaches, StopsAt}
use Rattle.lambda_values.specs.Value.{chosen}
use Rattle.batch_eval.specs.Choices.{by_flag, chosen_value}
use Rattle.batch_eval.specs.Batches.{wanted, picked, wants}
use Rattle.batch_eval.proofs.Steps.{Reaches_same, Reaches_on}

abbrev one_if : Bool → ℕ → List ℕ
one_if b n = if b then n ∷ [] else []

-- a lane that is picked stands after those before it
abbrev StandsAt : (ℕ → Bool) → ℕ → ℕ → Type 0
StandsAt p i n = (length (picked p i) < length (picked p n)) × (get_or (picked p n) (length (picked p i)) 0 ≡ i)

pub picked_here : (p : ℕ → Bool) (i n : ℕ) → i < n → p i ≡ true → StandsAt p i n
picked_here p i zero within is = absurd (omega arith)
picked_here p i (suc n) within is =
    dite (ℕ_discrete i n)
    (λ last. subst (λ (m : ℕ). StandsAt p i (suc m)) last (
      rw is (omega (arith, length-append (picked p i) (i ∷ []))),
      rw is (get_or_at (picked p i) i [] 0 (length (picked p i)) refl),
    ))
    (λ other.
    let before = picked_here p i n (omega arith) is in (
      omega (arith, length-append (picked p n) (one_if (p n) n), before.0),
      get_or_append_left (picked p n) (one_if (p n) n) 0 (length (picked p i)) before.0 ∙ before.1,
    ))

module _ (p : ℕ → Bool) (f : ℕ → Result ℤ FaultKind) (column : ℕ → ℤ) (i n : ℕ) (r : Reached) where
  -- its value is the value at its place
  pub one_value : i < n → p i ≡ true → length (picked p i) < r.live
      → Reaches (λ j. f (get_or (picked p n) j 0)) column (length (picked p n)) r
      → f i ≡ Ok (column (length (picked p i)))
  one_value within is below h = ap f (sym (picked_here p i n within is).1) ∙ h.values (length (picked p i)) below

  -- and so is its fault
  pub one_stop : i < n → p i ≡ true → length (picked p i) ≡ r.live
      → Reaches (λ j. f (get_or (picked p n) j 0)) column (length (picked p n)) r → StopsAt f n i r.fault
  one_stop within is at_end h = stops r.fault h.stop where
    stops : (fault : Option FaultKind) → StopsAt (λ j. f (get_or (picked p n) j 0)) (length (picked p n)) r.live fault
        → StopsAt f n i fault
    stops None s = absurd (let here = (picked_here p i n within is).0 in omega arith)
    stops (Some kind) s = (
      within,
      ap f (sym (picked_here p i n within is).1)
          ∙ ap (λ (j : ℕ). f (get_or (picked p n) j 0)) at_end ∙ s.1,
    )

-- one lane more has its value
pub one_more : (f : ℕ → Result ℤ FaultKind) (out : List ℤ) (i : ℕ) (v : ℤ) → i < length out
    → ((k : ℕ) → k < i → f k ≡ Ok (at out k)) → f i ≡ Ok v → (k : ℕ) → k < i + 1 → f k ≡ Ok (at (set out i v) k)
one_more f out i v within before here k below =
    dite (ℕ_discrete k i)
    (λ last. rw last (here ∙ ap Ok (sym (get_or-set_same out i v _ within))))
    (λ other. before k (omega arith) ∙ ap Ok (sym (get_or-set_other out i k v _ other)))

-- what is picked passes
pub picked_pass : (p : ℕ → Bool) (n j : ℕ) → j < length (picked p n) → p (get_or (picked p n) j 0) ≡ true
picked_pass p zero j below = absurd (omega arith)
picked_pass p (suc n) j below = by_case (p n) refl below (picked_pass p n j) where
  by_case : (b : Bool) → p n ≡ b → j < length (picked p n ++ one_if b n)
      → (j < length (picked p n) → p (get_or (picked p n) j 0) ≡ true)
      → p (get_or (picked p n ++ one_if b n) j 0) ≡ true
  by_case false is within before =
      let inside : j < length (picked p n) = subst (λ (xs : List ℕ). j < length xs) (append-nil (picked p n)) within in
      ap (λ (xs : List ℕ). p (get_or xs j 0)) (append-nil (picked p n)) ∙ before inside
  by_case true is within before =
      dite (ℕ_discrete j (length (picked p n)))
      (λ last. ap p (get_or_at (picked p n) n [] 0 j (sym last)) ∙ is)
      (λ other.
      let inside : j < length (picked p n) = omega (arith, length-append (picked p n) (n ∷ [])) in
      ap p (get_or_append_left (picked p n) (n ∷ []) 0 j inside) ∙ before inside)

not_true : (b : Bool) → not b ≡ true → b ≡ false
not_true true is = cc
not_true false is = refl

-- at each lane the one of two expressions that the flag wants
pub parted_reaches : (a b : ℕ → Result ℤ FaultKind) (flags ones others out : List ℤ) (l y n : ℕ)
    (first second last : Reached) (ya na : ℕ → Result ℤ FaultKind) → y ≡ length (wanted true flags l)
    → ((j : ℕ) → j < y → ya j ≡ a (get_or (wanted true flags l) j 0)) → Reaches ya (at ones) y first
    → n ≡ length (wanted false flags l) → ((j : ℕ) → j < n → na j ≡ b (get_or (wanted false flags l) j 0))
    → Reaches na (at others) n second → ((f : ℕ → Result ℤ FaultKind)
    → Reaches (λ j. f (get_or (wanted true flags l) j 0)) (at ones) (length (wanted true flags l)) first
    → Reaches (λ j. f (get_or (wanted false flags l) j 0)) (at others) (length (wanted false flags l)) second
    → Reaches f (at out) l last) → Reaches (λ k. by_flag (at flags k) (a k) (b k)) (at out) l last
parted_reaches a b flags ones others out l y n first second last ya na y_is ya_is yes_reached n_is na_is no_reached
    merged =
    let f : ℕ → Result ℤ FaultKind = λ k. by_flag (at flags k) (a k) (b k) in
    let p : ℕ → Bool = λ k. wants true (at flags k) in
    let q : ℕ → Bool = λ k. wants false (at flags k) in
    let yes_here = Reaches_same ya (λ j. f (get_or (picked p l) j 0)) (at ones) y first
    (λ j below. ya_is j below ∙ sym (ap
    (λ (c : Bool). chosen c (a (get_or (picked p l) j 0)) (b (get_or (picked p l) j 0)))
    (picked_pass p l j (subst (λ (m : ℕ). j < m) y_is below)))) yes_reached in
    let no_here = Reaches_same na (λ j. f (get_or (picked q l) j 0)) (at others) n second
    (λ j below. na_is j below ∙ sym (ap
    (λ (c : Bool). chosen c (a (get_or (picked q l) j 0)) (b (get_or (picked q l) j 0)))
    (not_true (is_set (at flags (get_or (picked q l) j 0)))
    (picked_pass q l j (subst (λ (m : ℕ). j < m) n_is below))))) no_reached in
    merged f
    (subst (λ (m : ℕ). Reaches (λ j. f (get_or (picked p l) j 0)) (at ones) m first) y_is yes_here)
    (subst (λ (m : ℕ). Reaches (λ j. f (get_or (picked q l) j 0)) (at others) m second) n_is no_here)

-- a test, and then what its flags choose
pub chosen_reaches : (t : ℕ → Result Bool FaultKind) (a b : ℕ → Result ℤ FaultKind) (flags out : List ℤ) (live : ℕ)
    (tested last : Reached) → Reaches (λ k. flagged (t k)) (at flags) live tested
    → Reaches (λ k. by_flag (at flags k) (a k) (b k)) (at out) tested.live last
    → Reaches (λ k. chosen_value (t k) (a k) (b k)) (at out) live (after last tested)
chosen_reaches t a b flags out live tested last test both =
    let g : ℕ → ℤ → Result ℤ FaultKind = λ k z. by_flag z (a k) (b k) in
    Reaches_same (λ k. on (flagged (t k)) (g k)) (λ k. chosen_value (t k) (a k) (b k)) (at out) live (after last tested)
    (λ k below. chosen_is (t k) (a k) (b k))
    (Reaches_on (λ k. flagged (t k)) g (at flags) (at out) live tested last test both)
  where
    chosen_is : (r : Result Bool FaultKind) (x y : Result ℤ FaultKind)
        → on (flagged r) (λ z. by_flag z x y) ≡ chosen_value r x y
    chosen_is (Ok true) x y = refl
    chosen_is (Ok false) x y = refl
    chosen_is (Err kind) x y = refl

-- a test, and then what its flags choose, where each lane has a value
pub chosen_everywhere : (t : ℕ → Result Bool FaultKind) (a b : ℕ → Result ℤ FaultKind) (flags out : List ℤ) (live : ℕ)
    (tested : Reached) → Reaches (λ k. flagged (t k)) (at flags) live tested
    → ((k : ℕ) → k < tested.live → by_flag (at flags k) (a k) (b k) ≡ Ok (at out k))
    → Reaches (λ k. chosen_value (t k) (a k) (b k)) (at out) live
    (after (record { live = tested.live; fault = None }) tested)
chosen_everywhere t a b flags out live tested test values =
    chosen_reaches t a b flags out live tested (record { live = tested.live; fault = None }) test
    (record { within = omega arith; values = values; stop = refl })

chosen_ok : (c : Bool) (x y : ℤ) → chosen {A = Result ℤ FaultKind} c (Ok x) (Ok y) ≡ Ok (if c then x else y)
chosen_ok true x y = refl
chosen_ok false x y = refl

-- the one of two values that is wanted, where both are known
pub chosen_ones : (c : Bool) (x y w : ℤ) (a b : Result ℤ FaultKind) → w ≡ (if c then x else y) → a ≡ Ok x → b ≡ Ok y
    → chosen c a b ≡ Ok w
chosen_ones c x y w a b is a_is b_is = rw (is, a_is, b_is) (chosen_ok c x y)
