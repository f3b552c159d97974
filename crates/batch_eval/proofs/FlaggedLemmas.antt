-- The items of lanes whose flag is set, lane by lane.
use Rattle.std.proofs.Common.{◌≡◌, ℕ, zero, suc, ◌+◌, ◌<◌, ◌≤◌, ℤ, Bool, true, false, List, [], ◌∷◌, ◌++◌, length, map}
use Rattle.std.proofs.Common.{take, Option, Some, Ok, Err, if◌then◌else◌, refl, sym, ap, subst, ◌∙◌, arith, add-one}
use Rattle.std.proofs.Common.{append_assoc, length-append}
use Rattle.std.proofs.lemmas.List.{append-nil, get_or_at, get_or-take, length-take-le, map-append}
use Rattle.std.proofs.Math.Seq.{take-append_seam}
use Rattle.std.proofs.lemmas.Option.{slice_get-get_or}
use Rattle.std.specs.List.{slice_get}
use Rattle.std.specs.declared.alloc.AllocError.{AllocError}
use Rattle.lambda_values.specs.declared.item.Item.{Item}
use Rattle.trace.specs.declared.item.End.TheVariants as end
use Rattle.trace.specs.declared.feeding.Fed.TheVariants as fed
use Rattle.trace.specs.Trace.{trace}
use Rattle.trace.specs.Sinks.{IsFed}
use Rattle.batch_eval.specs.Lanes.{at, flag_of, is_set}
use Rattle.batch_eval.specs.Batches.{flagged_items, flagged_values, gathered, origin_at}
use Rattle.batch_eval.proofs.BatchWalkLemmas.{IsFed_enough, IsFed_refused}
use Rattle.batch_eval.proofs.Walks.{gathered_same, later}

abbrev item_if : Bool → Item → List Item
item_if b x = if b then x ∷ [] else []

-- an item of a list, after those before it
at_seam : (xs ys : List Item) (y : Item) → slice_get (xs ++ y ∷ ys) (length xs) ≡ Some y
at_seam xs ys y =
    slice_get-get_or (xs ++ y ∷ ys) (length xs) y (omega (arith, length-append xs (y ∷ ys)))
    ∙ ap (λ (x : Item). Some x) (get_or_at xs y ys y (length xs) refl)

module _ (p : ℤ → Bool) (start : Option ℕ) (origins : List ℕ) (value : ℕ → ℤ) (flags : List ℤ) where
  -- the item of a lane
  abbrev pub item : ℕ → Item
  item k = record { origin = origin_at start origins k; value = value k }

  -- the items of the first n lanes
  abbrev pub front : ℕ → List Item
  front n = gathered n (λ k. if p (at flags k) then item k ∷ [] else [])

  -- a lane more
  pub front_set : (n : ℕ) → p (at flags n) ≡ true → front (n + 1) ≡ front n ++ item n ∷ []
  front_set n set = rw (add-one, set) refl

  pub front_unset : (n : ℕ) → p (at flags n) ≡ false → front (n + 1) ≡ front n
  front_unset n unset = rw (add-one, unset) (append-nil (front n))

  -- lanes of which none is set
  pub front_none : (n : ℕ) → ((k : ℕ) → k < n → p (at flags k) ≡ false) → front n ≡ []
  front_none zero none = refl
  front_none (suc n) none =
      rw (none n (omega arith)) (append-nil (front n)) ∙ front_none n (λ k below. none k (omega arith))

  -- all items are those before a lane that is set, its own, and those after it
  around : (n : ℕ) → n < length flags → p (at flags n) ≡ true
      → (rest : List Item) × (flagged_items p start origins value flags
      ≡ front n ++ item n ∷ rest)
  around n within set =
      let x = item n in
      let all = later (n + 1) (length flags) (λ k. if p (at flags k) then item k ∷ [] else [])
      (omega arith) in
      (all.0, all.1 ∙ ap (λ (ys : List Item). ys ++ all.0) (front_set n set) ∙ append_assoc (front n) (x ∷ []) all.0)

  module _ {S : Type 0} (h : S → List Item → Type 0) (xs : List Item) (n : ℕ) (s : S) where
    pub flagged_enough : n < length flags → p (at flags n) ≡ true
        → h s ((xs ++ front n) ++ item n ∷ [])
        → IsFed h xs (trace (flagged_items p start origins value flags) end.Done) (Ok fed.Enough) s
    flagged_enough within set took =
        let x = item n in
        let all = around n within set in
        let whole : List Item = front n ++ x ∷ all.0 in
        let before : take (length (front n)) whole ≡ front n = take-append_seam (front n) (x ∷ all.0) in
        let given = subst (λ (ys : List Item). h s ((xs ++ ys) ++ x ∷ [])) (sym before) took in
        subst (λ (ys : List Item). IsFed h xs (trace ys end.Done) (Ok fed.Enough) s) (sym all.1)
        (IsFed_enough h xs (trace whole end.Done) (length (front n)) x s (at_seam (front n) all.0 x) given)

    pub flagged_refused : n < length flags → p (at flags n) ≡ true → (e : AllocError) → h s (xs ++ front n)
        → IsFed h xs (trace (flagged_items p start origins value flags) end.Done) (Err e) s
    flagged_refused within set e took =
        let x = item n in
        let all = around n within set in
        let whole : List Item = front n ++ x ∷ all.0 in
        let before : take (length (front n)) whole ≡ front n = take-append_seam (front n) (x ∷ all.0) in
        let given = subst (λ (ys : List Item). h s (xs ++ ys)) (sym before) took in
        subst (λ (ys : List Item). IsFed h xs (trace ys end.Done) (Err e) s) (sym all.1)
        (IsFed_refused h xs (trace whole end.Done) (length (front n)) x e s (at_seam (front n) all.0 x) given)

  -- the values of the items of the first n lanes
  front_values : (n : ℕ) → map (λ (x : Item). x.value) (front n) ≡ flagged_values p value flags n
  front_values zero = refl
  front_values (suc n) = by_flag (p (at flags n)) (front_values n) where
    by_flag : (b : Bool) → map (λ (x : Item). x.value) (front n) ≡ flagged_values p value flags n
        → map (λ (x : Item). x.value) (front n ++ item_if b (item n))
        ≡ flagged_values p value flags n ++ (if b then value n ∷ [] else [])
    by_flag true before = map-append (λ (x : Item). x.value) (front n) (item n ∷ [])
        ∙ ap (λ (vs : List ℤ). vs ++ value n ∷ []) before
    by_flag false before = ap (λ (ys : List Item). map (λ (x : Item). x.value) ys) (append-nil (front n)) ∙ before
        ∙ sym (append-nil (flagged_values p value flags n))

  pub values_flagged : map (λ (x : Item). x.value) (flagged_items p start origins value flags)
      ≡ flagged_values p value flags (length flags)
  values_flagged = front_values (length flags)

pub set_flag : (b : Bool) → is_set (flag_of b) ≡ b
set_flag true = refl
set_flag false = refl

-- flags that were cut to the lanes that go on
pub flags_cut : (p : ℤ → Bool) (start : Option ℕ) (origins : List ℕ) (value : ℕ → ℤ) (flags : List ℤ) (n : ℕ)
    → n ≤ length flags → flagged_items p start origins value (take n flags)
    ≡ gathered n (λ k. item_if (is_set (flag_of (p (at flags k)))) (item p start origins value flags k))
flags_cut p start origins value flags n within =
    let f : ℕ → List Item = λ k. item_if (p (at (take n flags) k)) (item p start origins value flags k) in
    let g : ℕ → List Item = λ k. item_if (is_set (flag_of (p (at flags k)))) (item p start origins value flags k) in
    ap (λ (m : ℕ). gathered m f) (length-take-le n flags within)
    ∙ gathered_same n f g (λ k below. ap (λ (b : Bool). item_if b (item p start origins value flags k))
    (ap p (get_or-take n flags k _ below) ∙ sym (set_flag (p (at flags k)))))
