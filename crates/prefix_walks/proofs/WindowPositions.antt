-- Positions of the elements at positions of a list.
use Rattle.std.proofs.Common.{◌≡◌, ℕ, zero, suc, ◌+◌, ◌-◌, ◌<◌, min, List, [], ◌∷◌, length, take, drop, Option, Some}
use Rattle.std.proofs.Common.{None, sym, ap, ◌∙◌, arith}
use Rattle.std.proofs.lemmas.List.{drop-drop, length-drop, length-take}
use Rattle.lambda_values.specs.declared.item.Item.{Item}
use Rattle.prefix_walks.specs.Pieces.{earlier, elements, moved, span}
use Rattle.prefix_walks.proofs.Elements.{clamped, drop_taken, take_none, take_of_none}

-- the end of positions within others
abbrev inner_end : ℕ → Option ℕ → Option ℕ → Option ℕ
inner_end f None None = None
inner_end f None (Some b) = Some (f + b)
inner_end f (Some t) None = Some t
inner_end f (Some t) (Some b) = Some (min t (f + b))

module _ {A : Type 0} where
  take_of_taken : (m n : ℕ) (xs : List A) → take m (take n xs) ≡ take (min m n) xs
  take_of_taken m n [] = ap (take m) (take_of_none n) ∙ take_of_none m ∙ sym (take_of_none (min m n))
  take_of_taken zero n (x ∷ xs) = let e : min 0 n ≡ 0 = omega arith in
      take_none (take n (x ∷ xs)) ∙ sym (ap (λ k. take k (x ∷ xs)) e)
  take_of_taken (suc m) zero (x ∷ xs) = let e : min (suc m) 0 ≡ 0 = omega arith in sym (ap (λ k. take k (x ∷ xs)) e)
  take_of_taken (suc m) (suc n) (x ∷ xs) = let e : suc (min m n) ≡ min (suc m) (suc n) = omega arith in
      ap (λ (zs : List A). x ∷ zs) (take_of_taken m n xs) ∙ ap (λ k. take k (x ∷ xs)) e

  -- positions of the elements at positions
  elements_within : (a f : ℕ) (p o : Option ℕ) (xs : List A)
      → elements a p (elements f o xs) ≡ elements (f + a) (inner_end f o p) xs
  elements_within a f None None xs = drop-drop a f xs
  elements_within a f None (Some t) xs =
      let e : (t - f) - a ≡ t - (f + a) = omega arith in
      drop_taken a (t - f) (drop f xs) ∙ ap (take ((t - f) - a)) (drop-drop a f xs)
      ∙ ap (λ k. take k (drop (f + a) xs)) e
  elements_within a f (Some b) None xs =
      let e : b - a ≡ (f + b) - (f + a) = omega arith in
      ap (take (b - a)) (drop-drop a f xs) ∙ ap (λ k. take k (drop (f + a) xs)) e
  elements_within a f (Some b) (Some t) xs =
      let e : min (b - a) ((t - f) - a) ≡ min t (f + b) - (f + a) = omega arith in
      ap (take (b - a)) (drop_taken a (t - f) (drop f xs) ∙ ap (take ((t - f) - a)) (drop-drop a f xs))
      ∙ take_of_taken (b - a) ((t - f) - a) (drop (f + a) xs) ∙ ap (λ k. take k (drop (f + a) xs)) e

  -- a window without its first positions, and these alone
  pub drop_within : (n f : ℕ) (o : Option ℕ) (xs : List A) → elements (f + n) o xs ≡ drop n (elements f o xs)
  drop_within n f None xs = sym (elements_within n f None None xs)
  drop_within n f (Some t) xs = sym (elements_within n f None (Some t) xs)

  pub take_within : (n f : ℕ) (o : Option ℕ) (xs : List A)
      → elements f (earlier o (Some (f + n))) xs ≡ take n (elements f o xs)
  take_within n f None xs = let e : (f + n) - f ≡ n = omega arith in ap (λ k. take k (drop f xs)) e
  take_within n f (Some t) xs =
      let e : min n (t - f) ≡ min t (f + n) - f = omega arith in
      sym (take_of_taken n (t - f) (drop f xs) ∙ ap (λ k. take k (drop f xs)) e)

  same_elements : (f g : ℕ) (o p : Option ℕ) (xs : List A) → min f (length xs) ≡ min g (length xs)
      → span f o (length xs) ≡ span g p (length xs) → elements f o xs ≡ elements g p xs
  same_elements f g o p xs e k = clamped f o xs ∙ (λ i. take (k i) (drop (e i) xs)) ∙ sym (clamped g p xs)

  -- positions of the elements at positions that are numbers of 64 bits
  window_within : (a f : ℕ) (p o : Option ℕ) (xs : List A) → length xs < 18446744073709551616
      → elements a p (elements f o xs) ≡ elements (min (f + a) 18446744073709551615) (earlier o (moved p f)) xs
  window_within a f None None xs h = elements_within a f None None xs
      ∙ same_elements (f + a) (min (f + a) 18446744073709551615) None None xs (omega arith) (omega arith)
  window_within a f None (Some t) xs h =
      elements_within a f None (Some t) xs
      ∙ same_elements (f + a) (min (f + a) 18446744073709551615) (Some t) (Some t) xs (omega arith) (omega arith)
  window_within a f (Some b) None xs h =
      elements_within a f (Some b) None xs
      ∙ same_elements (f + a) (min (f + a) 18446744073709551615) (Some (f + b))
      (Some (min (f + b) 18446744073709551615)) xs (omega arith) (omega arith)
  window_within a f (Some b) (Some t) xs h =
      elements_within a f (Some b) (Some t) xs
      ∙ same_elements (f + a) (min (f + a) 18446744073709551615) (Some (min t (f + b)))
      (Some (min t (min (f + b) 18446744073709551615))) xs (omega arith) (omega arith)

  -- the number of elements is the number of positions within the list
  length_elements : (from : ℕ) (to : Option ℕ) (xs : List A) → length (elements from to xs) ≡ span from to (length xs)
  length_elements from None xs = length-drop from xs
  length_elements from (Some to) xs = let l = length-drop from xs in
      length-take (to - from) (drop from xs) ∙ omega arith

-- how many items there are at positions of a walk
pub window_size : (f : ℕ) (o : Option ℕ) (xs : List Item) (n count : ℕ) → n ≡ length xs
    → length xs < 18446744073709551616 → count ≡ span f o n
    → count ≡ min (length (elements f o xs)) 18446744073709551615
window_size f None xs n count e h k = let l = length_elements f None xs in omega arith
window_size f (Some t) xs n count e h k = let l = length_elements f (Some t) xs in omega arith

-- the code's window, by what it is made of
pub window_positions : (a f g : ℕ) (p o q r : Option ℕ) (xs : List Item) → length xs < 18446744073709551616
    → g ≡ min (f + a) 18446744073709551615 → r ≡ moved p f → q ≡ earlier o r
    → elements a p (elements f o xs) ≡ elements g q xs
window_positions a f g p o q r xs h e d k =
    window_within a f p o xs h ∙ (λ i. elements (sym e i) ((ap (earlier o) (sym d) ∙ sym k) i) xs)
