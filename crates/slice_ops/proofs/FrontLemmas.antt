-- The items before the first one that ends the front of a walk.
use Rattle.std.proofs.Common.{◌≡◌, ℕ, suc, ◌+◌, ◌<◌, ◌≤◌, List, [], ◌∷◌, length, get_or, slice_get, Option, Some, None}
use Rattle.std.proofs.Common.{refl, sym, ap, subst, ◌∙◌, arith}
use Rattle.std.proofs.lemmas.Option.{slice_get_within, get_or_from_slice_get}
use Rattle.lambda_values.specs.declared.item.Item.{Item}
use Rattle.trace.specs.declared.item.End.{End}
use Rattle.trace.specs.Stops.{shift, stop_or, stop_at}
use Rattle.trace.proofs.StopLemmas.{stop_within}
use Rattle.slice_ops.specs.Rests.{before_stop}

same_pair : (a b : ℕ × End) → Some a ≡ Some b → a ≡ b
same_pair a b q = cc

module _ (g : Item → Option End) where
  -- the item at a stop ends the walk
  stop_ends_there : (xs : List Item) (k : ℕ) (v : End) (d : Item) → stop_at g xs ≡ Some (k, v)
      → g (get_or xs k d) ≡ Some v
  stop_ends_there [] k v d e = absurd (let z : None ≡ Some (k, v) = e in cc)
  stop_ends_there (x ∷ xs) k v d e = by_front (stop_ends_there xs) (g x) refl (stop_at g xs) refl e where
    by_front : ((m : ℕ) (u : End) (d : Item) → stop_at g xs ≡ Some (m, u) → g (get_or xs m d) ≡ Some u)
        → (o : Option End) → g x ≡ o → (later : Option (ℕ × End)) → stop_at g xs ≡ later
        → stop_or o (shift 1 later) ≡ Some (k, v) → g (get_or (x ∷ xs) k d) ≡ Some v
    by_front there (Some u) here later is h =
        let z : (0, u) ≡ (k, v) = same_pair (0, u) (k, v) h in
        subst (λ (p : ℕ × End). g (get_or (x ∷ xs) p.0 d) ≡ Some p.1) z here
    by_front there None here (Some q) is h =
        let z : (1 + q.0, q.1) ≡ (k, v) = same_pair (1 + q.0, q.1) (k, v) h in
        let next : suc q.0 ≡ 1 + q.0 = omega arith in
        let later : g (get_or (x ∷ xs) (1 + q.0) d) ≡ Some q.1 =
        ap (λ (n : ℕ). g (get_or (x ∷ xs) n d)) (sym next) ∙ there q.0 q.1 d is in
        subst (λ (p : ℕ × End). g (get_or (x ∷ xs) p.0 d) ≡ Some p.1) z later
    by_front there None here None is h = absurd (let z : None ≡ Some (k, v) = h in cc)

  module _ (xs : List Item) (front : ℕ) (is : front ≡ before_stop (stop_at g xs) xs) where
    pub front_within : front ≤ length xs
    front_within = by (stop_at g xs) refl
      where
        by : (o : Option (ℕ × End)) → stop_at g xs ≡ o → front ≤ length xs
        by None e = let here : front ≡ length xs = is ∙ ap (λ o. before_stop o xs) e in omega arith
        by (Some q) e =
            let few : q.0 < length xs = stop_within g xs q.0 q.1 e in
            let here : front ≡ q.0 = is ∙ ap (λ o. before_stop o xs) e in
            omega (arith, few, here)

    -- the whole walk is the front
    pub whole_front : front ≡ length xs → stop_at g xs ≡ None
    whole_front all = by (stop_at g xs) refl
      where
        by : (o : Option (ℕ × End)) → stop_at g xs ≡ o → stop_at g xs ≡ None
        by None e = e
        by (Some q) e =
            let few : q.0 < length xs = stop_within g xs q.0 q.1 e in
            let here : front ≡ q.0 = is ∙ ap (λ o. before_stop o xs) e in
            absurd (omega (arith, few, here, all))

    -- the item after the front ends it
    pub stopped_there : (x : Item) → slice_get xs front ≡ Some x
        → (v : End) × (g x ≡ Some v) × (stop_at g xs ≡ Some (front, v))
    stopped_there x here = by (stop_at g xs) refl
      where
        within : front < length xs
        within = slice_get_within xs front x here

        by : (o : Option (ℕ × End)) → stop_at g xs ≡ o → (v : End) × (g x ≡ Some v) × (stop_at g xs ≡ Some (front, v))
        by None e = let all : front ≡ length xs = is ∙ ap (λ o. before_stop o xs) e in
            absurd (omega (arith, within, all))
        by (Some q) e =
            let at : q.0 ≡ front = sym (is ∙ ap (λ o. before_stop o xs) e) in
            let ends : g (get_or xs q.0 x) ≡ Some q.1 = stop_ends_there xs q.0 q.1 x e in (
              q.1,
              ap g (sym (ap (λ n. get_or xs n x) at ∙ get_or_from_slice_get xs front x x here)) ∙ ends,
              e ∙ ap (λ (n : ℕ). Some (n, q.1)) at,
            )
