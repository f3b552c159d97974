-- How the slots of a token change as the last of two arrivals takes its values out of them.
use Rattle.std.proofs.Common.{◌≡◌, ℕ, zero, suc, ◌-◌, ◌<◌, Bool, true, false, not, List, [], ◌∷◌, ◌++◌, sym, refl, ap}
use Rattle.std.proofs.Common.{◌∙◌, subst, arith, Option, Some, None}
use Rattle.std.proofs.lemmas.Grind.{common_steps}
use Rattle.atomic_table.specs.Table.{Me, rest, turned}
use Rattle.completion_core.specs.declared.action.Reply.TheVariants.{Pending, Last}
use Rattle.completion_core.specs.Legal.{reply_of_arrival}
use Rattle.pending_count.specs.declared.view.View.{View}
use Rattle.pending_count.specs.declared.place.Side.{Side}
use Rattle.pending_count.specs.declared.place.Side.TheVariants.{Left, Right}
use Rattle.pending_count.specs.declared.place.Slot.{Slot}
use Rattle.pending_count.specs.declared.place.Slot.TheVariants.{Value, Kept as KeptValue}
use Rattle.pending_count.specs.Views.{taken_view}
use Rattle.pending_count.specs.Pairs.{side_of}

module _ {A : Type 0} where
  abbrev head_of : A → List (ℕ × A) → A
  head_of d [] = d
  head_of d (x ∷ xs) = x.1

  pub head_value : (l : List (ℕ × A)) (s s' : ℕ) (a b : A) (xs ys : List (ℕ × A)) → l ≡ (s, a) ∷ xs → l ≡ (s', b) ∷ ys
      → a ≡ b
  head_value l s s' a b xs ys e f = ap (head_of a) (sym e ∙ f)

  -- the slot in front, by the number that the code gives it
  pub in_front : (l : List (ℕ × A)) (s s' : ℕ) (a : A) (xs : List (ℕ × A)) → s ≡ s' → l ≡ (s, a) ∷ xs
      → l ≡ (s', a) ∷ rest l
  in_front l s s' a xs is e = e ∙ (λ q. (is q, a) ∷ xs) ∙ ap (λ k. (s', a) ∷ k) (sym (ap rest e))

  pub after_turn : (l l' l'' : List (ℕ × A)) (x y : ℕ × A) (xs : List (ℕ × A)) (s : ℕ) (n : A) → l ≡ x ∷ y ∷ xs
      → l' ≡ (s, n) ∷ rest l → l'' ≡ turned l' → l'' ≡ y ∷ (xs ++ (s, n) ∷ [])
  after_turn l l' l'' x y xs s n e f g = g ∙ ap turned (f ∙ ap (λ k. (s, n) ∷ rest k) e)

module _ {S T : Type 0} where
  -- a token's slots and view once a slot was taken and filled
  pub loaded : (slot own slot' : ℕ) (m0 m1 m2 : Me (Option S) (View T)) (x : Option S) → slot ≡ slot' → own ≡ slot'
      → m1.0 ≡ taken_view slot m0.0 → m2 ≡ (m1.0, (own, x) ∷ rest m1.1)
      → m2 ≡ (taken_view slot' m0.0, (slot', x) ∷ rest m1.1)
  loaded slot own slot' m0 m1 m2 x is is' taken e =
      e ∙ (λ q. ((taken ∙ ap (λ k. taken_view k m0.0) is) q, (is' q, x) ∷ rest m1.1))

module _ {V K : Type 0} where
  abbrev value_of : V → Option (Slot V K) → V
  value_of d None = d
  value_of d (Some (Value x)) = x
  value_of d (Some (KeptValue k)) = d

  abbrev kept_of : K → Option (Slot V K) → K
  kept_of d None = d
  kept_of d (Some (Value x)) = d
  kept_of d (Some (KeptValue k)) = k

  pub value_is : (o : Option (Slot V K)) (x y : V) → o ≡ Some (Value x) → o ≡ Some (Value y) → x ≡ y
  value_is o x y e f = ap (value_of x) (sym e ∙ f)

  pub kept_is : (o : Option (Slot V K)) (x y : K) → o ≡ Some (KeptValue x) → o ≡ Some (KeptValue y) → x ≡ y
  kept_is o x y e f = ap (kept_of x) (sym e ∙ f)

-- by whether the own side is the left one
pub by_side : {V T : Type 0} (fits : T → Side → V → Type 0) (tag : T) (b : Bool) (ours theirs l r : V)
    → (b ≡ true → (l ≡ ours) × (r ≡ theirs)) → (b ≡ false → (l ≡ theirs) × (r ≡ ours)) → fits tag (side_of b) ours
    → fits tag (side_of (not b)) theirs → fits tag Left l × fits tag Right r
by_side fits tag true ours theirs l r p q x y = let h = p refl in
    (subst (fits tag Left) (sym h.0) x, subst (fits tag Right) (sym h.1) y)
by_side fits tag false ours theirs l r p q x y = let h = q refl in
    (subst (fits tag Left) (sym h.0) y, subst (fits tag Right) (sym h.1) x)

pub answers_pending : (n : ℕ) → 0 < n → (n ≡ 1 → ⊥) → Pending (n - 2) ≡ reply_of_arrival (n - 1)
answers_pending zero h m = absurd (omega arith)
answers_pending (suc zero) h m = absurd (m refl)
answers_pending (suc (suc n)) h m = grind (arith, common_steps)

pub answers_last : (n : ℕ) → n ≡ 1 → Last ≡ reply_of_arrival (n - 1)
answers_last n e = ap (λ k. reply_of_arrival (k - 1)) (sym e)
