-- What may be left unwalked.
use Rattle.std.proofs.Common.{◌≡◌, ℕ, zero, suc, ◌+◌, ◌-◌, ◌≤◌, List, [], ◌∷◌, ◌++◌, length, take, drop, sym, refl, ap}
use Rattle.std.proofs.Common.{◌∙◌, subst, inl, inr, ⊎_elim, arith, length-append}
use Rattle.std.proofs.Math.Seq.{take-append-add}
use Rattle.std.proofs.lemmas.List.{take-append-le}
use mathlib.Core.Logic.{dite}
use native.Mathlib.Decide.{dec_le}
use Rattle.lambda_values.specs.declared.item.Item.{Item}
use Rattle.trace.specs.declared.item.End.{End}
use Rattle.trace.specs.declared.item.End.TheVariants as end
use Rattle.trace.specs.Trace.{Trace, trace, then_on, append}
use Rattle.early_stop.specs.Decisive.{BeginsAs, Decides}
use Rattle.early_stop.specs.Leaving.{IsEnough}

-- fewer items of a beginning
take_less : (j k : ℕ) (xs ys : List Item) → j ≤ k → take k xs ≡ take k ys → take j xs ≡ take j ys
take_less zero k xs ys h e = refl
take_less (suc j) zero xs ys h e = absurd (omega arith)
take_less (suc j) (suc k) [] [] h e = refl
take_less (suc j) (suc k) [] (y ∷ ys) h e = absurd (grind arith)
take_less (suc j) (suc k) (x ∷ xs) [] h e = absurd (grind arith)
take_less (suc j) (suc k) (x ∷ xs) (y ∷ ys) h e =
    (let r = take_less j k xs ys (omega arith) (ap (drop 1) e) in λ i. ap (take 1) e i ++ r i)

pub begins_less : (j k : ℕ) (s t : Trace) → j ≤ k → BeginsAs k s t → BeginsAs j s t
begins_less j k s t h (b, w) = (
  (λ low. dite (dec_le k (length s.items)) (λ d. take_less j k t.items s.items h (b d))
      (λ d. ap (λ (u : Trace). take j u.items) (w (omega arith)))),
  λ few. w (omega arith),
)

-- a beginning has that number of items
long_take : (k : ℕ) (xs ys : List Item) → k ≤ length ys → take k xs ≡ take k ys → k ≤ length xs
long_take zero xs ys h e = omega arith
long_take (suc k) xs [] h e = absurd (omega arith)
long_take (suc k) [] (y ∷ ys) h e = absurd (grind arith)
long_take (suc k) (x ∷ xs) (y ∷ ys) h e = let r = long_take k xs ys (omega arith) (ap (drop 1) e) in omega arith

-- what follows the first k items of both
begins_on : (k : ℕ) (s t b c : Trace) → k ≤ length s.items → take k t.items ≡ take k s.items
    → take k (append t c).items ≡ take k (append s b).items
begins_on k s t b c h e = front t c (long_take k t.items s.items h e) ∙ e ∙ sym (front s b h)
  where
    front_on : (xs : List Item) (e : End) (b : Trace) → k ≤ length xs → take k (then_on xs e b).items ≡ take k xs
    front_on xs end.Done b h = take-append-le k xs b.items h
    front_on xs (end.Fault f) b h = refl

    front : (s b : Trace) → k ≤ length s.items → take k (append s b).items ≡ take k s.items
    front s b h = front_on s.items s.ending b h

long_append : (s b : Trace) → length s.items ≤ length (append s b).items
long_append s b = long_on s.items s.ending
  where
    long_on : (xs : List Item) (e : End) → length xs ≤ length (then_on xs e b).items
    long_on xs end.Done = let l = length-append xs b.items in omega arith
    long_on xs (end.Fault f) = omega arith

-- a walk, and then a beginning of k more
begins_after : (xs : List Item) (e : End) (k : ℕ) (s t : Trace) → BeginsAs k s t
    → BeginsAs (length xs + k) (then_on xs e s) (then_on xs e t)
begins_after xs end.Done k s t (b, w) = (
  (λ low. take-append-add xs t.items k ∙ ap (λ (l : List Item). xs ++ l)
      (b (let l = length-append xs s.items in omega arith)) ∙ sym (take-append-add xs s.items k)),
  λ few. ap (λ (u : Trace). trace (xs ++ u.items) u.ending) (w (let l = length-append xs s.items in omega arith)),
)
begins_after xs (end.Fault f) k s t b = ((λ low. refl), λ few. refl)

-- a beginning, with whatever follows it, of a walk that goes on
begins_cut : (k : ℕ) (s t b d : Trace) → k ≤ length s.items → BeginsAs k s t → BeginsAs k (append s b) (append t d)
begins_cut k s t b d h w = (
  (λ low. begins_on k s t b d h (w.0 h)),
  λ few. let l = long_append s b in
      absurd (omega arith),
)

module _ (decides : ℕ → Type 0) where
  -- a piece that was walked
  pub enough_walked : (at : ℕ) (s : Trace) → IsEnough decides at s s
  enough_walked at s = inl refl

  -- a piece that begins at or right of a decisive place
  pub enough_left : (at c : ℕ) (s t : Trace) → decides c → c ≤ at → IsEnough decides at s t
  enough_left at c s t ok h = let z : c - at ≡ 0 = omega arith in
      inr (c, ok, subst (λ k. BeginsAs k s t) (sym z) ((λ low. refl), λ few. absurd (omega arith)))

  -- pieces side by side
  pub enough_joined : (at : ℕ) (s t b d : Trace) → IsEnough decides at s t → IsEnough decides (at + length s.items) b d
      → IsEnough decides at (append s b) (append t d)
  enough_joined at s t b d left right = ⊎_elim
      (λ (e : t ≡ s). subst (λ u. IsEnough decides at (append s b) (append u d)) (sym e) (by_right right))
      (λ (l : (c : ℕ) × decides c × BeginsAs (c - at) s t). by_left l right)
      left
    where
      -- the left one was walked
      by_right : IsEnough decides (at + length s.items) b d → IsEnough decides at (append s b) (append s d)
      by_right r = ⊎_elim
          (λ (e : d ≡ b). inl (ap (append s) e))
          (λ (r : (c : ℕ) × decides c × BeginsAs (c - (at + length s.items)) b d). inr (
            r.0,
            r.1,
            begins_less (r.0 - at) (length s.items + (r.0 - (at + length s.items))) (append s b)
                (append s d) (omega arith) (begins_after s.items s.ending (r.0 - (at + length s.items)) b d r.2),
          ))
          r

      by_left : (c : ℕ) × decides c × BeginsAs (c - at) s t → IsEnough decides (at + length s.items) b d
          → IsEnough decides at (append s b) (append t d)
      by_left (c, ok, w) r = dite (dec_le (c - at) (length s.items))
          (λ h. inr (c, ok, begins_cut (c - at) s t b d h w))
          (λ h. let same : t ≡ s = w.1 (omega arith) in
          subst (λ u. IsEnough decides at (append s b) (append u d)) (sym same) (by_right r))

-- the whole gives what the source gives
pub enough_gives : {O : Type 0} (outcome : Trace → O) (s t : Trace) → IsEnough (Decides outcome s) 0 s t
    → outcome t ≡ outcome s
enough_gives outcome s t e = ⊎_elim
    (λ (h : t ≡ s). ap outcome h)
    (λ (h : (c : ℕ) × Decides outcome s c × BeginsAs (c - 0) s t). let z : h.0 - 0 ≡ h.0 = omega arith in
    h.1 t (subst (λ k. BeginsAs k s t) z h.2))
    e

-- if fewer places are known, no fewer walks describe a piece
pub enough_as : (decides decides' : ℕ → Type 0) (at : ℕ) (s t : Trace) → ((c : ℕ) → decides c → decides' c)
    → IsEnough decides at s t → IsEnough decides' at s t
enough_as decides decides' at s t to e = ⊎_elim
    (λ (h : t ≡ s). inl h)
    (λ (h : (c : ℕ) × decides c × BeginsAs (c - at) s t). inr (h.0, to h.0 h.1, h.2))
    e
