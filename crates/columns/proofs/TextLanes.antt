-- Lanes of bytes of which some end a field.
use Rattle.std.proofs.Common.{◌≡◌, ◌⊎◌, ◌<◌, ◌≤◌, ◌+◌, ◌-◌, ◌%◌, [], ◌∷◌, ◌==◌, ◌||◌, ℕ, List, Bool, not, cond, refl}
use Rattle.std.proofs.Common.{sym, ap, inl, inr, arith, map, w8, Fits}
use Rattle.std.proofs.lemmas.Bool.{cases_Bool}
use Rattle.std.proofs.lemmas.Bool.Decides.{nat_tests}
use Rattle.std.specs.List.{prefix_len}
use lib.Lanes.{Each1}

-- a byte less another one
abbrev pub less : ℕ → ℕ → ℕ
less s b = (b + (256 - s)) % 256

less_zero : (s b : ℕ) → s < 256 → b < 256 → not (less s b == 0) ≡ not (b == s)
less_zero s b hs hb = grind (arith, nat_tests)

-- lanes that aren't zero are bytes that aren't this one
pub others_in_front : (s : ℕ) → s < 256 → (xs : List ℕ) → Each1 (Fits w8) xs
    → prefix_len (λ x. not (x == 0)) (map (less s) xs) ≡ prefix_len (λ c. not (c == s)) xs
others_in_front s hs [] h = refl
others_in_front s hs (x ∷ xs) h = λ t. cond (less_zero s x hs h.0.fits t) (1 + others_in_front s hs xs h.1 t) 0

-- how far lanes go that pass neither of two tests
front_of_two : (p q : ℕ → Bool) (xs : List ℕ)
    → (prefix_len (λ c. not (p c || q c)) xs ≤ prefix_len (λ c. not (p c)) xs)
    × (prefix_len (λ c. not (p c || q c)) xs ≤ prefix_len (λ c. not (q c)) xs)
    × ((prefix_len (λ c. not (p c || q c)) xs ≡ prefix_len (λ c. not (p c)) xs)
    ⊎ (prefix_len (λ c. not (p c || q c)) xs ≡ prefix_len (λ c. not (q c)) xs))
front_of_two p q [] = (omega arith, omega arith, inl refl)
front_of_two p q (x ∷ xs) = elim (cases_Bool (p x)) [
  | inl first ↦ rw first (omega arith, omega arith, inl refl)
  | inr first ↦ elim (cases_Bool (q x)) [
    | inl second ↦ rw (first, second) (omega arith, omega arith, inr refl)
    | inr neither ↦
        let (a, b, either) = front_of_two p q xs in
        rw (first, neither) (
          omega (arith, a),
          omega (arith, b),
          elim either [ inl e ↦ inl (ap (λ n. 1 + n) e) | inr e ↦ inr (ap (λ n. 1 + n) e) ],
        )
  ]
]

lesser_is : (r n m a : ℕ) → r ≤ n → r ≤ m → (r ≡ n) ⊎ (r ≡ m) → a ≤ n → a ≤ m → (a ≡ n) ⊎ (a ≡ m) → r ≡ a
lesser_is r n m a u v (inl e) x y (inl f) = omega (arith, e, f)
lesser_is r n m a u v (inl e) x y (inr f) = omega (arith, e, f, u, v, x, y)
lesser_is r n m a u v (inr e) x y (inl f) = omega (arith, e, f, u, v, x, y)
lesser_is r n m a u v (inr e) x y (inr f) = omega (arith, e, f)

pub front_of_both : (p q : ℕ → Bool) (xs : List ℕ) (r n m : ℕ) → n ≡ prefix_len (λ c. not (p c)) xs
    → m ≡ prefix_len (λ c. not (q c)) xs → r ≤ n → r ≤ m → (r ≡ n) ⊎ (r ≡ m)
    → r ≡ prefix_len (λ c. not (p c || q c)) xs
front_of_both p q xs r n m is_n is_m u v one =
    let (a, b, either) = front_of_two p q xs in
    lesser_is r n m (prefix_len (λ c. not (p c || q c)) xs) u v one (rw (sym is_n) at a) (rw (sym is_m) at b)
    (rw (sym is_n, sym is_m) at either)
