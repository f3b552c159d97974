-- What digits are worth, one more at a time.
use Rattle.std.proofs.Common.{◌<◌, ◌≤◌, ◌+◌, ◌*◌, ◌-◌, ℕ, List, [], ◌∷◌, take, drop, length, get_or, arith, ap, fold}
use Rattle.std.proofs.Common.{take-append-drop}
use Rattle.std.proofs.lemmas.List.Sums.{fold-append, fold_more}
use Rattle.columns.specs.Cell.{digits_value}

-- more digits are worth no less
grows : (n : ℕ) (ds : List ℕ) → n ≤ fold (λ n d. 10 * n + (d - 48)) n ds
grows n [] = omega arith
grows n (d ∷ ds) = omega (arith, grows (10 * n + (d - 48)) ds)

pub digits_value-take : (ds : List ℕ) (i : ℕ) → digits_value (take i ds) ≤ digits_value ds
digits_value-take ds i =
    let whole = fold-append (λ n d. 10 * n + (d - 48)) 0 (take i ds) (drop i ds) in
    let e = ap digits_value (take-append-drop i ds) in
    omega (arith, whole, e, grows (digits_value (take i ds)) (drop i ds))

pub digits_value_more : (ds : List ℕ) (i d : ℕ) → i < length ds
    → 10 * digits_value (take i ds) + (get_or ds i d - 48) ≤ digits_value ds
digits_value_more ds i d h = omega (
  arith,
  digits_value-take ds (i + 1),
  fold_more (λ n d. 10 * n + (d - 48)) 0 ds i d h,
)
