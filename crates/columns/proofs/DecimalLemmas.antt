-- Digits before a point and after it, and what they are worth with zeros after them.
use Rattle.std.proofs.Common.{◌≡◌, ◌<◌, ◌≤◌, ◌+◌, ◌-◌, ◌*◌, ◌^◌, ◌++◌, ◌∷◌, ◌∙◌, ◌&&◌, ◌⊎◌, [], ℕ, zero, suc, List}
use Rattle.std.proofs.Common.{Bool, true, false, Option, Some, None, IfSome, IfNone, refl, sym, ap, inl, inr, arith}
use Rattle.std.proofs.Common.{length, take, drop, get_or, fold, take-append-drop}
use Rattle.std.proofs.Math.Nat.{mul_assoc, mul_comm, pow-suc}
use Rattle.std.proofs.lemmas.List.Folds.{list_all-append}
use Rattle.std.proofs.lemmas.Nat.{pow-add}
use Rattle.std.proofs.lemmas.List.Sums.{fold-append, fold_more}
use Rattle.std.specs.List.{list_all}
use Rattle.std.specs.Char.{is_ascii_digit}
use Rattle.columns.specs.Cell.{digits_value}
use Rattle.columns.specs.Decimals.{zeros}

-- ---- more digits

grows : (n : ℕ) (ds : List ℕ) → n ≤ fold (λ n d. 10 * n + (d - 48)) n ds
grows n [] = omega arith
grows n (d ∷ ds) = omega (arith, grows (10 * n + (d - 48)) ds)

-- one digit more of some after a number
pub digit_more : (n : ℕ) (ds : List ℕ) (i d : ℕ) → i < length ds
    → 10 * fold (λ n d. 10 * n + (d - 48)) n (take i ds) + (get_or ds i d - 48) ≤ fold (λ n d. 10 * n + (d - 48)) n ds
digit_more n ds i d h =
    let front = take (i + 1) ds in
    let whole = fold-append (λ n d. 10 * n + (d - 48)) n front (drop (i + 1) ds) in
    let e = ap (fold (λ n d. 10 * n + (d - 48)) n) (take-append-drop (i + 1) ds) in
    omega (
      arith,
      whole,
      e,
      grows (fold (λ n d. 10 * n + (d - 48)) n front) (drop (i + 1) ds),
      fold_more (λ n d. 10 * n + (d - 48)) n ds i d h,
    )

-- ---- powers of ten

pub power_more : (n i : ℕ) → n * 10 ^ (i + 1) ≡ 10 * (n * 10 ^ i)
power_more n i =
    let one : i + 1 ≡ suc i = omega arith in
    ap (λ k. n * 10 ^ k) one ∙ ap (λ p. n * p) (pow-suc 10 i) ∙ sym (mul_assoc n (10 ^ i) 10) ∙ mul_comm (n * 10 ^ i) 10

power_grows : (a k : ℕ) → a ≤ a * 10 ^ k
power_grows a zero = omega arith
power_grows a (suc k) =
    let more : a * 10 ^ suc k ≡ 10 * (a * 10 ^ k) = ap (λ i. a * 10 ^ i) (omega arith) ∙ power_more a k in
    omega (arith, power_grows a k, more)

pub power_after : (n i count : ℕ) → i < count → 10 * (n * 10 ^ i) ≤ n * 10 ^ count
power_after n i count h =
    let left = count - (i + 1) in
    let all : count ≡ i + 1 + left = omega arith in
    let split : n * 10 ^ count ≡ n * 10 ^ (i + 1) * 10 ^ left =
    ap (λ k. n * 10 ^ k) all ∙ ap (λ p. n * p) (pow-add 10 (i + 1) left)
    ∙ sym (mul_assoc n (10 ^ (i + 1)) (10 ^ left)) in
    omega (arith, split, power_more n i, power_grows (n * 10 ^ (i + 1)) left)

-- zeros after a number
pub zeros_value : (n k : ℕ) → fold (λ n d. 10 * n + (d - 48)) n (zeros k) ≡ n * 10 ^ k
zeros_value n zero = omega arith
zeros_value n (suc k) =
    let ten : (10 * n + (48 - 48)) * 10 ^ k ≡ 10 * (n * 10 ^ k) =
    ap (λ m. m * 10 ^ k) (omega arith) ∙ mul_assoc 10 n (10 ^ k) in
    let more : n * 10 ^ suc k ≡ 10 * (n * 10 ^ k) = ap (λ i. n * 10 ^ i) (omega arith) ∙ power_more n k in
    zeros_value (10 * n + (48 - 48)) k ∙ ten ∙ sym more

pub zeros_digits : (k : ℕ) → list_all is_ascii_digit (zeros k) ≡ true
zeros_digits zero = refl
zeros_digits (suc k) = zeros_digits k

-- ---- digits before a point, digits after it, and zeros

abbrev worth : ℕ → List ℕ → ℕ
worth n ds = fold (λ n d. 10 * n + (d - 48)) n ds

pub parts_value : (whole fraction : List ℕ) (k : ℕ)
    → digits_value (whole ++ (fraction ++ zeros k))
    ≡ fold (λ n d. 10 * n + (d - 48)) (digits_value whole) fraction * 10 ^ k
parts_value whole fraction k =
    fold-append (λ n d. 10 * n + (d - 48)) 0 whole (fraction ++ zeros k)
    ∙ fold-append (λ n d. 10 * n + (d - 48)) (digits_value whole) fraction (zeros k)
    ∙ zeros_value (worth (digits_value whole) fraction) k

parts_digits : (whole fraction : List ℕ) (k : ℕ)
    → list_all is_ascii_digit (whole ++ (fraction ++ zeros k))
    ≡ (list_all is_ascii_digit whole && list_all is_ascii_digit fraction)
parts_digits whole fraction k =
    rw (
      list_all-append is_ascii_digit whole (fraction ++ zeros k),
      list_all-append is_ascii_digit fraction (zeros k),
      zeros_digits k,
    ) (right (list_all is_ascii_digit whole) (list_all is_ascii_digit fraction))
  where
    right : (a b : Bool) → (a && (b && true)) ≡ (a && b)
    right true true = refl
    right true false = refl
    right false b = refl

pub bad_whole : (whole fraction : List ℕ) (k : ℕ)
    → (list_all is_ascii_digit whole ≡ false) ⊎ (10 ^ 19 ≤ digits_value whole)
    → (list_all is_ascii_digit (whole ++ (fraction ++ zeros k)) ≡ false)
    ⊎ (10 ^ 19 ≤ digits_value (whole ++ (fraction ++ zeros k)))
bad_whole whole fraction k (inl none) = inl (parts_digits whole fraction k ∙ rw none refl)
bad_whole whole fraction k (inr large) = inr (rw (parts_value whole fraction k)
    (omega (arith, large, grows (digits_value whole) fraction, power_grows (worth (digits_value whole) fraction) k)))

pub bad_fraction : (whole fraction : List ℕ) (k size : ℕ) → size ≡ digits_value whole
    → (list_all is_ascii_digit fraction ≡ false) ⊎ (10 ^ 19 ≤ fold (λ n d. 10 * n + (d - 48)) size fraction)
    → (list_all is_ascii_digit (whole ++ (fraction ++ zeros k)) ≡ false)
    ⊎ (10 ^ 19 ≤ digits_value (whole ++ (fraction ++ zeros k)))
bad_fraction whole fraction k size is (inl none) =
    inl (parts_digits whole fraction k ∙ rw none (second (list_all is_ascii_digit whole)))
  where
    second : (a : Bool) → (a && false) ≡ false
    second true = refl
    second false = refl
bad_fraction whole fraction k size is (inr large) = inr (rw (parts_value whole fraction k)
    (omega (arith, rw is at large, power_grows (worth (digits_value whole) fraction) k)))

pub size_some : (whole fraction : List ℕ) (k size more : ℕ) (o : Option ℕ) → size ≡ digits_value whole
    → list_all is_ascii_digit whole ≡ true
    → more ≡ fold (λ n d. 10 * n + (d - 48)) size fraction → list_all is_ascii_digit fraction ≡ true
    → IfSome o (λ m. m ≡ more * 10 ^ k)
    → IfSome o (λ m. (list_all is_ascii_digit (whole ++ (fraction ++ zeros k)) ≡ true)
    × (m ≡ digits_value (whole ++ (fraction ++ zeros k))))
size_some whole fraction k size more None is all grown digits value = tt
size_some whole fraction k size more (Some m) is all grown digits value = (
  parts_digits whole fraction k ∙ rw (all, digits) refl,
  value ∙ ap (λ n. n * 10 ^ k) (grown ∙ ap (λ n. fold (λ n d. 10 * n + (d - 48)) n fraction) is)
      ∙ sym (parts_value whole fraction k),
)

pub size_none : (whole fraction : List ℕ) (k size more : ℕ) (o : Option ℕ) → size ≡ digits_value whole
    → more ≡ fold (λ n d. 10 * n + (d - 48)) size fraction → IfNone o (10 ^ 19 ≤ more * 10 ^ k)
    → IfNone o ((list_all is_ascii_digit (whole ++ (fraction ++ zeros k)) ≡ false)
    ⊎ (10 ^ 19 ≤ digits_value (whole ++ (fraction ++ zeros k))))
size_none whole fraction k size more (Some m) is grown large = tt
size_none whole fraction k size more None is grown large =
    let same : more * 10 ^ k ≡ digits_value (whole ++ (fraction ++ zeros k)) =
    ap (λ n. n * 10 ^ k) (grown ∙ ap (λ n. fold (λ n d. 10 * n + (d - 48)) n fraction) is)
    ∙ sym (parts_value whole fraction k) in
    inr (rw same at large)
