-- Digits that stand in the lanes of a vector, and the words that these make.
use Rattle.std.proofs.Common.{◌≡◌, ◌<◌, ◌≤◌, ◌+◌, ◌-◌, ◌*◌, ◌/◌, ◌%◌, ◌^◌, ◌++◌, ◌∷◌, ◌∙◌, [], ℕ, zero, suc, List, Bool}
use Rattle.std.proofs.Common.{true, false, ◌&&◌, not, cond, leb, refl, sym, ap, inl, inr, arith, length, map, take}
use Rattle.std.proofs.Common.{drop, replicate, fold, lt_of_lt_of_le, mul-lt-mul_of_pos_right, pow_pos, w8, Fits}
use Rattle.std.proofs.lemmas.Bool.{cases_Bool}
use Rattle.std.proofs.lemmas.Bool.Decides.{nat_tests}
use Rattle.std.proofs.lemmas.Nat.{mod_low, mul-mod_first, pow-add}
use Rattle.std.proofs.Math.Nat.{pow-le-pow_right}
use Rattle.std.proofs.lemmas.List.{length-drop, length-map, length-take, take-append-drop, take-map}
use Rattle.std.proofs.lemmas.List.Sums.{prefix_len-le-length}
use Rattle.std.proofs.lemmas.Simd.{Each1-chunk, mask_l-mod, tops_compared, zip2_splat_left}
use Rattle.std.proofs.lemmas.Int.Digits.{number_after_append, number_lt}
use Rattle.std.specs.Int.Digits.{AllBelowBase, number_from_digits, number_from_digits_after}
use Rattle.std.specs.List.{list_all, prefix_len}
use Rattle.std.specs.Char.{is_ascii_digit}
use Rattle.columns.specs.Cell.{digits_value}
use lib.Lanes.{Each1, mask_l, number_l, top, zip2}

-- the mask of the lanes that are ten or more
pub ten_or_more : (v : List ℕ) → length v ≡ 16
    → mask_l (map (top 7) (zip2 (λ a b. cond (leb a b) 255 0) (replicate 16 10) v)) % 2 ^ 64
    ≡ mask_l (map (λ x. leb 10 x) v)
ten_or_more v long =
    ap (λ m. mask_l m % 2 ^ 64) (tops_compared w8 leb (replicate 16 10) v ∙ zip2_splat_left leb 10 16 v long)
    ∙ mask_l-mod (map (λ x. leb 10 x) v) 64 (omega (arith, length-map v (λ x. leb 10 x)))

-- ---- the value of a lane

-- a byte less the digit zero
abbrev pub lane : ℕ → ℕ
lane b = (b + (256 - 48)) % 256

lane_digit : (b : ℕ) → b < 256 → not (leb 10 (lane b)) ≡ is_ascii_digit b
lane_digit b h = grind (arith, nat_tests)

lane_value : (b : ℕ) → is_ascii_digit b ≡ true → lane b ≡ b - 48
lane_value b h = grind (arith, nat_tests)

lane_below : (b : ℕ) → is_ascii_digit b ≡ true → lane b < 10
lane_below b h = grind (arith, nat_tests)

-- lanes below ten are bytes that are digits
pub lanes_in_front : (xs : List ℕ) → Each1 (Fits w8) xs
    → prefix_len (λ x. not (leb 10 x)) (map lane xs) ≡ prefix_len is_ascii_digit xs
lanes_in_front [] h = refl
lanes_in_front (x ∷ xs) h = λ t. cond (lane_digit x h.0.fits t) (1 + lanes_in_front xs h.1 t) 0

pub all_in_front : (xs : List ℕ) → list_all is_ascii_digit (take (prefix_len is_ascii_digit xs) xs) ≡ true
all_in_front [] = refl
all_in_front (x ∷ xs) = elim (cases_Bool (is_ascii_digit x)) [
  | inl digit ↦
      let one : 1 + prefix_len is_ascii_digit xs ≡ suc (prefix_len is_ascii_digit xs) = omega arith in
      rw (digit, one, digit, all_in_front xs) refl
  | inr other ↦ rw other refl
]

both : (a b : Bool) → (a && b) ≡ true → (a ≡ true) × (b ≡ true)
both true b h = (refl, h)
both false b h = cc h

pub digits_below : (xs : List ℕ) → list_all is_ascii_digit xs ≡ true → AllBelowBase 10 (map lane xs)
digits_below [] h = tt
digits_below (x ∷ xs) h = let parts = both (is_ascii_digit x) (list_all is_ascii_digit xs) h in
    (lane_below x parts.0, digits_below xs parts.1)

-- what the lanes write is what the digits are worth
value_after : (n : ℕ) (xs : List ℕ) → list_all is_ascii_digit xs ≡ true
    → number_from_digits_after 10 n (map lane xs) ≡ fold (λ n d. 10 * n + (d - 48)) n xs
value_after n [] h = refl
value_after n (x ∷ xs) h =
    let parts = both (is_ascii_digit x) (list_all is_ascii_digit xs) h in
    let next : n * 10 + lane x ≡ 10 * n + (x - 48) = omega (arith, lane_value x parts.0) in
    ap (λ m. number_from_digits_after 10 m (map lane xs)) next ∙ value_after (10 * n + (x - 48)) xs parts.1

pub value_of_lanes_is : (xs : List ℕ) → list_all is_ascii_digit xs ≡ true
    → number_from_digits 10 (map lane xs) ≡ digits_value xs
value_of_lanes_is xs h = value_after 0 xs h

-- ---- a word of some bytes

pow_byte : (k : ℕ) → 2 ^ (8 * suc k) ≡ 2 ^ (8 * k) * 256
pow_byte k = ap (λ e. 2 ^ e) {y = 8 * k + 8} (omega arith) ∙ pow-add 2 (8 * k) 8

number_append : (xs ys : List ℕ) → number_l 256 (xs ++ ys) ≡ number_l 256 ys * 2 ^ (8 * length xs) + number_l 256 xs
number_append [] ys = omega arith
number_append (x ∷ xs) ys = omega (arith, number_append xs ys, ap (λ p. number_l 256 ys * p) (pow_byte (length xs)))

number_small : (xs : List ℕ) → Each1 (Fits w8) xs → number_l 256 xs < 2 ^ (8 * length xs)
number_small [] h = omega arith
number_small (x ∷ xs) h = omega (arith, h.0.fits, number_small xs h.1, pow_byte (length xs))

-- shifted up until the first c bytes are the last of c + k, a word has these and zeros before them
pub shifted : (xs : List ℕ) (c k : ℕ) → c ≤ length xs → Each1 (Fits w8) xs
    → number_l 256 xs * 2 ^ (8 * k) % 2 ^ (8 * (c + k)) ≡ number_l 256 (take c xs) * 2 ^ (8 * k)
shifted xs c k within fit =
    let a = number_l 256 (take c xs) in
    let b = number_l 256 (drop c xs) in
    let some : length (take c xs) ≡ c = omega (arith, length-take c xs) in
    let whole : number_l 256 xs ≡ b * 2 ^ (8 * c) + a =
    ap (number_l 256) (sym (take-append-drop c xs)) ∙ number_append (take c xs) (drop c xs)
    ∙ ap (λ n. b * 2 ^ (8 * n) + a) some in
    let small : a < 2 ^ (8 * c) = rw some at (number_small (take c xs) (Each1-chunk (Fits w8) 0 c xs fit)) in
    let top : 2 ^ (8 * (c + k)) ≡ 2 ^ (8 * c) * 2 ^ (8 * k) =
    ap (λ e. 2 ^ e) {y = 8 * c + 8 * k} (omega arith) ∙ pow-add 2 (8 * c) (8 * k) in
    let both : number_l 256 xs * 2 ^ (8 * k) ≡ b * 2 ^ (8 * (c + k)) + a * 2 ^ (8 * k) =
    rw (whole, top) (omega arith) in
    let low : a * 2 ^ (8 * k) < 2 ^ (8 * (c + k)) = rw top (mul-lt-mul_of_pos_right small (pow_pos (8 * k))) in
    rw both (mod_low b (8 * (c + k)) (a * 2 ^ (8 * k)) low)

-- zeros before digits
pub zeros_before : (k : ℕ) (ds : List ℕ) → AllBelowBase 10 ds
    → AllBelowBase 10 (replicate k 0 ++ ds) × (number_l 256 (replicate k 0 ++ ds) ≡ number_l 256 ds * 2 ^ (8 * k))
    × (number_from_digits 10 (replicate k 0 ++ ds) ≡ number_from_digits 10 ds)
    × (length (replicate k 0 ++ ds) ≡ k + length ds)
zeros_before zero ds h = (h, omega arith, refl, omega arith)
zeros_before (suc k) ds h =
    let r = zeros_before k ds h in
    ((omega arith, r.0), omega (arith, r.1, ap (λ p. number_l 256 ds * p) (pow_byte k)), r.2, omega (arith, r.3))

-- where c of the digits stand after zeros in n bytes
pub at_the_end : (xs : List ℕ) (c n word : ℕ) → c ≤ n → n ≤ length xs → Each1 (Fits w8) xs → AllBelowBase 10 (take c xs)
    → word ≡ number_l 256 xs * 2 ^ (8 * (n - c)) % 2 ^ (8 * n)
    → (ds : List ℕ) × (length ds ≡ n) × AllBelowBase 10 ds × (word ≡ number_l 256 ds)
    × (number_from_digits 10 ds ≡ number_from_digits 10 (take c xs))
at_the_end xs c n word few within fit digits is =
    let z = zeros_before (n - c) (take c xs) digits in
    let all : c + (n - c) ≡ n = omega arith in
    let up = rw all at (shifted xs c (n - c) (omega arith) fit) in
    (replicate (n - c) 0 ++ take c xs, omega (arith, z.3, length-take c xs), z.0, is ∙ up ∙ sym z.1, z.2)

below-take : (n : ℕ) (ds : List ℕ) → AllBelowBase 10 ds → AllBelowBase 10 (take n ds)
below-take zero ds h = tt
below-take (suc n) [] h = tt
below-take (suc n) (d ∷ ds) h = (h.0, below-take n ds h.1)

below-drop : (n : ℕ) (ds : List ℕ) → AllBelowBase 10 ds → AllBelowBase 10 (drop n ds)
below-drop zero ds h = h
below-drop (suc n) [] h = tt
below-drop (suc n) (d ∷ ds) h = below-drop n ds h.1

digits_fit : (ds : List ℕ) → AllBelowBase 10 ds → Each1 (Fits w8) ds
digits_fit [] h = tt
digits_fit (d ∷ ds) h = (record { fits = omega (arith, h.0) }, digits_fit ds h.1)

-- eight digits after some others
eight_after : (n : ℕ) (ds : List ℕ) → length ds ≡ 8
    → number_from_digits_after 10 n ds ≡ n * 10 ^ 8 + number_from_digits 10 ds
eight_after n [] long = absurd (omega arith)
eight_after n (a ∷ []) long = absurd (omega arith)
eight_after n (a ∷ b ∷ []) long = absurd (omega arith)
eight_after n (a ∷ b ∷ c ∷ []) long = absurd (omega arith)
eight_after n (a ∷ b ∷ c ∷ d ∷ []) long = absurd (omega arith)
eight_after n (a ∷ b ∷ c ∷ d ∷ f ∷ []) long = absurd (omega arith)
eight_after n (a ∷ b ∷ c ∷ d ∷ f ∷ g ∷ []) long = absurd (omega arith)
eight_after n (a ∷ b ∷ c ∷ d ∷ f ∷ g ∷ i ∷ []) long = absurd (omega arith)
eight_after n (a ∷ b ∷ c ∷ d ∷ f ∷ g ∷ i ∷ j ∷ []) long = omega arith
eight_after n (a ∷ b ∷ c ∷ d ∷ f ∷ g ∷ i ∷ j ∷ k ∷ ds) long = absurd (omega arith)

-- sixteen digits in two words
pub halves : (word : ℕ) (ds : List ℕ) → length ds ≡ 16 → AllBelowBase 10 ds → word ≡ number_l 256 ds
    → (length (take 8 ds) ≡ 8) × (length (drop 8 ds) ≡ 8) × AllBelowBase 10 (take 8 ds) × AllBelowBase 10 (drop 8 ds)
    × (word % 2 ^ 64 ≡ number_l 256 (take 8 ds)) × (word / 2 ^ 64 ≡ number_l 256 (drop 8 ds))
    × (number_from_digits 10 (take 8 ds) < 10 ^ 8) × (number_from_digits 10 (drop 8 ds) < 10 ^ 8)
    × (number_from_digits 10 (take 8 ds) * 100000000 + number_from_digits 10 (drop 8 ds) ≡ number_from_digits 10 ds)
halves word ds long below is =
    let front = take 8 ds in
    let back = drop 8 ds in
    let eight : length front ≡ 8 = omega (arith, length-take 8 ds) in
    let rest : length back ≡ 8 = omega (arith, length-drop 8 ds) in
    let low = below-take 8 ds below in
    let high = below-drop 8 ds below in
    let parts : number_l 256 ds ≡ number_l 256 back * 2 ^ 64 + number_l 256 front =
    ap (number_l 256) (sym (take-append-drop 8 ds)) ∙ number_append front back
    ∙ ap (λ k. number_l 256 back * 2 ^ (8 * k) + number_l 256 front) eight in
    let small : number_l 256 front < 2 ^ 64 = rw eight at (number_small front (digits_fit front low)) in
    let few : number_from_digits 10 front < 10 ^ 8 = rw eight at (number_lt 10 front low) in
    let few_more : number_from_digits 10 back < 10 ^ 8 = rw rest at (number_lt 10 back high) in
    let joined : number_from_digits 10 ds ≡ number_from_digits_after 10 (number_from_digits 10 front) back =
    ap (number_from_digits 10) (sym (take-append-drop 8 ds)) ∙ number_after_append 10 0 front back in (
      eight,
      rest,
      low,
      high,
      omega (arith, is, parts, small),
      omega (arith, is, parts, small),
      few,
      few_more,
      sym (joined ∙ eight_after _ back rest),
    )

-- a vector of bytes as one word
whole_word : (v : List ℕ) → length v ≡ 16 → Each1 (Fits w8) v
    → (number_l 256 v / 2 ^ 64 % 2 ^ 64) * 2 ^ 64 % 2 ^ 128 + number_l 256 v % 2 ^ 64 ≡ number_l 256 v
whole_word v long fit = let small : number_l 256 v < 2 ^ 128 = rw long at (number_small v fit) in omega arith

-- up to eight digits, moved to the end of a word
pub in_one : (v : List ℕ) (count word : ℕ) → length v ≡ 16 → Each1 (Fits w8) v → count ≤ 8
    → AllBelowBase 10 (take count v)
    → word ≡ number_l 256 v % 2 ^ 64 * 2 ^ (64 - 8 * count) % 2 ^ 64
    → (ds : List ℕ) × (length ds ≡ 8) × AllBelowBase 10 ds × (word ≡ number_l 256 ds)
    × (number_from_digits 10 ds ≡ number_from_digits 10 (take count v))
in_one v count word long fit few digits is =
    let shift : 64 - 8 * count ≡ 8 * (8 - count) = omega arith in
    at_the_end v count 8 word few (omega arith) fit digits
    (is ∙ mul-mod_first (number_l 256 v) (2 ^ (64 - 8 * count)) (2 ^ 64)
    ∙ ap (λ k. number_l 256 v * 2 ^ k % 2 ^ 64) shift)

-- up to sixteen, moved to the end of two
pub in_two : (v : List ℕ) (count high low word : ℕ) → length v ≡ 16 → Each1 (Fits w8) v → count ≤ 16
    → AllBelowBase 10 (take count v)
    → high ≡ number_l 256 v / 2 ^ 64 % 2 ^ 64 → low ≡ number_l 256 v % 2 ^ 64
    → word ≡ (high * 2 ^ 64 % 2 ^ 128 + low) * 2 ^ (128 - 8 * count) % 2 ^ 128
    → (ds : List ℕ) × (length ds ≡ 16) × AllBelowBase 10 ds × (word ≡ number_l 256 ds)
    × (number_from_digits 10 ds ≡ number_from_digits 10 (take count v))
in_two v count high low word long fit few digits h l is =
    let both : high * 2 ^ 64 % 2 ^ 128 + low ≡ number_l 256 v = omega (arith, h, l, whole_word v long fit) in
    let shift : 128 - 8 * count ≡ 8 * (16 - count) = omega arith in
    at_the_end v count 16 word few (omega arith) fit digits
    (is ∙ ap (λ w. w * 2 ^ (128 - 8 * count) % 2 ^ 128) both ∙ ap (λ k. number_l 256 v * 2 ^ k % 2 ^ 128) shift)

-- the digits at the front of sixteen bytes
pub front : (xs lanes : List ℕ) (count : ℕ) → length xs ≡ 16 → Each1 (Fits w8) xs → lanes ≡ map lane xs
    → count ≡ prefix_len (λ x. not (leb 10 x)) lanes
    → (count ≡ prefix_len is_ascii_digit xs) × (count ≤ 16) × AllBelowBase 10 (take count lanes)
    × (number_from_digits 10 (take count lanes) ≡ digits_value (take count xs))
    × (number_from_digits 10 (take count lanes) < 10 ^ 16)
    × (list_all is_ascii_digit (take count xs) ≡ true)
front xs lanes count long fit are is =
    let counted : count ≡ prefix_len is_ascii_digit xs =
    is ∙ ap (prefix_len (λ x. not (leb 10 x))) are ∙ lanes_in_front xs fit in
    let few : count ≤ 16 = omega (arith, counted, prefix_len-le-length is_ascii_digit xs) in
    let all : list_all is_ascii_digit (take count xs) ≡ true = rw counted (all_in_front xs) in
    let taken : take count lanes ≡ map lane (take count xs) = ap (take count) are ∙ take-map lane count xs in
    let below : AllBelowBase 10 (take count lanes) = rw taken (digits_below (take count xs) all) in
    let short : length (take count lanes) ≤ 16 = omega (arith, few, length-take count lanes) in (
      counted,
      few,
      below,
      ap (number_from_digits 10) taken ∙ value_of_lanes_is (take count xs) all,
      lt_of_lt_of_le (number_lt 10 (take count lanes) below) (pow-le-pow_right (omega arith) short),
      all,
    )
