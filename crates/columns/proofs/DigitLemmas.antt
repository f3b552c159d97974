-- Digits that stand in the bytes of a word.
use Rattle.std.proofs.Common.{◌≡◌, ◌<◌, ◌+◌, ◌*◌, ◌/◌, ◌%◌, ◌^◌, ◌∷◌, ◌∙◌, [], ℕ, List, refl, ap, arith, length}
use Rattle.std.proofs.lemmas.Nat.{and_block, and_mask}
use Rattle.std.specs.Int.Digits.{AllBelowBase, number_from_digits}
use lib.Bits.{bit_and}
use lib.Lanes.{number_l}

-- a mask takes the lower byte of two
low_byte : (r hi lo m : ℕ) → hi < 256 → lo < 256
    → bit_and (r * 65536 + (hi * 256 + lo)) (m * 65536 + 255) ≡ bit_and r m * 65536 + lo
low_byte r hi lo m H L =
    let one : bit_and (hi * 256 + lo) 255 ≡ lo = and_mask (hi * 256 + lo) 8 ∙ omega arith in
    and_block 16 r m (hi * 256 + lo) 255 (omega arith) (omega arith) ∙ ap (λ x. bit_and r m * 65536 + x) one

-- a mask takes the lower byte of each pair of bytes
low_bytes : (a b c d f g i j : ℕ) → a < 256 → b < 256 → c < 256 → d < 256 → f < 256 → g < 256 → i < 256 → j < 256
    → bit_and ((((j * 256 + i) * 65536 + (g * 256 + f)) * 65536 + (d * 256 + c)) * 65536 + (b * 256 + a))
    0x00ff_00ff_00ff_00ff
    ≡ ((i * 65536 + f) * 65536 + c) * 65536 + a
low_bytes a b c d f g i j A B C D F G I J =
    let last : bit_and (j * 256 + i) 255 ≡ i = and_mask (j * 256 + i) 8 ∙ omega arith in
    let third = low_byte (j * 256 + i) g f 255 G F ∙ ap (λ x. x * 65536 + f) last in
    let second = low_byte ((j * 256 + i) * 65536 + (g * 256 + f)) d c 0x00ff_00ff D C ∙ ap (λ x. x * 65536 + c) third in
    low_byte (((j * 256 + i) * 65536 + (g * 256 + f)) * 65536 + (d * 256 + c)) b a 0x00ff_00ff_00ff B A
    ∙ ap (λ x. x * 65536 + a) second

-- a mask takes the lower sixteen bits of each half
low_halves : (p q r s : ℕ) → p < 65536 → q < 65536 → r < 65536 → s < 65536
    → bit_and (((s * 65536 + r) * 65536 + q) * 65536 + p) 0x0000_ffff_0000_ffff ≡ r * 4294967296 + p
low_halves p q r s P Q R S =
    let split : ((s * 65536 + r) * 65536 + q) * 65536 + p ≡ (s * 65536 + r) * 2 ^ 32 + (q * 65536 + p) = omega arith in
    let high : bit_and (s * 65536 + r) 65535 ≡ r = and_mask (s * 65536 + r) 16 ∙ omega arith in
    let low : bit_and (q * 65536 + p) 65535 ≡ p = and_mask (q * 65536 + p) 16 ∙ omega arith in
    ap (λ w. bit_and w 0x0000_ffff_0000_ffff) split
    ∙ and_block 32 (s * 65536 + r) 65535 (q * 65536 + p) 65535 (omega arith) (omega arith)
    ∙ (λ t. high t * 2 ^ 32 + low t)

-- what the three steps make of a word
abbrev pub worth : ℕ → ℕ
worth word =
    let pairs = bit_and word 0x00ff_00ff_00ff_00ff * 10 + bit_and (word / 256) 0x00ff_00ff_00ff_00ff in
    let fours = bit_and pairs 0x0000_ffff_0000_ffff * 100 + bit_and (pairs / 65536) 0x0000_ffff_0000_ffff in
    bit_and fours 4294967295 * 10000 + fours / 4294967296

-- the last two steps, from four numbers of two digits
from_pairs : (p q r s pairs : ℕ) → p < 100 → q < 100 → r < 100 → s < 100
    → pairs ≡ ((s * 65536 + r) * 65536 + q) * 65536 + p
    → (fours : ℕ) → fours ≡ bit_and pairs 0x0000_ffff_0000_ffff * 100 + bit_and (pairs / 65536) 0x0000_ffff_0000_ffff
    → bit_and fours 4294967295 * 10000 + fours / 4294967296 ≡ p * 1000000 + q * 10000 + r * 100 + s
from_pairs p q r s pairs P Q R S e fours is =
    let down : pairs / 65536 ≡ ((0 * 65536 + s) * 65536 + r) * 65536 + q = omega arith in
    let even = ap (λ w. bit_and w 0x0000_ffff_0000_ffff) e
    ∙ low_halves p q r s (omega arith) (omega arith) (omega arith) (omega arith) in
    let odd = ap (λ w. bit_and w 0x0000_ffff_0000_ffff) down
    ∙ low_halves q r s 0 (omega arith) (omega arith) (omega arith) (omega arith) in
    let parts : fours ≡ (r * 100 + s) * 4294967296 + (p * 100 + q) = omega (arith, is, even, odd) in
    let low : fours % 2 ^ 32 ≡ p * 100 + q = omega arith in
    omega (arith, and_mask fours 32, low, parts)

-- the number of eight digits
pub worth_is : (word : ℕ) (ds : List ℕ) → length ds ≡ 8 → AllBelowBase 10 ds → word ≡ number_l 256 ds
    → worth word ≡ number_from_digits 10 ds
worth_is word [] long h e = absurd (omega arith)
worth_is word (a ∷ []) long h e = absurd (omega arith)
worth_is word (a ∷ b ∷ []) long h e = absurd (omega arith)
worth_is word (a ∷ b ∷ c ∷ []) long h e = absurd (omega arith)
worth_is word (a ∷ b ∷ c ∷ d ∷ []) long h e = absurd (omega arith)
worth_is word (a ∷ b ∷ c ∷ d ∷ f ∷ []) long h e = absurd (omega arith)
worth_is word (a ∷ b ∷ c ∷ d ∷ f ∷ g ∷ []) long h e = absurd (omega arith)
worth_is word (a ∷ b ∷ c ∷ d ∷ f ∷ g ∷ i ∷ []) long h e = absurd (omega arith)
worth_is word (a ∷ b ∷ c ∷ d ∷ f ∷ g ∷ i ∷ j ∷ k ∷ ds) long h e = absurd (omega arith)
worth_is word (a ∷ b ∷ c ∷ d ∷ f ∷ g ∷ i ∷ j ∷ []) long h e =
    let whole : word ≡ (((j * 256 + i) * 65536 + (g * 256 + f)) * 65536 + (d * 256 + c)) * 65536 + (b * 256 + a) =
    omega arith in
    let down : word / 256 ≡ (((0 * 256 + j) * 65536 + (i * 256 + g)) * 65536 + (f * 256 + d)) * 65536 + (c * 256 + b) =
    omega arith in
    let even = ap (λ w. bit_and w 0x00ff_00ff_00ff_00ff) whole
    ∙ low_bytes a b c d f g i j (omega arith) (omega arith) (omega arith) (omega arith) (omega arith) (omega arith)
    (omega arith) (omega arith) in
    let odd = ap (λ w. bit_and w 0x00ff_00ff_00ff_00ff) down
    ∙ low_bytes b c d f g i j 0 (omega arith) (omega arith) (omega arith) (omega arith) (omega arith) (omega arith)
    (omega arith) (omega arith) in
    let pairs : bit_and word 0x00ff_00ff_00ff_00ff * 10 + bit_and (word / 256) 0x00ff_00ff_00ff_00ff
    ≡ (((10 * i + j) * 65536 + (10 * f + g)) * 65536 + (10 * c + d)) * 65536 + (10 * a + b) =
    omega (arith, even, odd) in
    from_pairs _ _ _ _ _ (omega arith) (omega arith) (omega arith) (omega arith) pairs _ refl ∙ omega arith
