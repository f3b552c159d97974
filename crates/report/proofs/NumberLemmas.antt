-- Numbers in a row, and their text.
use Rattle.std.proofs.Common.{◌≡◌, ◌+◌, ◌-◌, ◌∷◌, ◌++◌, ◌∙◌, ℕ, ℤ, pos, negsuc, false, List, [], int_le, refl, sym, ap}
use Rattle.std.proofs.Common.{append_assoc, take, drop, length, arith, true≢false, unsigned_abs}
use lib.Dec.{leb-zero}
use Rattle.std.proofs.Math.Seq.{take-add}
use Rattle.std.proofs.lemmas.List.{take_rest}
use Rattle.std.specs.Fmt.{decimal, signed_decimal}
use Rattle.report.specs.AnswerForms.{further}

-- a negative number is a minus and the digits of its size
pub signed_minus : (z : ℤ) → int_le (pos 0) z ≡ false → 45 ∷ decimal (unsigned_abs z) ≡ signed_decimal z
signed_minus (pos n) negative = absurd (true≢false (sym (leb-zero n) ∙ negative))
signed_minus (negsuc n) negative = refl

-- the text of numbers in a row is the text of some, and then the text of the others
pub further-append : (separator : List ℕ) (xs ys : List ℤ)
    → further separator (xs ++ ys) ≡ further separator xs ++ further separator ys
further-append separator [] ys = refl
further-append separator (x ∷ xs) ys = ap (λ t. separator ++ signed_decimal x ++ t) (further-append separator xs ys)
    ∙ sym (append_assoc (separator ++ signed_decimal x) (further separator xs) (further separator ys))

-- the text of some more numbers was appended
pub further_more : (separator start before after : List ℕ) (xs ys : List ℤ) → before ≡ start ++ further separator xs
    → after ≡ before ++ further separator ys → after ≡ start ++ further separator (xs ++ ys)
further_more separator start before after xs ys so_far appended =
    appended ∙ ap (λ t. t ++ further separator ys) so_far
    ∙ append_assoc start (further separator xs) (further separator ys)
    ∙ ap (λ t. start ++ t) (sym (further-append separator xs ys))

-- the text of some more numbers, which stands at the end of the room, was appended
pub further_next : (separator start before after : List ℕ) (values : List ℤ) (at count : ℕ) (room : List ℕ) (from : ℕ)
    → before ≡ start ++ further separator (take at values)
    → drop from room ≡ further separator (take (at + count - at) (drop at values))
    → after ≡ before ++ take (length room - from) (drop from room)
    → after ≡ start ++ further separator (take (at + count) values)
further_next separator start before after values at count room from so_far put appended =
    let n : at + count - at ≡ count = omega arith in
    let some : drop from room ≡ further separator (take count (drop at values)) =
    put ∙ ap (λ k. further separator (take k (drop at values))) n in
    let both : further separator (take (at + count) values)
    ≡ further separator (take at values) ++ further separator (take count (drop at values)) =
    ap (further separator) (take-add at count values)
    ∙ further-append separator (take at values) (take count (drop at values)) in
    appended ∙ ap (λ t. before ++ t) (take_rest room from ∙ some)
    ∙ ap (λ t. t ++ further separator (take count (drop at values))) so_far
    ∙ append_assoc start (further separator (take at values)) (further separator (take count (drop at values)))
    ∙ ap (λ t. start ++ t) (sym both)
