-- What is found at the beginning of bytes.
use Rattle.std.proofs.Common.{◌≡◌, ◌≢◌, ℕ, zero, suc, ℤ, pos, negsuc, ◌+◌, ◌%◌, ◌<◌, ◌^◌, Bool, true, false, List, []}
use Rattle.std.proofs.Common.{◌∷◌, ◌++◌, length, Option, Some, None, MatchOption, refl, sym, ap, subst, ◌∙◌, arith}
use Rattle.std.proofs.Common.{rules, not, true≢false, FitsSigned, take, drop}
use Rattle.std.specs.Prelude.{slice_index, IsUtf8}
use denote.Ref.{Bor}
use lib.Signed.{mag}
use Rattle.std.specs.Int.{w64}
use Rattle.std.specs.List.{list_all, position, position_or_len}
use Rattle.std.specs.Fmt.{decimal, signed_decimal}
use Rattle.std.proofs.lemmas.Fmt.{decimal_by_steps, decimal_nonempty}
use Rattle.std.proofs.Math.Seq.{take-append_seam, drop-append_seam}
use Rattle.std.proofs.lemmas.Grind.{common_steps}
use Rattle.std.proofs.lemmas.Str.{IsUtf8-from_ascii}
use Rattle.merge_run.specs.Taken.{is_plain, is_number_byte, ends_text}

pub nothing : {A B : Type 0} {x : A} → None ≡ Some x → B
nothing e = absurd cc

pub cut_at : (end : ℕ) (bytes text rest : List ℕ) → end ≡ length text → bytes ≡ text ++ rest
    → (take end bytes ≡ text) × (drop end bytes ≡ rest)
cut_at end bytes text rest is same = (
  ap (λ n. take n bytes) is ∙ ap (take (length text)) same ∙ take-append_seam text rest,
  ap (λ n. drop n bytes) is ∙ ap (drop (length text)) same ∙ drop-append_seam text rest,
)

-- what follows a text
abbrev pub IsAfter : List ℕ → Option (Bor (List ℕ)) → Type 0
IsAfter rest None = ⊥
IsAfter rest (Some left) = left.now ≡ rest

-- what follows a text is found where the text is
pub left_after : (result : Option (Bor (List ℕ))) (bytes text rest : List ℕ)
    → MatchOption result ((left : List ℕ) → bytes ≢ text ++ left) (λ left. bytes ≡ text ++ left.now)
    → bytes ≡ text ++ rest → IsAfter rest result
left_after None bytes text rest found same = found rest same
left_after (Some left) bytes text rest found same = append_cancel text left.now rest (sym found ∙ same)
  where
    append_cancel : (xs ys zs : List ℕ) → xs ++ ys ≡ xs ++ zs → ys ≡ zs
    append_cancel [] ys zs e = e
    append_cancel (x ∷ xs) ys zs e = append_cancel xs ys zs (ap (drop 1) e)

both : (p : ℕ → Bool) (b : ℕ) (bs : List ℕ) → list_all p (b ∷ bs) ≡ true → (p b ≡ true) × (list_all p bs ≡ true)
both p b bs all = search rules

first_at : (p : ℕ → Bool) (xs ys : List ℕ) (b : ℕ) → list_all (λ x. not (p x)) xs ≡ true → p b ≡ true
    → position_or_len p (xs ++ b ∷ ys) ≡ length xs
first_at p [] ys b all is = grind (arith, common_steps, is)
first_at p (x ∷ xs) ys b all is =
    let parts = both (λ x. not (p x)) x xs all in
    let more = first_at p xs ys b parts.1 is in
    grind (arith, common_steps, parts.0, more)

pub at_first : (p : ℕ → Bool) (xs ys : List ℕ) (b : ℕ) → list_all (λ x. not (p x)) xs ≡ true → p b ≡ true
    → position p (xs ++ b ∷ ys) ≡ Some (length xs)
at_first p xs ys b all is =
    let first = first_at p xs ys b all is in
    grind (arith, common_steps, first)

-- a text goes up to its quote
pub text_ends : (text rest bytes : List ℕ) → is_plain text ≡ true → bytes ≡ text ++ 34 ∷ rest
    → position ends_text bytes ≡ Some (length text)
text_ends text rest bytes all same = ap (position ends_text) same ∙ at_first ends_text text rest 34 all refl

-- the bytes of a number go up to the first byte that no number has
pub number_ends : (digits rest : List ℕ) (b : ℕ) (bytes : List ℕ) → list_all is_number_byte digits ≡ true
    → is_number_byte b ≡ false → bytes ≡ digits ++ b ∷ rest
    → position (λ x. not (is_number_byte x)) bytes ≡ Some (length digits)
number_ends digits rest b bytes all is same =
    let none : list_all (λ x. not (not (is_number_byte x))) digits ≡ true = not_other digits all in
    ap (position (λ x. not (is_number_byte x))) same
    ∙ at_first (λ x. not (is_number_byte x)) digits rest b none (ap not is)
  where
    not_other : (ds : List ℕ) → list_all is_number_byte ds ≡ true
        → list_all (λ x. not (not (is_number_byte x))) ds ≡ true
    not_other [] h = refl
    not_other (d ∷ ds) h =
        let parts = both is_number_byte d ds h in
        let more = not_other ds parts.1 in
        search rules

more_bytes : (xs ys : List ℕ) → list_all is_number_byte xs ≡ true → list_all is_number_byte ys ≡ true
    → list_all is_number_byte (xs ++ ys) ≡ true
more_bytes [] ys h k = k
more_bytes (x ∷ xs) ys h k =
    let parts = both is_number_byte x xs h in
    let more = more_bytes xs ys parts.1 k in
    search rules

digit_byte : (n : ℕ) → n < 10 → is_number_byte (48 + n) ≡ true
digit_byte n h = grind (arith, h)

pub decimal_bytes : (n : ℕ) → n < 2 ^ 64 → list_all is_number_byte (decimal n) ≡ true
decimal_bytes = decimal_by_steps (λ n ds. list_all is_number_byte ds ≡ true)
    (λ n h. let is = digit_byte n h in search rules)
    (λ n ds h all. let is = digit_byte (n % 10) (omega arith) in more_bytes ds ((48 + n % 10) ∷ []) all (search rules))

pub number_bytes : (z : ℤ) → FitsSigned w64 z → list_all is_number_byte (signed_decimal z) ≡ true
number_bytes (pos n) h = decimal_bytes n (omega (arith, h))
number_bytes (negsuc n) h = let all = decimal_bytes (suc n) (omega (arith, h)) in search rules

byte_small : (b : ℕ) → is_number_byte b ≡ true → b < 128
byte_small b is = grind (arith, is)

bytes_small : (bs : List ℕ) → list_all is_number_byte bs ≡ true → (i : ℕ) → slice_index bs i < 128
bytes_small [] all i = omega arith
bytes_small (b ∷ bs) all zero = byte_small b (both is_number_byte b bs all).0
bytes_small (b ∷ bs) all (suc i) = bytes_small bs (both is_number_byte b bs all).1 i

bytes_text : (bs : List ℕ) → list_all is_number_byte bs ≡ true → IsUtf8 bs
bytes_text bs all = IsUtf8-from_ascii bs (bytes_small bs all)

pub small_number : (z : ℤ) → FitsSigned w64 z → mag z < 2 ^ 63
small_number (pos n) h = omega (arith, h)
small_number (negsuc n) h = omega (arith, h)

pub number_text : (z : ℤ) (bytes : List ℕ) → FitsSigned w64 z → bytes ≡ signed_decimal z → IsUtf8 bytes
number_text z bytes fits same = subst IsUtf8 (sym same) (bytes_text (signed_decimal z) (number_bytes z fits))

pub count_text : (n : ℕ) (bytes : List ℕ) → n < 2 ^ 64 → bytes ≡ decimal n → IsUtf8 bytes
count_text n bytes small same = subst IsUtf8 (sym same) (bytes_text (decimal n) (decimal_bytes n small))

no_other : (ds xs ys : List ℕ) (b : ℕ) → 0 < length ds → list_all is_number_byte ds ≡ true → is_number_byte b ≡ false
    → ds ++ xs ≢ b ∷ ys
no_other [] xs ys b some all is e = absurd (omega (arith, some))
no_other (d ∷ ds) xs ys b some all is e =
    let same : d ≡ b = ap (λ bs. slice_index bs 0) e in
    true≢false (sym (both is_number_byte d ds all).0 ∙ ap is_number_byte same ∙ is)

-- no number begins with a byte that no number has
pub no_count : (n : ℕ) (xs ys : List ℕ) (b : ℕ) → n < 2 ^ 64 → is_number_byte b ≡ false → decimal n ++ xs ≢ b ∷ ys
no_count n xs ys b small = no_other (decimal n) xs ys b (decimal_nonempty n small) (decimal_bytes n small)

pub no_number : (z : ℤ) (xs ys : List ℕ) (b : ℕ) → FitsSigned w64 z → is_number_byte b ≡ false
    → signed_decimal z ++ xs ≢ b ∷ ys
no_number (pos n) xs ys b fits = no_count n xs ys b (omega (arith, fits))
no_number (negsuc n) xs ys b fits = no_other (signed_decimal (negsuc n)) xs ys b (omega arith)
    (number_bytes (negsuc n) fits)
