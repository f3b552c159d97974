-- Numbers that stand in a text, and the numbers of cells.
use Rattle.std.proofs.Common.{◌≡◌, ◌≢◌, ◌<◌, ◌≤◌, ◌+◌, ◌-◌, ◌-ℤ◌, ◌*◌, ◌^◌, ◌/◌, ◌%◌, ◌++◌, ◌∷◌, ◌∙◌, [], ℕ, ℤ, pos}
use Rattle.std.proofs.Common.{neg_ℤ, negsuc, zero, suc, List, true, false, Option, Some, None, IfSome, refl, sym, ap}
use Rattle.std.proofs.Common.{inl, inr, arith, length, take, drop, get_or, FitsSigned, to_z, of_z, w64}
use Rattle.std.proofs.lemmas.List.{append-nil, drop_more, get_or-drop, length-append, length-drop, length-take}
use Rattle.std.proofs.lemmas.List.{take_more}
use Rattle.std.proofs.lemmas.Bool.{cases_Bool}
use Rattle.std.proofs.lemmas.Bool.Decides.{nat_tests}
use Rattle.std.proofs.lemmas.Fmt.{decimal_by_steps}
use Rattle.std.specs.Fmt.{decimal, signed_decimal}
use Rattle.std.proofs.lemmas.List.Folds.{drop_split, list_all-append}
use Rattle.std.proofs.lemmas.List.Sums.{fold-append}
use Rattle.std.proofs.lemmas.Int.{fits_signed_from_abs, to_z_pos, to_z-of_z}
use Rattle.std.proofs.Math.IntN.{+ℤ_idl}
use Rattle.std.specs.List.{list_all}
use Rattle.std.specs.Char.{is_ascii_digit}
use Rattle.columns.specs.Cell.{IsSigned, digits_value, is_blank}
use Rattle.columns.specs.Number.{number_of}
use Rattle.columns.specs.TableForms.{filled}
use Rattle.columns.proofs.SpelledNumbers.{SpellsCell-number_of, digit_no_blank, number_of-SpellsCell}

pub some_list : (ds : List ℕ) → 0 < length ds → ds ≢ []
some_list [] h = absurd (omega arith)
some_list (d ∷ ds) h = λ e. cc e

small_fits : (n : ℕ) → n < 2 ^ 63 → FitsSigned w64 (pos n) × FitsSigned w64 (neg_ℤ (pos n))
small_fits zero h = (fits_signed_from_abs w64 (pos 0) (omega arith), fits_signed_from_abs w64 (pos 0) (omega arith))
small_fits (suc n) h = (
  fits_signed_from_abs w64 (pos (suc n)) (omega arith),
  fits_signed_from_abs w64 (negsuc n) (omega arith),
)

-- a few digits are a number
digits_number : (ds : List ℕ) → 0 < length ds → list_all is_ascii_digit ds ≡ true → digits_value ds < 2 ^ 63
    → number_of ds ≡ Some (pos (digits_value ds))
digits_number ds some all small = number_of-SpellsCell ds (pos (digits_value ds)) (record {
  before = [];
  sign = [];
  digits = ds;
  after = [];
  text = sym (append-nil ds);
  blank_before = refl;
  blank_after = refl;
  some_digit = some_list ds some;
  all_digits = all;
  value = inl (refl, refl);
  fits = (small_fits (digits_value ds) small).0;
})

-- and so are a minus sign and a few digits
minus_number : (ds : List ℕ) → 0 < length ds → list_all is_ascii_digit ds ≡ true → digits_value ds < 2 ^ 63
    → number_of (45 ∷ ds) ≡ Some (neg_ℤ (pos (digits_value ds)))
minus_number ds some all small = number_of-SpellsCell (45 ∷ ds) (neg_ℤ (pos (digits_value ds))) (record {
  before = [];
  sign = 45 ∷ [];
  digits = ds;
  after = [];
  text = ap (λ l. 45 ∷ l) (sym (append-nil ds));
  blank_before = refl;
  blank_after = refl;
  some_digit = some_list ds some;
  all_digits = all;
  value = inr (inr (refl, refl));
  fits = (small_fits (digits_value ds) small).1;
})

-- a byte more from a place on
byte_more : (text : List ℕ) (at end : ℕ) → at ≤ end → end < length text
    → take (end + 1 - at) (drop at text) ≡ take (end - at) (drop at text) ++ get_or text end 0 ∷ []
byte_more text at end h within =
    let one : end + 1 - at ≡ (end - at) + 1 = omega arith in
    let here : at + (end - at) ≡ end = omega arith in
    let inside : end - at < length (drop at text) = omega (arith, length-drop at text) in
    rw one (take_more (drop at text) (end - at) 0 inside
    ∙ ap (λ b. take (end - at) (drop at text) ++ b ∷ [])
    (get_or-drop at text (end - at) 0 ∙ ap (λ i. get_or text i 0) here))

pub digits_more : (text : List ℕ) (at end : ℕ) → at ≤ end → end < length text
    → list_all is_ascii_digit (take (end - at) (drop at text)) ≡ true
    → is_ascii_digit (get_or text end 0) ≡ true → list_all is_ascii_digit (take (end + 1 - at) (drop at text)) ≡ true
digits_more text at end h within all digit =
    rw (
      byte_more text at end h within,
      list_all-append is_ascii_digit (take (end - at) (drop at text))
          (get_or text end 0 ∷ []),
      all,
      digit,
    ) refl

pub value_more : (text : List ℕ) (at end : ℕ) → at ≤ end → end < length text
    → digits_value (take (end + 1 - at) (drop at text))
    ≡ 10 * digits_value (take (end - at) (drop at text)) + (get_or text end 0 - 48)
value_more text at end h within =
    ap digits_value (byte_more text at end h within)
    ∙ fold-append (λ n d. 10 * n + (d - 48)) 0 (take (end - at) (drop at text)) (get_or text end 0 ∷ [])

-- a text from a place on, with a byte or a part of it in front
pub at_byte : (text : List ℕ) (at c : ℕ) → at < length text → get_or text at 0 ≡ c
    → drop at text ≡ c ∷ drop (at + 1) text
at_byte text at c h is = drop_more text at 0 h ∙ ap (λ b. b ∷ drop (at + 1) text) is

pub part : (text : List ℕ) (at end : ℕ) → at ≤ end → drop at text ≡ take (end - at) (drop at text) ++ drop end text
part text at end h = drop_split text at end h

-- a cell of digits from a place on
pub digits_there : (text : List ℕ) (at end v : ℕ) → at < end → end ≤ length text
    → list_all is_ascii_digit (take (end - at) (drop at text)) ≡ true
    → v ≡ digits_value (take (end - at) (drop at text)) → v < 2 ^ 63
    → number_of (take (end - at) (drop at text)) ≡ Some (to_z w64 v)
digits_there text at end v some within all is small =
    let some_digit : 0 < length (take (end - at) (drop at text)) =
    omega (arith, length-take (end - at) (drop at text), length-drop at text) in
    digits_number _ some_digit all (rw is at small)
    ∙ ap Some (rw is (sym (to_z_pos w64 _ (omega (arith, rw is at small)))))

negated : (n : ℕ) → n < 2 ^ 63 → to_z w64 (of_z w64 (pos 0 -ℤ pos n)) ≡ neg_ℤ (pos n)
negated n h =
    let e : pos 0 -ℤ pos n ≡ neg_ℤ (pos n) = +ℤ_idl (neg_ℤ (pos n)) in
    ap (λ z. to_z w64 (of_z w64 z)) e ∙ to_z-of_z w64 (neg_ℤ (pos n)) (small_fits n h).1

pub minus_there : (text : List ℕ) (at end v : ℕ) → at + 1 < end → end ≤ length text → get_or text at 0 ≡ 45
    → list_all is_ascii_digit (take (end - (at + 1)) (drop (at + 1) text)) ≡ true
    → v ≡ digits_value (take (end - (at + 1)) (drop (at + 1) text)) → v < 2 ^ 63
    → number_of (take (end - at) (drop at text)) ≡ Some (to_z w64 (of_z w64 (pos 0 -ℤ to_z w64 v)))
minus_there text at end v some within minus all is small =
    let ds = take (end - (at + 1)) (drop (at + 1) text) in
    let more : end - at ≡ suc (end - (at + 1)) = omega arith in
    let spelled : take (end - at) (drop at text) ≡ 45 ∷ ds = rw (more, at_byte text at 45 (omega arith) minus) refl in
    let some_digit : 0 < length ds = omega
    (arith, length-take (end - (at + 1)) (drop (at + 1) text), length-drop (at + 1) text) in
    let value : to_z w64 v ≡ pos v = to_z_pos w64 v (omega arith) in
    rw (spelled, value) (minus_number ds some_digit all (rw is at small) ∙ ap (λ n. Some (neg_ℤ (pos n))) (sym is)
    ∙ ap Some (sym (negated v small)))

pub both_some : {X : Type 0} (P Q R : X → Type 0) (o : Option X) → IfSome o P → IfSome o Q → ((x : X) → P x → Q x → R x)
    → IfSome o R
both_some P Q R None p q h = tt
both_some P Q R (Some x) p q h = h x p q

-- a number that was passed on doesn't change
pub passed : (cell : List ℕ) (v x : ℤ) → number_of cell ≡ Some v → x ≡ to_z w64 (of_z w64 v) → number_of cell ≡ Some x
passed cell v x h e = h ∙ ap Some (sym (e ∙ to_z-of_z w64 v (SpellsCell-number_of cell v h).fits))

-- a number has a byte
pub number_length : (cell : List ℕ) (n : ℤ) → number_of cell ≡ Some n → 0 < length cell
number_length cell n h =
    let s = SpellsCell-number_of cell n h in
    let long : 0 < length s.digits = some_length s.digits s.some_digit in
    rw s.text (omega (
      arith,
      long,
      length-append s.before (s.sign ++ (s.digits ++ s.after)),
      length-append s.sign (s.digits ++ s.after),
      length-append s.digits s.after,
    ))
  where
    some_length : (ds : List ℕ) → ds ≢ [] → 0 < length ds
    some_length [] some = absurd (some refl)
    some_length (d ∷ ds) some = omega arith

-- ---- blank cells

-- blanks spell no number
all_blank : (before sign digits after : List ℕ) (m : ℕ) (n : ℤ) → IsSigned sign m n → digits ≢ []
    → list_all is_ascii_digit digits ≡ true
    → list_all is_blank (before ++ (sign ++ (digits ++ after))) ≡ false
all_blank (b ∷ before) sign digits after m n s some all = elim (cases_Bool (is_blank b)) [
  | inl blank ↦ rw blank (all_blank before sign digits after m n s some all)
  | inr other ↦ rw other refl
]
all_blank [] sign [] after m n s some all = absurd (some refl)
all_blank [] sign (d ∷ digits) after m n (inl s) some all = rw s.0 (elim (cases_Bool (is_ascii_digit d)) [
  | inl digit ↦ rw (digit_no_blank d digit) refl
  | inr other ↦ cc (rw other at all)
])
all_blank [] sign (d ∷ digits) after m n (inr (inl s)) some all = rw s.0 refl
all_blank [] sign (d ∷ digits) after m n (inr (inr s)) some all = rw s.0 refl

no_blank : (cell : List ℕ) (n : ℤ) → number_of cell ≡ Some n → list_all is_blank cell ≡ false
no_blank cell n h =
    let s = SpellsCell-number_of cell n h in
    rw s.text (all_blank s.before s.sign s.digits s.after (digits_value s.digits) n s.value s.some_digit s.all_digits)

-- a cell that spells a number is no blank one
pub filled_number : (b : Option ℤ) (cell : List ℕ) (n : ℤ) → number_of cell ≡ Some n
    → number_of (filled b cell) ≡ Some n
filled_number None cell n h = h
filled_number (Some m) cell n h = rw (no_blank cell n h) h

-- a number that is written out

abbrev pub IsWritten : ℕ → List ℕ → Type 0
IsWritten m ds = (0 < length ds) × (list_all is_ascii_digit ds ≡ true) × (digits_value ds ≡ m)

pub written : (m : ℕ) → m < 2 ^ 64 → IsWritten m (decimal m)
written = decimal_by_steps IsWritten one more
  where
    digit : (d : ℕ) → d < 10 → is_ascii_digit (48 + d) ≡ true
    digit d h = grind (arith, nat_tests)

    one : (n : ℕ) → n < 10 → IsWritten n ((48 + n) ∷ [])
    one n h = (omega arith, rw (digit n h) refl, omega arith)

    more : (n : ℕ) (ds : List ℕ) → 10 ≤ n → IsWritten (n / 10) ds → IsWritten n (ds ++ ((48 + n % 10) ∷ []))
    more n ds h (some, all, value) = (
      omega (arith, length-append ds ((48 + n % 10) ∷ [])),
      rw (list_all-append is_ascii_digit ds ((48 + n % 10) ∷ []), all, digit (n % 10) (omega arith)) refl,
      fold-append (λ m d. 10 * m + (d - 48)) 0 ds ((48 + n % 10) ∷ []) ∙ omega (arith, value),
    )

pub number_written : (n : ℤ) → FitsSigned w64 n → number_of (signed_decimal n) ≡ Some n
number_written (pos m) fits =
    let (some, all, value) = written m (omega (arith, fits.sfits)) in
    number_of-SpellsCell (decimal m) (pos m) (record {
      before = [];
      sign = [];
      digits = decimal m;
      after = [];
      text = sym (append-nil (decimal m));
      blank_before = refl;
      blank_after = refl;
      some_digit = some_list (decimal m) some;
      all_digits = all;
      value = inl (refl, ap pos (sym value));
      fits = fits;
    })
number_written (negsuc m) fits =
    let (some, all, value) = written (suc m) (omega (arith, fits.sfits)) in
    number_of-SpellsCell (45 ∷ decimal (suc m)) (negsuc m) (record {
      before = [];
      sign = 45 ∷ [];
      digits = decimal (suc m);
      after = [];
      text = ap (λ l. 45 ∷ l) (sym (append-nil (decimal (suc m))));
      blank_before = refl;
      blank_after = refl;
      some_digit = some_list (decimal (suc m)) some;
      all_digits = all;
      value = inr (inr (refl, ap (λ k. neg_ℤ (pos k)) (sym value)));
      fits = fits;
    })
