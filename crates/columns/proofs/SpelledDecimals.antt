-- A cell spells a number with decimal places exactly where `decimal_of` gives it.
use Rattle.std.proofs.Common.{◌≡◌, ◌≢◌, ◌≤◌, ◌+◌, ◌-◌, ◌*◌, ◌^◌, ◌++◌, ◌∷◌, ◌∙◌, ◌==◌, [], ℕ, ℤ, pos, negsuc, neg_ℤ}
use Rattle.std.proofs.Common.{zero, suc, List, true, false, Option, Some, None, IfSome, refl, sym, ap, subst, inl, inr}
use Rattle.std.proofs.Common.{arith, append_assoc, length, reverse, codes, nat_le, nat_lt, FitsSigned, w64}
use Rattle.std.proofs.Common.{if◌then◌else◌}
use Rattle.std.proofs.lemmas.Bool.{cases_Bool}
use Rattle.std.proofs.lemmas.Bool.Decides.{nat_tests}
use Rattle.std.proofs.lemmas.List.{append-nil, reverse-append, reverse-reverse}
use Rattle.std.proofs.lemmas.List.Folds.{list_all-append}
use Rattle.std.proofs.lemmas.List.Sums.{fold-append}
use Rattle.std.specs.Fmt.{decimal, signed_decimal}
use Rattle.std.specs.Prelude.{int_lt, unsigned_abs}
use Rattle.std.specs.List.{list_all}
use Rattle.std.specs.Char.{is_ascii_digit}
use Rattle.columns.specs.Cell.{IsSigned, digits_value, is_blank}
use Rattle.columns.specs.Decimals.{SpellsDecimal, before_point, decimal_of, digits_with, from_point, pointed, scaled}
use Rattle.columns.specs.Decimals.{signed_with, written, zeros}
use Rattle.columns.specs.Number.{drop_blanks, in_range, number_of, signed_digits, trimmed}
use Rattle.columns.proofs.DecimalLemmas.{zeros_digits, zeros_value}
use Rattle.columns.proofs.NumberLemmas.{number_written, some_list}
use Rattle.columns.proofs.NumberLemmas as numbers
use Rattle.columns.proofs.SpelledNumbers.{blanks_before, both, digit_no_blank, digit_no_sign, drop_blanks-blanks}
use Rattle.columns.proofs.SpelledNumbers.{list_all-reverse, signed_digits-digits, signed_digits-fits}

-- ---- the point

digit_no_point : (d : ℕ) → is_ascii_digit d ≡ true → (d == 46) ≡ false
digit_no_point d h = grind (arith, nat_tests)

before_digits : (ds xs : List ℕ) → list_all is_ascii_digit ds ≡ true → before_point (ds ++ 46 ∷ xs) ≡ ds
before_digits [] xs h = refl
before_digits (d ∷ ds) xs h =
    let (digit, digits) = both (is_ascii_digit d) (list_all is_ascii_digit ds) h in
    rw (digit_no_point d digit) (ap (λ l. d ∷ l) (before_digits ds xs digits))

from_digits : (ds xs : List ℕ) → list_all is_ascii_digit ds ≡ true → from_point (ds ++ 46 ∷ xs) ≡ 46 ∷ xs
from_digits [] xs h = refl
from_digits (d ∷ ds) xs h =
    let (digit, digits) = both (is_ascii_digit d) (list_all is_ascii_digit ds) h in
    rw (digit_no_point d digit) (from_digits ds xs digits)

before_all : (ds : List ℕ) → list_all is_ascii_digit ds ≡ true → before_point ds ≡ ds
before_all [] h = refl
before_all (d ∷ ds) h =
    let (digit, digits) = both (is_ascii_digit d) (list_all is_ascii_digit ds) h in
    rw (digit_no_point d digit) (ap (λ l. d ∷ l) (before_all ds digits))

from_all : (ds : List ℕ) → list_all is_ascii_digit ds ≡ true → from_point ds ≡ []
from_all [] h = refl
from_all (d ∷ ds) h =
    let (digit, digits) = both (is_ascii_digit d) (list_all is_ascii_digit ds) h in
    rw (digit_no_point d digit) (from_all ds digits)

split_at_point : (text : List ℕ) → text ≡ before_point text ++ from_point text
split_at_point [] = refl
split_at_point (b ∷ text) = elim (cases_Bool (b == 46)) [
  | inl is ↦ rw is refl
  | inr other ↦ rw other (ap (λ l. b ∷ l) (split_at_point text))
]

point_first : (text : List ℕ) (c : ℕ) (rest : List ℕ) → from_point text ≡ c ∷ rest → c ≡ 46
point_first [] c rest h = cc h
point_first (b ∷ text) c rest h = elim (cases_Bool (b == 46)) [
  | inl is ↦
      let here : b ∷ text ≡ c ∷ rest = rw is at h in
      let same : b ≡ c = cc here in
      let point : b ≡ 46 = grind (arith, nat_tests, is) in
      sym same ∙ point
  | inr other ↦ point_first text c rest (rw other at h)
]

-- digits with a point, as digits
digits_of_pointed : (p : ℕ) (whole fraction : List ℕ) → whole ++ fraction ≢ [] → list_all is_ascii_digit whole ≡ true
    → list_all is_ascii_digit fraction ≡ true → length fraction ≤ p
    → digits_with p (pointed whole fraction) ≡ (whole ++ fraction) ++ zeros (p - length fraction)
digits_of_pointed p [] [] some all digits few = absurd (some refl)
digits_of_pointed p (b ∷ whole) [] some all digits few =
    let none : p - 0 ≡ p = omega arith in
    rw (from_all (b ∷ whole) all, before_all (b ∷ whole) all, append-nil whole, none) refl
digits_of_pointed p whole (d ∷ fraction) some all digits few =
    let fits : nat_le (length (d ∷ fraction)) p ≡ true = grind (arith, nat_tests, few) in
    rw (from_digits whole (d ∷ fraction) all, before_digits whole (d ∷ fraction) all, fits)
    (sym (append_assoc whole (d ∷ fraction) (zeros (p - length (d ∷ fraction)))))

append_some : (xs : List ℕ) (y : ℕ) (ys : List ℕ) → xs ++ y ∷ ys ≢ []
append_some [] y ys = λ e. cc e
append_some (x ∷ xs) y ys = λ e. cc e

-- a text with digits is digits with a point
record IsPointed (p : ℕ) (text : List ℕ) : Type 0 where
  whole : List ℕ
  fraction : List ℕ
  is : text ≡ pointed whole fraction
  some : whole ++ fraction ≢ []
  all : list_all is_ascii_digit (whole ++ fraction) ≡ true
  few : length fraction ≤ p
  digits : digits_with p text ≡ (whole ++ fraction) ++ zeros (p - length fraction)

pointed_of : (p : ℕ) (text rest whole : List ℕ) → from_point text ≡ rest → before_point text ≡ whole
    → digits_with p text ≢ [] → list_all is_ascii_digit (digits_with p text) ≡ true → IsPointed p text
pointed_of p text [] [] from before some all = absurd (some (rw (from, before) refl))
pointed_of p text [] (b ∷ whole) from before some all =
    let here : text ≡ b ∷ whole = split_at_point text ∙ rw (from, before) (append-nil (b ∷ whole)) in
    let digits : digits_with p text ≡ (b ∷ whole) ++ zeros p = rw (from, before) refl in
    let none : p - 0 ≡ p = omega arith in
    let whole_all = both (list_all is_ascii_digit (b ∷ whole)) (list_all is_ascii_digit (zeros p))
    (sym (list_all-append is_ascii_digit (b ∷ whole) (zeros p)) ∙ rw digits at all) in
    record {
      whole = b ∷ whole;
      fraction = [];
      is = here;
      some = λ e. cc e;
      all = subst (λ l. list_all is_ascii_digit l ≡ true) (sym (append-nil (b ∷ whole))) whole_all.0;
      few = omega arith;
      digits = digits ∙ ap (λ l. l ++ zeros p) (sym (append-nil (b ∷ whole)))
          ∙ ap (λ k. ((b ∷ whole) ++ []) ++ zeros k) (sym none);
    }
pointed_of p text (c ∷ []) whole from before some all = absurd (some (rw from refl))
pointed_of p text (c ∷ d ∷ fraction) whole from before some all = elim (cases_Bool (nat_le (length (d ∷ fraction)) p)) [
  | inl fits ↦
      let ds = d ∷ fraction in
      let point : c ≡ 46 = point_first text c ds from in
      let here : text ≡ whole ++ 46 ∷ ds = split_at_point text ∙ rw (from, before, point) refl in
      let digits : digits_with p text ≡ (whole ++ ds) ++ zeros (p - length ds) =
      rw (from, before, fits) (sym (append_assoc whole ds (zeros (p - length ds)))) in
      let parts = both (list_all is_ascii_digit (whole ++ ds)) (list_all is_ascii_digit (zeros (p - length ds)))
      (sym (list_all-append is_ascii_digit (whole ++ ds) (zeros (p - length ds))) ∙ rw digits at all) in
      record {
        whole = whole;
        fraction = ds;
        is = here;
        some = append_some whole d fraction;
        all = parts.0;
        few = grind (arith, nat_tests, fits);
        digits = digits;
      }
  | inr many ↦ absurd (some (rw (from, before, many) refl))
]

-- what such digits are worth
scaled_value : (ds : List ℕ) (k : ℕ) → digits_value (ds ++ zeros k) ≡ digits_value ds * 10 ^ k
scaled_value ds k = fold-append (λ n d. 10 * n + (d - 48)) 0 ds (zeros k) ∙ zeros_value (digits_value ds) k

-- ---- the sign

record IsSignedText (p : ℕ) (xs : List ℕ) (n : ℤ) : Type 0 where
  sign : List ℕ
  text : List ℕ
  is : xs ≡ sign ++ text
  some : digits_with p text ≢ []
  all : list_all is_ascii_digit (digits_with p text) ≡ true
  value : IsSigned sign (digits_value (digits_with p text)) n
  fits : FitsSigned w64 n

signed_parts : (p : ℕ) (xs : List ℕ) (n : ℤ) → signed_with p xs ≡ Some n → IsSignedText p xs n
signed_parts p [] n h = cc h
signed_parts p (b ∷ rest) n h = elim (cases_Bool (b == 45)) [
  | inl minus ↦
      let is : b ≡ 45 = grind (arith, nat_tests) in
      let (some, all, value, fits) = signed_digits-digits (λ m. neg_ℤ (pos m)) (digits_with p rest) n (rw minus at h) in
      record {
        sign = codes "-";
        text = rest;
        is = ap (λ c. c ∷ rest) is;
        some = some;
        all = all;
        value = inr (inr (refl, sym value));
        fits = fits;
      }
  | inr no_minus ↦ elim (cases_Bool (b == 43)) [
    | inl plus ↦
        let is : b ≡ 43 = grind (arith, nat_tests) in
        let (some, all, value, fits) = signed_digits-digits pos (digits_with p rest) n (rw (no_minus, plus) at h) in
        record {
          sign = codes "+";
          text = rest;
          is = ap (λ c. c ∷ rest) is;
          some = some;
          all = all;
          value = inr (inl (refl, sym value));
          fits = fits;
        }
    | inr no_plus ↦
        let (some, all, value, fits) = signed_digits-digits pos (digits_with p (b ∷ rest)) n
        (rw (no_minus, no_plus) at h) in
        record {
          sign = [];
          text = b ∷ rest;
          is = refl;
          some = some;
          all = all;
          value = inl (refl, sym value);
          fits = fits;
        }
  ]
]

-- a text that begins with no blank and no sign
record Begins (xs : List ℕ) : Type 0 where
  first : ℕ
  rest : List ℕ
  is : xs ≡ first ∷ rest
  no_blank : is_blank first ≡ false
  no_minus : (first == 45) ≡ false
  no_plus : (first == 43) ≡ false

digits_begin : (ds : List ℕ) → ds ≢ [] → list_all is_ascii_digit ds ≡ true → Begins ds
digits_begin [] some all = absurd (some refl)
digits_begin (d ∷ ds) some all =
    let (digit, digits) = both (is_ascii_digit d) (list_all is_ascii_digit ds) all in
    record {
      first = d;
      rest = ds;
      is = refl;
      no_blank = digit_no_blank d digit;
      no_minus = (digit_no_sign d digit).0;
      no_plus = (digit_no_sign d digit).1;
    }

more_begin : (xs ys : List ℕ) → Begins xs → Begins (xs ++ ys)
more_begin xs ys b = record {
  first = b.first;
  rest = b.rest ++ ys;
  is = ap (λ l. l ++ ys) b.is;
  no_blank = b.no_blank;
  no_minus = b.no_minus;
  no_plus = b.no_plus;
}

pointed_begins : (whole fraction : List ℕ) → whole ++ fraction ≢ [] → list_all is_ascii_digit whole ≡ true
    → list_all is_ascii_digit fraction ≡ true → Begins (pointed whole fraction)
pointed_begins [] [] some all digits = absurd (some refl)
pointed_begins [] (d ∷ fraction) some all digits =
    record { first = 46; rest = d ∷ fraction; is = refl; no_blank = refl; no_minus = refl; no_plus = refl }
pointed_begins (b ∷ whole) [] some all digits = digits_begin (b ∷ whole) (λ e. cc e) all
pointed_begins (b ∷ whole) (d ∷ fraction) some all digits =
    more_begin (b ∷ whole) (46 ∷ d ∷ fraction) (digits_begin (b ∷ whole) (λ e. cc e) all)

reverse_some : (d : ℕ) (ds : List ℕ) → reverse (d ∷ ds) ≢ []
reverse_some d ds e =
    let back : d ∷ ds ≡ [] = sym (reverse-reverse (d ∷ ds)) ∙ ap reverse e in
    cc back

reversed_begins : (d : ℕ) (ds : List ℕ) → list_all is_ascii_digit (d ∷ ds) ≡ true → Begins (reverse (d ∷ ds))
reversed_begins d ds all = digits_begin (reverse (d ∷ ds)) (reverse_some d ds)
    (list_all-reverse is_ascii_digit (d ∷ ds) all)

pointed_ends : (whole fraction : List ℕ) → whole ++ fraction ≢ [] → list_all is_ascii_digit whole ≡ true
    → list_all is_ascii_digit fraction ≡ true → Begins (reverse (pointed whole fraction))
pointed_ends [] [] some all digits = absurd (some refl)
pointed_ends (b ∷ whole) [] some all digits = reversed_begins b whole all
pointed_ends whole (d ∷ fraction) some all digits =
    let split : reverse (whole ++ 46 ∷ d ∷ fraction) ≡ reverse (d ∷ fraction) ++ reverse (whole ++ 46 ∷ []) =
    ap reverse (sym (append_assoc whole (46 ∷ []) (d ∷ fraction))) ∙ reverse-append (whole ++ 46 ∷ []) (d ∷ fraction) in
    rw split (more_begin (reverse (d ∷ fraction)) (reverse (whole ++ 46 ∷ [])) (reversed_begins d fraction digits))

record Starts (xs : List ℕ) : Type 0 where
  first : ℕ
  rest : List ℕ
  is : xs ≡ first ∷ rest
  no_blank : is_blank first ≡ false

signed_starts : (sign text : List ℕ) (m : ℕ) (n : ℤ) → IsSigned sign m n → Begins text → Starts (sign ++ text)
signed_starts sign text m n (inl s) b = rw s.0 record
    { first = b.first; rest = b.rest; is = b.is; no_blank = b.no_blank }
signed_starts sign text m n (inr (inl s)) b = rw s.0 record { first = 43; rest = text; is = refl; no_blank = refl }
signed_starts sign text m n (inr (inr s)) b = rw s.0 record { first = 45; rest = text; is = refl; no_blank = refl }

no_blanks : (xs more : List ℕ) → Starts xs → drop_blanks (xs ++ more) ≡ xs ++ more
no_blanks xs more s =
    let whole : xs ++ more ≡ s.first ∷ (s.rest ++ more) = ap (λ l. l ++ more) s.is in
    rw (whole, s.no_blank) refl

-- a text with blanks around it
trimmed_core : (before core after : List ℕ) → list_all is_blank before ≡ true → list_all is_blank after ≡ true
    → Starts core → Starts (reverse core) → trimmed (before ++ (core ++ after)) ≡ core
trimmed_core before core after blank_before blank_after starts ends =
    let front : drop_blanks (before ++ (core ++ after)) ≡ core ++ after =
    drop_blanks-blanks before (core ++ after) blank_before ∙ no_blanks core after starts in
    let back : reverse (drop_blanks (before ++ (core ++ after))) ≡ reverse after ++ reverse core =
    ap reverse front ∙ reverse-append core after in
    let bare : drop_blanks (reverse core ++ []) ≡ reverse core ++ [] = no_blanks (reverse core) [] ends in
    let last : drop_blanks (reverse core) ≡ reverse core = rw (append-nil (reverse core)) at bare in
    let cut : drop_blanks (reverse (drop_blanks (before ++ (core ++ after)))) ≡ reverse core =
    ap drop_blanks back ∙ drop_blanks-blanks (reverse after) (reverse core)
    (list_all-reverse is_blank after blank_after) ∙ last in
    ap reverse cut ∙ reverse-reverse core

signed_with-signed : (p : ℕ) (sign text : List ℕ) (n : ℤ) → Begins text → digits_with p text ≢ []
    → list_all is_ascii_digit (digits_with p text) ≡ true
    → IsSigned sign (digits_value (digits_with p text)) n → FitsSigned w64 n → signed_with p (sign ++ text) ≡ Some n
signed_with-signed p sign text n b some all (inl s) fits =
    rw s.0 (ap (signed_with p) b.is ∙ rw (b.no_minus, b.no_plus)
    (ap (λ t. signed_digits pos (digits_with p t)) (sym b.is)
    ∙ signed_digits-fits pos (digits_with p text) some all (subst (FitsSigned w64) s.1 fits) ∙ ap Some (sym s.1)))
signed_with-signed p sign text n b some all (inr (inl s)) fits =
    rw s.0 (signed_digits-fits pos (digits_with p text) some all (subst (FitsSigned w64) s.1 fits) ∙ ap Some (sym s.1))
signed_with-signed p sign text n b some all (inr (inr s)) fits =
    rw s.0 (signed_digits-fits (λ m. neg_ℤ (pos m)) (digits_with p text) some all (subst (FitsSigned w64) s.1 fits)
    ∙ ap Some (sym s.1))

-- ---- the cell

pub SpellsDecimal-decimal_of : (p : ℕ) (cell : List ℕ) (n : ℤ) → decimal_of p cell ≡ Some n → SpellsDecimal p cell n
unfolding decimal_of
SpellsDecimal-decimal_of p cell n h =
    let middle = drop_blanks cell in
    let core = reverse (drop_blanks (reverse middle)) in
    let (before, split, blank_before) = blanks_before cell in
    let (last, split_last, blank_last) = blanks_before (reverse middle) in
    let signed = signed_parts p core n h in
    let parts = pointed_of p signed.text (from_point signed.text) (before_point signed.text) refl refl signed.some
    signed.all in
    let back : middle ≡ core ++ reverse last =
    sym (reverse-reverse middle) ∙ ap reverse split_last ∙ reverse-append last (drop_blanks (reverse middle)) in
    let spelled : core ≡ signed.sign ++ pointed parts.whole parts.fraction =
    signed.is ∙ ap (λ t. signed.sign ++ t) parts.is in
    let value : digits_value (digits_with p signed.text)
    ≡ digits_value (parts.whole ++ parts.fraction) * 10 ^ (p - length parts.fraction) =
    ap digits_value parts.digits ∙ scaled_value (parts.whole ++ parts.fraction) (p - length parts.fraction) in
    record {
      before = before;
      sign = signed.sign;
      whole = parts.whole;
      fraction = parts.fraction;
      after = reverse last;
      text = split ∙ ap (λ l. before ++ l)
          (back ∙ ap (λ l. l ++ reverse last) spelled
          ∙ append_assoc signed.sign (pointed parts.whole parts.fraction) (reverse last));
      blank_before = blank_before;
      blank_after = list_all-reverse is_blank last blank_last;
      some_digit = parts.some;
      all_digits = parts.all;
      few = parts.few;
      value = subst (λ m. IsSigned signed.sign m n) value signed.value;
      fits = signed.fits;
    }

some_more : (xs ys : List ℕ) → xs ≢ [] → xs ++ ys ≢ []
some_more [] ys some = absurd (some refl)
some_more (x ∷ xs) ys some = λ e. cc e

pub decimal_of-SpellsDecimal : (p : ℕ) (cell : List ℕ) (n : ℤ) → SpellsDecimal p cell n → decimal_of p cell ≡ Some n
unfolding decimal_of
decimal_of-SpellsDecimal p cell n s =
    let text = pointed s.whole s.fraction in
    let core = s.sign ++ text in
    let (all, digits) = both (list_all is_ascii_digit s.whole) (list_all is_ascii_digit s.fraction)
    (sym (list_all-append is_ascii_digit s.whole s.fraction) ∙ s.all_digits) in
    let begins = pointed_begins s.whole s.fraction s.some_digit all digits in
    let ends = pointed_ends s.whole s.fraction s.some_digit all digits in
    let reversed : reverse core ≡ reverse text ++ reverse s.sign = reverse-append s.sign text in
    let last : Starts (reverse core) = rw reversed record {
      first = ends.first;
      rest = ends.rest ++ reverse s.sign;
      is = ap (λ l. l ++ reverse s.sign) ends.is;
      no_blank = ends.no_blank;
    } in
    let whole : cell ≡ s.before ++ (core ++ s.after) =
    s.text ∙ ap (λ l. s.before ++ l) (sym (append_assoc s.sign text s.after)) in
    let is : digits_with p text ≡ (s.whole ++ s.fraction) ++ zeros (p - length s.fraction) =
    digits_of_pointed p s.whole s.fraction s.some_digit all digits s.few in
    let some : digits_with p text ≢ [] =
    rw is (some_more (s.whole ++ s.fraction) (zeros (p - length s.fraction)) s.some_digit) in
    let all_digits : list_all is_ascii_digit (digits_with p text) ≡ true =
    rw (
      is,
      list_all-append is_ascii_digit (s.whole ++ s.fraction) (zeros (p - length s.fraction)),
      s.all_digits,
      zeros_digits (p - length s.fraction),
    ) refl in
    let value : digits_value (s.whole ++ s.fraction) * 10 ^ (p - length s.fraction)
    ≡ digits_value (digits_with p text) =
    sym (ap digits_value is ∙ scaled_value (s.whole ++ s.fraction) (p - length s.fraction)) in
    ap (λ c. signed_with p (trimmed c)) whole
    ∙ ap (signed_with p) (trimmed_core s.before core s.after s.blank_before s.blank_after
    (signed_starts s.sign text _ n s.value begins) last)
    ∙ signed_with-signed p s.sign text n begins some all_digits (subst (λ m. IsSigned s.sign m n) value s.value) s.fits

pub SpellsDecimal-if_some : (p : ℕ) (cell : List ℕ) (o : Option ℤ) → o ≡ decimal_of p cell
    → IfSome o (λ n. SpellsDecimal p cell n)
SpellsDecimal-if_some p cell None e = tt
SpellsDecimal-if_some p cell (Some n) e = SpellsDecimal-decimal_of p cell n (sym e)

-- ---- as a cell of integers

number_of_written : (o : Option ℤ) → IfSome o (λ n. FitsSigned w64 n) → number_of (written o) ≡ o
unfolding number_of
number_of_written None h = refl
number_of_written (Some n) h = number_written n h

fits_of : (p : ℕ) (cell : List ℕ) (o : Option ℤ) → o ≡ decimal_of p cell → IfSome o (λ n. FitsSigned w64 n)
fits_of p cell None e = tt
fits_of p cell (Some n) e = (SpellsDecimal-decimal_of p cell n (sym e)).fits

pub number_scaled : (p : ℕ) (cell : List ℕ) → (p == 0) ≡ false → number_of (scaled p cell) ≡ decimal_of p cell
number_scaled zero cell h = cc h
number_scaled (suc p) cell h = number_of_written (decimal_of (suc p) cell)
    (fits_of (suc p) cell (decimal_of (suc p) cell) refl)

-- an integer that is written out, with decimal places
plain_digits : (p : ℕ) (ds : List ℕ) → ds ≢ [] → list_all is_ascii_digit ds ≡ true → digits_with p ds ≡ ds ++ zeros p
plain_digits p [] some all = absurd (some refl)
plain_digits p (d ∷ ds) some all = rw (from_all (d ∷ ds) all, before_all (d ∷ ds) all) refl

abbrev times : ℕ → ℤ → ℤ
times p (pos m) = pos (m * 10 ^ p)
times p (negsuc m) = neg_ℤ (pos (suc m * 10 ^ p))

ranged : (f : ℕ → ℤ) (ds : List ℕ) (p m : ℕ) → ds ≢ [] → list_all is_ascii_digit ds ≡ true → digits_value ds ≡ m
    → signed_digits f (digits_with p ds) ≡ in_range (f (m * 10 ^ p))
ranged f ds p m some all value =
    let is = plain_digits p ds some all in
    let long : nat_lt 0 (length (ds ++ zeros p)) ≡ true = length_true (ds ++ zeros p) (some_more ds (zeros p) some) in
    rw (is, list_all-append is_ascii_digit ds (zeros p), all, zeros_digits p, long)
    (ap (λ k. in_range (f k)) (scaled_value ds p ∙ ap (λ k. k * 10 ^ p) value))
  where
    length_true : (xs : List ℕ) → xs ≢ [] → nat_lt 0 (length xs) ≡ true
    length_true [] some = absurd (some refl)
    length_true (x ∷ xs) some = grind (arith, nat_tests)

pub decimal_written : (p : ℕ) (n : ℤ) → FitsSigned w64 n → decimal_of p (signed_decimal n) ≡ in_range (times p n)
unfolding decimal_of
decimal_written p (pos m) fits =
    let (long, all, value) = numbers.written m (omega (arith, fits.sfits)) in
    let ds = decimal m in
    let some = some_list ds long in
    let begins = digits_begin ds some all in
    let ends = digits_begin (reverse ds) (λ e. some (sym (reverse-reverse ds) ∙ ap reverse e))
    (list_all-reverse is_ascii_digit ds all) in
    let core : trimmed ([] ++ (ds ++ [])) ≡ ds =
    trimmed_core [] ds [] refl refl record
    { first = begins.first; rest = begins.rest; is = begins.is; no_blank = begins.no_blank }
    record { first = ends.first; rest = ends.rest; is = ends.is; no_blank = ends.no_blank } in
    let here : trimmed ds ≡ ds = rw (append-nil ds) at core in
    ap (signed_with p) (here ∙ begins.is)
    ∙ rw (begins.no_minus, begins.no_plus)
    (ap (λ t. signed_digits pos (digits_with p t)) (sym begins.is) ∙ ranged pos ds p m some all value)
decimal_written p (negsuc m) fits =
    let (long, all, value) = numbers.written (suc m) (omega (arith, fits.sfits)) in
    let ds = decimal (suc m) in
    let some = some_list ds long in
    let ends = digits_begin (reverse ds) (λ e. some (sym (reverse-reverse ds) ∙ ap reverse e))
    (list_all-reverse is_ascii_digit ds all) in
    let reversed : reverse (45 ∷ ds) ≡ reverse ds ++ 45 ∷ [] = reverse-append (45 ∷ []) ds in
    let last : Starts (reverse (45 ∷ ds)) =
    rw reversed record {
      first = ends.first;
      rest = ends.rest ++ 45 ∷ [];
      is = ap (λ l. l ++ 45 ∷ []) ends.is;
      no_blank = ends.no_blank;
    } in
    let core : trimmed ([] ++ ((45 ∷ ds) ++ [])) ≡ 45 ∷ ds =
    trimmed_core [] (45 ∷ ds) [] refl refl record { first = 45; rest = ds; is = refl; no_blank = refl } last in
    let here : trimmed (45 ∷ ds) ≡ 45 ∷ ds = rw (append-nil (45 ∷ ds)) at core in
    ap (signed_with p) here ∙ ranged (λ m. neg_ℤ (pos m)) ds p (suc m) some all value

too_large : (k : ℕ) → 10 ^ 19 ≤ k → (in_range (pos k) ≡ None) × (in_range (neg_ℤ (pos k)) ≡ None)
too_large zero h = absurd (omega (arith, h))
too_large (suc k) h = (grind (arith, nat_tests, h), grind (arith, nat_tests, h))

pub zeros_none : (p : ℕ) (n : ℤ) (m : ℕ) → FitsSigned w64 n → m ≡ unsigned_abs n → 10 ^ 19 ≤ m * 10 ^ p
    → decimal_of p (signed_decimal n) ≡ None
zeros_none p (pos m) k fits is large = decimal_written p (pos m) fits ∙ (too_large (m * 10 ^ p) (rw is at large)).0
zeros_none p (negsuc m) k fits is large =
    decimal_written p (negsuc m) fits ∙ (too_large (suc m * 10 ^ p) (rw is at large)).1

pub zeros_some : (p : ℕ) (n : ℤ) (m size : ℕ) → FitsSigned w64 n → m ≡ unsigned_abs n → size ≡ m * 10 ^ p
    → in_range (if int_lt n (pos 0) then neg_ℤ (pos size) else pos size) ≡ decimal_of p (signed_decimal n)
zeros_some p (pos m) k size fits is value =
    let up : int_lt (pos m) (pos 0) ≡ false = grind (arith, nat_tests) in
    rw up (ap (λ z. in_range (pos z)) (value ∙ ap (λ z. z * 10 ^ p) is) ∙ sym (decimal_written p (pos m) fits))
zeros_some p (negsuc m) k size fits is value =
    ap (λ z. in_range (neg_ℤ (pos z))) (value ∙ ap (λ z. z * 10 ^ p) is) ∙ sym (decimal_written p (negsuc m) fits)
