-- A cell spells a number exactly where `number_of` gives it.
use Rattle.std.proofs.Common.{◌≡◌, ◌≢◌, ℕ, ℤ, pos, negsuc, neg_ℤ, List, [], ◌∷◌, ◌++◌, Bool, true, false, ◌&&◌, Option}
use Rattle.std.proofs.Common.{Some, None, IfSome, length, reverse, refl, sym, ap, subst, ◌∙◌, arith, inl, inr}
use Rattle.std.proofs.Common.{append_assoc, nat_lt, ◌==◌, FitsSigned, w64, codes}
use Rattle.std.proofs.lemmas.Bool.Decides.{nat_tests}
use Rattle.std.proofs.lemmas.Bool.{cases_Bool}
use Rattle.std.proofs.lemmas.List.{reverse-append, reverse-reverse}
use Rattle.std.proofs.lemmas.List.Folds.{list_all-append}
use Rattle.std.specs.List.{list_all}
use Rattle.std.specs.Char.{is_ascii_digit}
use Rattle.columns.specs.Cell.{SpellsCell, IsSigned, digits_value, is_blank}
use Rattle.columns.specs.Number.{drop_blanks, in_range, number_of, signed_digits, signed_number}

pub both : (a b : Bool) → (a && b) ≡ true → (a ≡ true) × (b ≡ true)
both true b h = (refl, h)
both false b h = cc h

pub list_all-reverse : (p : ℕ → Bool) (xs : List ℕ) → list_all p xs ≡ true → list_all p (reverse xs) ≡ true
list_all-reverse p [] h = refl
list_all-reverse p (x ∷ xs) h =
    let parts = both (p x) (list_all p xs) h in
    let e : reverse (x ∷ xs) ≡ reverse xs ++ (x ∷ []) = reverse-append (x ∷ []) xs in
    rw (e, list_all-append p (reverse xs) (x ∷ []), list_all-reverse p xs parts.1, parts.0) refl

-- a text is the blanks at its start and the rest
pub blanks_before : (xs : List ℕ) → (b : List ℕ) × (xs ≡ b ++ drop_blanks xs) × (list_all is_blank b ≡ true)
blanks_before [] = ([], refl, refl)
blanks_before (x ∷ xs) = elim (cases_Bool (is_blank x)) [
  | inl blank ↦
      let (b, split, blanks) = blanks_before xs in
      (x ∷ b, rw blank (ap (λ l. x ∷ l) split), rw (blank, blanks) refl)
  | inr other ↦ ([], rw other refl, refl)
]

pub drop_blanks-blanks : (b xs : List ℕ) → list_all is_blank b ≡ true → drop_blanks (b ++ xs) ≡ drop_blanks xs
drop_blanks-blanks [] xs h = refl
drop_blanks-blanks (x ∷ b) xs h =
    let parts = both (is_blank x) (list_all is_blank b) h in
    rw parts.0 (drop_blanks-blanks b xs parts.1)

pub digit_no_blank : (d : ℕ) → is_ascii_digit d ≡ true → is_blank d ≡ false
digit_no_blank d h = grind (arith, nat_tests)

-- a text that begins with digits has no blanks at its start
drop_blanks-digits : (ds xs : List ℕ) → ds ≢ [] → list_all is_ascii_digit ds ≡ true → drop_blanks (ds ++ xs) ≡ ds ++ xs
drop_blanks-digits [] xs some h = absurd (some refl)
drop_blanks-digits (d ∷ ds) xs some h =
    rw (digit_no_blank d (both (is_ascii_digit d) (list_all is_ascii_digit ds) h).0) refl

-- the text of a sign and digits has no blanks at its start
drop_blanks-signed : (sign ds xs : List ℕ) (m : ℕ) (n : ℤ) → IsSigned sign m n → ds ≢ []
    → list_all is_ascii_digit ds ≡ true
    → drop_blanks (sign ++ (ds ++ xs)) ≡ sign ++ (ds ++ xs)
drop_blanks-signed sign ds xs m n (inl s) some h = rw s.0 (drop_blanks-digits ds xs some h)
drop_blanks-signed sign ds xs m n (inr (inl s)) some h = rw s.0 refl
drop_blanks-signed sign ds xs m n (inr (inr s)) some h = rw s.0 refl

in_range-fits : (z : ℤ) → FitsSigned w64 z → in_range z ≡ Some z
in_range-fits (pos m) f = grind (arith, nat_tests, f.sfits)
in_range-fits (negsuc m) f = grind (arith, nat_tests, f.sfits)

pub fits-in_range : (z n : ℤ) → in_range z ≡ Some n → (z ≡ n) × FitsSigned w64 n
fits-in_range (pos m) n h = grind (arith, nat_tests)
fits-in_range (negsuc m) n h = grind (arith, nat_tests)

pub some_length : (ds : List ℕ) → ds ≢ [] → nat_lt 0 (length ds) ≡ true
some_length [] some = absurd (some refl)
some_length (d ∷ ds) some = grind (arith, nat_tests)

length_some : (ds : List ℕ) → nat_lt 0 (length ds) ≡ true → ds ≢ []
length_some [] h = λ e. cc h
length_some (d ∷ ds) h = λ e. cc e

pub signed_digits-fits : (f : ℕ → ℤ) (ds : List ℕ) → ds ≢ [] → list_all is_ascii_digit ds ≡ true
    → FitsSigned w64 (f (digits_value ds)) → signed_digits f ds ≡ Some (f (digits_value ds))
signed_digits-fits f ds some h fits = rw (some_length ds some, h) (in_range-fits (f (digits_value ds)) fits)

pub signed_digits-digits : (f : ℕ → ℤ) (ds : List ℕ) (n : ℤ) → signed_digits f ds ≡ Some n
    → (ds ≢ []) × (list_all is_ascii_digit ds ≡ true) × (f (digits_value ds) ≡ n) × FitsSigned w64 n
signed_digits-digits f ds n h = elim (cases_Bool (nat_lt 0 (length ds) && list_all is_ascii_digit ds)) [
  | inl good ↦
      let parts = both (nat_lt 0 (length ds)) (list_all is_ascii_digit ds) good in
      let value = fits-in_range (f (digits_value ds)) n (rw good at h) in
      (length_some ds parts.0, parts.1, value.0, value.1)
  | inr bad ↦ cc (rw bad at h)
]

-- what a text without blanks around it spells is a sign and digits
signed_number-parts : (xs : List ℕ) (n : ℤ) → signed_number xs ≡ Some n
    → (sign : List ℕ) × (ds : List ℕ) × (xs ≡ sign ++ ds) × (ds ≢ []) × (list_all is_ascii_digit ds ≡ true)
    × IsSigned sign (digits_value ds) n × FitsSigned w64 n
signed_number-parts [] n h = cc h
signed_number-parts (b ∷ rest) n h = elim (cases_Bool (b == 45)) [
  | inl minus ↦
      let is : b ≡ 45 = grind (arith, nat_tests) in
      let (some, all, value, fits) = signed_digits-digits (λ m. neg_ℤ (pos m)) rest n (rw minus at h) in
      (codes "-", rest, ap (λ c. c ∷ rest) is, some, all, inr (inr (refl, sym value)), fits)
  | inr no_minus ↦ elim (cases_Bool (b == 43)) [
    | inl plus ↦
        let is : b ≡ 43 = grind (arith, nat_tests) in
        let (some, all, value, fits) = signed_digits-digits pos rest n (rw (no_minus, plus) at h) in
        (codes "+", rest, ap (λ c. c ∷ rest) is, some, all, inr (inl (refl, sym value)), fits)
    | inr no_plus ↦
        let (some, all, value, fits) = signed_digits-digits pos (b ∷ rest) n (rw (no_minus, no_plus) at h) in
        ([], b ∷ rest, refl, some, all, inl (refl, sym value), fits)
  ]
]

pub digit_no_sign : (d : ℕ) → is_ascii_digit d ≡ true → ((d == 45) ≡ false) × ((d == 43) ≡ false)
digit_no_sign d h = (grind (arith, nat_tests), grind (arith, nat_tests))

-- and the other way round
signed_number-signed : (sign ds : List ℕ) (n : ℤ) → ds ≢ [] → list_all is_ascii_digit ds ≡ true
    → IsSigned sign (digits_value ds) n → FitsSigned w64 n
    → signed_number (sign ++ ds) ≡ Some n
signed_number-signed sign [] n some h s fits = absurd (some refl)
signed_number-signed sign (d ∷ ds) n some h (inl s) fits =
    let digit = (both (is_ascii_digit d) (list_all is_ascii_digit ds) h).0 in
    let no_minus = (digit_no_sign d digit).0 in
    let no_plus = (digit_no_sign d digit).1 in
    rw (s.0, no_minus, no_plus) (signed_digits-fits pos (d ∷ ds) some h (subst (FitsSigned w64) s.1 fits)
    ∙ ap Some (sym s.1))
signed_number-signed sign (d ∷ ds) n some h (inr (inl s)) fits =
    rw s.0 (signed_digits-fits pos (d ∷ ds) some h (subst (FitsSigned w64) s.1 fits) ∙ ap Some (sym s.1))
signed_number-signed sign (d ∷ ds) n some h (inr (inr s)) fits =
    rw s.0 (signed_digits-fits (λ m. neg_ℤ (pos m)) (d ∷ ds) some h (subst (FitsSigned w64) s.1 fits)
    ∙ ap Some (sym s.1))

pub SpellsCell-number_of : (cell : List ℕ) (n : ℤ) → number_of cell ≡ Some n → SpellsCell cell n
unfolding number_of
SpellsCell-number_of cell n h =
    let middle = drop_blanks cell in
    let core = reverse (drop_blanks (reverse middle)) in
    let (before, split, blank_before) = blanks_before cell in
    let (last, split_last, blank_last) = blanks_before (reverse middle) in
    let (sign, digits, text, some, all, value, fits) = signed_number-parts core n h in
    let back : middle ≡ core ++ reverse last =
    sym (reverse-reverse middle) ∙ ap reverse split_last ∙ reverse-append last (drop_blanks (reverse middle)) in
    record {
      before = before;
      sign = sign;
      digits = digits;
      after = reverse last;
      text = split ∙ ap (λ l. before ++ l)
          (back ∙ ap (λ l. l ++ reverse last) text ∙ append_assoc sign digits (reverse last));
      blank_before = blank_before;
      blank_after = list_all-reverse is_blank last blank_last;
      some_digit = some;
      all_digits = all;
      value = value;
      fits = fits;
    }

pub number_of-SpellsCell : (cell : List ℕ) (n : ℤ) → SpellsCell cell n → number_of cell ≡ Some n
unfolding number_of
number_of-SpellsCell cell n s =
    let front : drop_blanks cell ≡ s.sign ++ (s.digits ++ s.after) =
    ap drop_blanks s.text ∙ drop_blanks-blanks s.before _ s.blank_before
    ∙ drop_blanks-signed s.sign s.digits s.after _ n s.value s.some_digit s.all_digits in
    let core = s.sign ++ s.digits in
    let backwards : reverse (drop_blanks cell) ≡ reverse s.after ++ (reverse s.digits ++ reverse s.sign) =
    ap reverse (front ∙ sym (append_assoc s.sign s.digits s.after)) ∙ reverse-append core s.after
    ∙ ap (λ l. reverse s.after ++ l) (reverse-append s.sign s.digits) in
    let some_reversed : reverse s.digits ≢ [] = λ e. s.some_digit (sym (reverse-reverse s.digits) ∙ ap reverse e) in
    let trimmed : drop_blanks (reverse (drop_blanks cell)) ≡ reverse s.digits ++ reverse s.sign =
    ap drop_blanks backwards ∙ drop_blanks-blanks (reverse s.after) _ (list_all-reverse is_blank s.after s.blank_after)
    ∙ drop_blanks-digits (reverse s.digits) (reverse s.sign) some_reversed
    (list_all-reverse is_ascii_digit s.digits s.all_digits) in
    let whole : reverse (drop_blanks (reverse (drop_blanks cell))) ≡ core =
    ap reverse (trimmed ∙ sym (reverse-append s.sign s.digits)) ∙ reverse-reverse core in
    ap signed_number whole ∙ signed_number-signed s.sign s.digits n s.some_digit s.all_digits s.value s.fits

pub SpellsCell-if_some : (cell : List ℕ) (o : Option ℤ) → o ≡ number_of cell → IfSome o (λ n. SpellsCell cell n)
SpellsCell-if_some cell None e = tt
SpellsCell-if_some cell (Some n) e = SpellsCell-number_of cell n (sym e)
