-- Numbers that stand in a text, for any separator.
use Rattle.std.proofs.Common.{◌≡◌, ◌<◌, ◌≤◌, ◌+◌, ◌-◌, ◌++◌, ◌∷◌, ◌∙◌, ◌==◌, [], ℕ, ℤ, zero, suc, List, Bool, true}
use Rattle.std.proofs.Common.{false, Option, Some, refl, sym, ap, subst, inl, inr, arith, length, take, drop, get_or}
use Rattle.std.proofs.lemmas.List.{append-nil, length-take, length-drop}
use Rattle.std.proofs.lemmas.Bool.{cases_Bool}
use Rattle.std.proofs.lemmas.Bool.Decides.{nat_tests}
use Rattle.std.specs.List.{list_all, list_any}
use Rattle.std.specs.Char.{is_ascii_digit}
use Rattle.csv.specs.declared.parser.State.TheVariants as st
use Rattle.columns.specs.Number.{number_of}
use Rattle.columns.specs.TextRows.{GoesQuoted, GoesTo, IsFieldThere, IsMarkThere, IsNumberThere, IsSeparator, ends_cell}
use Rattle.columns.specs.TextRows.{is_bare_byte}
use Rattle.columns.specs.TableForms.{filled}
use Rattle.columns.proofs.NumberLemmas.{at_byte, filled_number, number_length, part}
use Rattle.columns.proofs.TextLemmas.{bare_goes, ended, first_of, mark_no_quote, over_in, part_at, quoted_goes}
use Rattle.columns.proofs.TextLemmas.{quoted_none}

pub bare_digits : (ds : List ℕ) → list_all is_ascii_digit ds ≡ true → list_all is_bare_byte ds ≡ true
bare_digits [] h = refl
bare_digits (d ∷ ds) h = elim (cases_Bool (is_ascii_digit d)) [
  | inl digit ↦ rw (digit, bare_digits ds (rw digit at h)) refl
  | inr other ↦ cc (rw other at h)
]

pub bare_minus : (text : List ℕ) (at end : ℕ) → at + 1 < end → end ≤ length text → get_or text at 0 ≡ 45
    → list_all is_ascii_digit (take (end - (at + 1)) (drop (at + 1) text)) ≡ true
    → list_all is_bare_byte (take (end - at) (drop at text)) ≡ true
bare_minus text at end some within minus all =
    let ds = take (end - (at + 1)) (drop (at + 1) text) in
    let more : end - at ≡ suc (end - (at + 1)) = omega arith in
    let spelled : take (end - at) (drop at text) ≡ 45 ∷ ds = rw (more, at_byte text at 45 (omega arith) minus) refl in
    rw spelled (rw (bare_digits ds all) refl)

no_end : (s b : ℕ) → IsSeparator s → is_bare_byte b ≡ true → ends_cell s b ≡ false
no_end s b sep h =
    let no_digit = sep.no_digit in
    let no_minus = sep.no_minus in
    grind (arith, nat_tests, h, no_digit, no_minus)

pub bare_none : (s : ℕ) (x : List ℕ) → IsSeparator s → list_all is_bare_byte x ≡ true → list_any (ends_cell s) x ≡ false
bare_none s [] sep h = refl
bare_none s (b ∷ x) sep h = elim (cases_Bool (is_bare_byte b)) [
  | inl bare ↦ rw (no_end s b sep bare, bare_none s x sep (rw bare at h)) refl
  | inr other ↦ cc (rw other at h)
]

no_quote : (b : ℕ) → is_bare_byte b ≡ true → (b == 34) ≡ false
no_quote b h = grind (arith, nat_tests, h)

bare_first : (x tail : List ℕ) → 0 < length x → list_all is_bare_byte x ≡ true → (get_or (x ++ tail) 0 0 == 34) ≡ false
bare_first [] tail some h = absurd (omega (arith, some))
bare_first (b ∷ x) tail some h = elim (cases_Bool (is_bare_byte b)) [
  | inl bare ↦ no_quote b bare
  | inr other ↦ cc (rw other at h)
]

-- a number without quotes around it
bare_there : (s : ℕ) (b : Option ℤ) (x zs : List ℕ) (n : ℤ) (is_last : Bool) (ys : List ℕ) → IsSeparator s
    → number_of (filled b x) ≡ Some n → list_any (ends_cell s) x ≡ false → (get_or (x ++ zs) 0 0 == 34) ≡ false
    → IsMarkThere s zs is_last ys → IsNumberThere s b (x ++ zs) n is_last ys
bare_there s b x zs n is_last ys sep number plain first (c, at_c, mark, last) = rw (at_c, last) (record {
  cell = x;
  number = number;
  reads = ended s (x ++ c ∷ ys) x c ys mark (bare_goes s x c ys sep plain (rw at_c at first) mark);
})

pub bare_number : (s : ℕ) (b : Option ℤ) (text : List ℕ) (at end : ℕ) (n : ℤ) (is_last : Bool) (ys : List ℕ)
    → IsSeparator s → at ≤ end → number_of (filled b (take (end - at) (drop at text))) ≡ Some n
    → list_any (ends_cell s) (take (end - at) (drop at text)) ≡ false → (get_or text at 0 == 34) ≡ false
    → IsMarkThere s (drop end text) is_last ys → IsNumberThere s b (drop at text) n is_last ys
bare_number s b text at end n is_last ys sep h number plain first mark =
    let split = part text at end h in
    let start : (get_or (take (end - at) (drop at text) ++ drop end text) 0 0 == 34) ≡ false =
    rw (sym split, first_of text at) first in
    rw split (bare_there s b (take (end - at) (drop at text)) (drop end text) n is_last ys sep number plain start mark)

pub short_there : (s : ℕ) (b : Option ℤ) (text : List ℕ) (at end : ℕ) (n : ℤ) (is_last : Bool) (ys : List ℕ)
    → IsSeparator s → at ≤ end → number_of (take (end - at) (drop at text)) ≡ Some n
    → list_all is_bare_byte (take (end - at) (drop at text)) ≡ true → IsMarkThere s (drop end text) is_last ys
    → IsNumberThere s b (drop at text) n is_last ys
short_there s b text at end n is_last ys sep h number bare mark =
    let x = take (end - at) (drop at text) in
    rw (part text at end h) (bare_there s b x (drop end text) n is_last ys sep (filled_number b x n number)
    (bare_none s x sep bare) (bare_first x (drop end text) (number_length x n number) bare) mark)

-- a number in quotes
pub quoted_number : (s : ℕ) (b : Option ℤ) (text : List ℕ) (at end : ℕ) (n : ℤ) (is_last : Bool) (ys : List ℕ)
    → IsSeparator s → at < length text → get_or text at 0 ≡ 34 → at + 1 ≤ end → end < length text
    → get_or text end 0 ≡ 34 → ((k : ℕ) → at + 1 ≤ k → k < end → (get_or text k 0 == 34) ≡ false)
    → number_of (filled b (take (end - (at + 1)) (drop (at + 1) text))) ≡ Some n
    → IsMarkThere s (drop (end + 1) text) is_last ys → IsNumberThere s b (drop at text) n is_last ys
quoted_number s b text at end n is_last ys sep in_text quote h within close none number (c, at_c, mark, last) =
    let x = take (end - (at + 1)) (drop (at + 1) text) in
    let over = over_in s text [] (at + 1) (at + 1) end h within none close (quoted_none s (drop (at + 1) text)) in
    let to_mark : GoesQuoted s st.AfterQuote (drop (at + 1) text) x (c ∷ ys) = rw at_c at over in
    let goes : GoesTo s (34 ∷ drop (at + 1) text) (x ++ []) (c ∷ ys) =
    quoted_goes s (drop (at + 1) text) x [] c ys sep to_mark refl (mark_no_quote s c sep mark) mark in
    let whole : GoesTo s (34 ∷ drop (at + 1) text) x (c ∷ ys) = rw (append-nil x) at goes in
    rw (at_byte text at 34 in_text quote, last) (record {
      cell = x;
      number = number;
      reads = ended s (34 ∷ drop (at + 1) text) x c ys mark whole;
    })

-- a field without quotes around it, whatever it holds
bare_field_there : (s : ℕ) (x zs : List ℕ) (is_last : Bool) (ys : List ℕ) → IsSeparator s
    → list_any (ends_cell s) x ≡ false → (get_or (x ++ zs) 0 0 == 34) ≡ false
    → IsMarkThere s zs is_last ys → IsFieldThere s (x ++ zs) x is_last ys
bare_field_there s x zs is_last ys sep plain first (c, at_c, mark, last) =
    rw (at_c, last) (ended s (x ++ c ∷ ys) x c ys mark (bare_goes s x c ys sep plain (rw at_c at first) mark))

pub bare_field : (s : ℕ) (text : List ℕ) (at end : ℕ) (is_last : Bool) (ys : List ℕ) → IsSeparator s → at ≤ end
    → list_any (ends_cell s) (take (end - at) (drop at text)) ≡ false
    → (get_or text at 0 == 34) ≡ false → IsMarkThere s (drop end text) is_last ys
    → IsFieldThere s (drop at text) (take (end - at) (drop at text)) is_last ys
bare_field s text at end is_last ys sep h plain first mark =
    let x = take (end - at) (drop at text) in
    let split = part text at end h in
    let start : (get_or (x ++ drop end text) 0 0 == 34) ≡ false =
    subst (λ t. (get_or t 0 0 == 34) ≡ false) split (rw (sym (first_of text at)) at first) in
    subst (λ t. IsFieldThere s t x is_last ys) (sym split)
    (bare_field_there s x (drop end text) is_last ys sep plain start mark)

-- a field whole in quotes
pub quoted_field : (s : ℕ) (text : List ℕ) (at end : ℕ) (is_last : Bool) (ys : List ℕ) → IsSeparator s
    → at < length text → get_or text at 0 ≡ 34 → at + 1 ≤ end → end < length text
    → get_or text end 0 ≡ 34 → ((k : ℕ) → at + 1 ≤ k → k < end → (get_or text k 0 == 34) ≡ false)
    → IsMarkThere s (drop (end + 1) text) is_last ys
    → IsFieldThere s (drop at text) (take (end - (at + 1)) (drop (at + 1) text)) is_last ys
quoted_field s text at end is_last ys sep in_text quote h within close none (c, at_c, mark, last) =
    let x = take (end - (at + 1)) (drop (at + 1) text) in
    let over = over_in s text [] (at + 1) (at + 1) end h within none close (quoted_none s (drop (at + 1) text)) in
    let to_mark : GoesQuoted s st.AfterQuote (drop (at + 1) text) x (c ∷ ys) = rw at_c at over in
    let goes : GoesTo s (34 ∷ drop (at + 1) text) (x ++ []) (c ∷ ys) =
    quoted_goes s (drop (at + 1) text) x [] c ys sep to_mark refl (mark_no_quote s c sep mark) mark in
    let whole : GoesTo s (34 ∷ drop (at + 1) text) x (c ∷ ys) = rw (append-nil x) at goes in
    rw (at_byte text at 34 in_text quote, last) (ended s (34 ∷ drop (at + 1) text) x c ys mark whole)

bare_at : (x : List ℕ) (i : ℕ) → i < length x → list_all is_bare_byte x ≡ true → is_bare_byte (get_or x i 0) ≡ true
bare_at [] i h all = absurd (omega (arith, h))
bare_at (b ∷ x) zero h all = elim (cases_Bool (is_bare_byte b)) [
  | inl bare ↦ bare
  | inr other ↦ cc (rw other at all)
]
bare_at (b ∷ x) (suc i) h all = elim (cases_Bool (is_bare_byte b)) [
  | inl bare ↦ bare_at x i (omega (arith, h)) (rw bare at all)
  | inr other ↦ cc (rw other at all)
]

-- bytes of a short number are no quotes
pub short_no_quote : (text : List ℕ) (at end : ℕ) → at ≤ end → end ≤ length text
    → list_all is_bare_byte (take (end - at) (drop at text)) ≡ true → (k : ℕ) → at ≤ k → k < end
    → (get_or text k 0 == 34) ≡ false
short_no_quote text at end h within bare k low high =
    let inside : k - at < end - at = omega arith in
    let here : get_or (take (end - at) (drop at text)) (k - at) 0 ≡ get_or text k 0 =
    part_at text at end (k - at) h within inside ∙ ap (λ i. get_or text i 0) (omega arith) in
    let long : k - at < length (take (end - at) (drop at text)) =
    omega (arith, inside, within, length-take (end - at) (drop at text), length-drop at text) in
    rw here at (no_quote (get_or (take (end - at) (drop at text)) (k - at) 0)
    (bare_at (take (end - at) (drop at text)) (k - at) long bare))
