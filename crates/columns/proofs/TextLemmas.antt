-- What csv's reading does at a field with any bytes, for any separator.
use Rattle.std.proofs.Common.{◌≡◌, ◌⊎◌, Option, None, IfNone, IfSome, ◌<◌, ◌≤◌, ◌+◌, ◌-◌, ◌++◌, ◌∷◌, ◌∙◌, [], ℕ, zero}
use Rattle.std.proofs.Common.{suc, List, Bool, true, false, Some, refl, sym, ap, inl, inr, ◌||◌, ◌==◌, not, arith}
use Rattle.std.proofs.Common.{append_assoc, length, take, drop, get_or}
use Rattle.std.proofs.lemmas.List.{append-nil, drop_more, get_or-drop, get_or-take, length-take}
use Rattle.std.proofs.lemmas.Bool.{cases_Bool}
use Rattle.std.proofs.lemmas.Bool.Decides.{nat_tests}
use Rattle.std.proofs.lemmas.List.Folds.{drop_split}
use Rattle.std.specs.List.{list_any}
use Rattle.csv.specs.Machine.{next_record}
use Rattle.csv.specs.declared.parser.State.{State}
use Rattle.csv.specs.declared.parser.State.TheVariants as st
use Rattle.columns.specs.TableForms.{config_of}
use Rattle.columns.specs.TextRows.{Ends, GoesQuoted, GoesTo, IsFieldThere, IsMarkThere, IsSeparator, ends_cell}

or_parts : (a b : Bool) → (a || b) ≡ false → (a ≡ false) × (b ≡ false)
or_parts false b h = (refl, h)
or_parts true b h = cc h

-- a byte that ends no field
no_mark : (s c : ℕ) → ends_cell s c ≡ false → ((c == s) ≡ false) × ((c == 13) ≡ false) × ((c == 10) ≡ false)
no_mark s c h =
    let (front, d) = or_parts ((c == s) || (c == 13)) (c == 10) h in
    let (a, b) = or_parts (c == s) (c == 13) front in
    (a, b, d)

-- bytes of a field without a mark in them
field_run : (s : ℕ) (fields : List (List ℕ)) (field x tail : List ℕ) → list_any (ends_cell s) x ≡ false
    → next_record (config_of s) st.InField fields field (x ++ tail)
    ≡ next_record (config_of s) st.InField fields (field ++ x) tail
unfolding next_record
field_run s fields field [] tail h = rw (append-nil field) refl
field_run s fields field (b ∷ x) tail h =
    let (here, later) = or_parts (ends_cell s b) (list_any (ends_cell s) x) h in
    let (a, r, n) = no_mark s b here in
    rw (a, r, n) (field_run s fields (field ++ b ∷ []) x tail later
    ∙ ap (λ f. next_record (config_of s) st.InField fields f tail) (append_assoc field (b ∷ []) x))

-- a byte that is no quote starts a field as it goes on in one, and so it does after a quote
start_same : (s : ℕ) (fields : List (List ℕ)) (field : List ℕ) (c : ℕ) (tail : List ℕ) → (c == 34) ≡ false
    → next_record (config_of s) st.StartField fields field (c ∷ tail)
    ≡ next_record (config_of s) st.InField fields field (c ∷ tail)
unfolding next_record
start_same s fields field c tail h = rw h refl

after_quote_same : (s : ℕ) (fields : List (List ℕ)) (field : List ℕ) (c : ℕ) (tail : List ℕ) → (c == 34) ≡ false
    → next_record (config_of s) st.AfterQuote fields field (c ∷ tail)
    ≡ next_record (config_of s) st.InField fields field (c ∷ tail)
unfolding next_record
after_quote_same s fields field c tail h = rw h refl

-- a quote that starts a field
open_quote : (s : ℕ) (fields : List (List ℕ)) (tail : List ℕ)
    → next_record (config_of s) st.StartField fields [] (34 ∷ tail)
    ≡ next_record (config_of s) st.InQuoted fields [] tail
unfolding next_record
open_quote s fields tail = refl

-- a quote in quotes, and one more after it
close_quote : (s : ℕ) (fields : List (List ℕ)) (field tail : List ℕ)
    → next_record (config_of s) st.InQuoted fields field (34 ∷ tail)
    ≡ next_record (config_of s) st.AfterQuote fields field tail
unfolding next_record
close_quote s fields field tail = refl

two_quotes : (s : ℕ) (fields : List (List ℕ)) (field tail : List ℕ)
    → next_record (config_of s) st.AfterQuote fields field (34 ∷ tail)
    ≡ next_record (config_of s) st.InQuoted fields (field ++ 34 ∷ []) tail
unfolding next_record
two_quotes s fields field tail = refl

-- bytes in quotes, without a quote among them
quoted_run : (s : ℕ) (fields : List (List ℕ)) (field x tail : List ℕ) → list_any (λ c. c == 34) x ≡ false
    → next_record (config_of s) st.InQuoted fields field (x ++ tail)
    ≡ next_record (config_of s) st.InQuoted fields (field ++ x) tail
unfolding next_record
quoted_run s fields field [] tail h = rw (append-nil field) refl
quoted_run s fields field (b ∷ x) tail h =
    let (here, later) = or_parts (b == 34) (list_any (λ c. c == 34) x) h in
    rw here (quoted_run s fields (field ++ b ∷ []) x tail later
    ∙ ap (λ f. next_record (config_of s) st.InQuoted fields f tail) (append_assoc field (b ∷ []) x))

-- the separator ends a field, and a line end the record
separator_there : (s : ℕ) (fields : List (List ℕ)) (cell : List ℕ) (c : ℕ) (tail : List ℕ) → (c == s) ≡ true
    → next_record (config_of s) st.InField fields cell (c ∷ tail)
    ≡ next_record (config_of s) st.StartField (fields ++ cell ∷ []) [] tail
unfolding next_record
separator_there s fields cell c tail h = rw h refl

line_end_there : (s : ℕ) (fields : List (List ℕ)) (cell : List ℕ) (c : ℕ) (tail : List ℕ) → (c == s) ≡ false
    → ((c == 13) || (c == 10)) ≡ true
    → Ends (next_record (config_of s) st.InField fields cell (c ∷ tail)) (fields ++ cell ∷ []) tail
unfolding next_record
line_end_there s fields cell c tail other h = elim (cases_Bool (c == 13)) [
  | inl return ↦ (st.AfterCr, inr refl, rw (other, return) refl)
  | inr no_return ↦
      let feed : (c == 10) ≡ true = rw no_return at h in
      (st.StartRecord, inl refl, rw (other, no_return, feed) refl)
]

-- a field that comes to a mark is there
pub ended : (s : ℕ) (xs cell : List ℕ) (c : ℕ) (ys : List ℕ) → ends_cell s c ≡ true → GoesTo s xs cell (c ∷ ys)
    → IsFieldThere s xs cell (not (c == s)) ys
ended s xs cell c ys mark goes = elim (cases_Bool (c == s)) [
  | inl is ↦ rw is (λ fields rest. goes fields rest ∙ separator_there s fields cell c (ys ++ rest) is)
  | inr other ↦
      let line : ((c == 13) || (c == 10)) ≡ true = rw other at mark in
      rw other (λ fields rest. let (t, is, e) = line_end_there s fields cell c (ys ++ rest) other line in
      (t, is, goes fields rest ∙ e))
]

pub ended_there : (s : ℕ) (xs cell zs : List ℕ) (is_last : Bool) (ys : List ℕ) → IsMarkThere s zs is_last ys
    → GoesTo s xs cell zs → IsFieldThere s xs cell is_last ys
ended_there s xs cell zs is_last ys (c, at_c, mark, last) goes = rw last (ended s xs cell c ys mark (rw at_c at goes))

pub mark_no_quote : (s c : ℕ) → IsSeparator s → ends_cell s c ≡ true → (c == 34) ≡ false
mark_no_quote s c sep h = elim (cases_Bool (c == 34)) [
  | inl quote ↦
      let is : c ≡ 34 = grind (arith, nat_tests, quote) in
      let none : (34 == s) ≡ false = grind (arith, nat_tests, sep.no_quote) in
      cc (rw (is, none) at h)
  | inr other ↦ other
]

-- a bare field up to a mark
pub bare_goes : (s : ℕ) (x : List ℕ) (c : ℕ) (tail : List ℕ) → IsSeparator s → list_any (ends_cell s) x ≡ false
    → (get_or (x ++ c ∷ tail) 0 0 == 34) ≡ false
    → ends_cell s c ≡ true → GoesTo s (x ++ c ∷ tail) x (c ∷ tail)
bare_goes s [] c tail sep plain first mark fields rest = start_same s fields [] c (tail ++ rest) first
bare_goes s (b ∷ x) c tail sep plain first mark fields rest =
    start_same s fields [] b ((x ++ c ∷ tail) ++ rest) first
    ∙ ap (λ l. next_record (config_of s) st.InField fields [] (b ∷ l)) (append_assoc x (c ∷ tail) rest)
    ∙ field_run s fields [] (b ∷ x) (c ∷ (tail ++ rest)) plain

-- from inside quotes to the end of the quotes, and to a quote that stands for one
pub quotes_over : (s : ℕ) (x tail : List ℕ) → list_any (λ c. c == 34) x ≡ false
    → GoesQuoted s st.AfterQuote (x ++ 34 ∷ tail) x tail
quotes_over s x tail plain fields field rest =
    ap (next_record (config_of s) st.InQuoted fields field) (append_assoc x (34 ∷ tail) rest)
    ∙ quoted_run s fields field x (34 ∷ (tail ++ rest)) plain
    ∙ close_quote s fields (field ++ x) (tail ++ rest)

pub quote_doubled : (s : ℕ) (x tail : List ℕ) → list_any (λ c. c == 34) x ≡ false
    → GoesQuoted s st.InQuoted (x ++ 34 ∷ 34 ∷ tail) (x ++ 34 ∷ []) tail
quote_doubled s x tail plain fields field rest =
    quotes_over s x (34 ∷ tail) plain fields field rest
    ∙ two_quotes s fields (field ++ x) (tail ++ rest)
    ∙ ap (λ f. next_record (config_of s) st.InQuoted fields f (tail ++ rest)) (append_assoc field x (34 ∷ []))

pub quoted_on : (s : ℕ) (t : State) (xs ys zs a b : List ℕ) → GoesQuoted s st.InQuoted xs a ys → GoesQuoted s t ys b zs
    → GoesQuoted s t xs (a ++ b) zs
quoted_on s t xs ys zs a b one two fields field rest =
    one fields field rest ∙ two fields (field ++ a) rest
    ∙ ap (λ f. next_record (config_of s) t fields f (zs ++ rest)) (append_assoc field a b)

-- a field in quotes, with the bytes after them up to a mark
pub quoted_goes : (s : ℕ) (xs inside x : List ℕ) (c : ℕ) (tail : List ℕ) → IsSeparator s
    → GoesQuoted s st.AfterQuote xs inside (x ++ c ∷ tail) → list_any (ends_cell s) x ≡ false
    → (get_or (x ++ c ∷ tail) 0 0 == 34) ≡ false → ends_cell s c ≡ true → GoesTo s (34 ∷ xs) (inside ++ x) (c ∷ tail)
quoted_goes s xs inside [] c tail sep goes plain first mark fields rest =
    open_quote s fields (xs ++ rest) ∙ goes fields [] rest ∙ after_quote_same s fields inside c (tail ++ rest) first
    ∙ ap (λ f. next_record (config_of s) st.InField fields f (c ∷ (tail ++ rest))) (sym (append-nil inside))
quoted_goes s xs inside (b ∷ x) c tail sep goes plain first mark fields rest =
    open_quote s fields (xs ++ rest) ∙ goes fields [] rest
    ∙ after_quote_same s fields inside b ((x ++ c ∷ tail) ++ rest) first
    ∙ ap (λ l. next_record (config_of s) st.InField fields inside (b ∷ l)) (append_assoc x (c ∷ tail) rest)
    ∙ field_run s fields inside (b ∷ x) (c ∷ (tail ++ rest)) plain

-- bytes of a text from a place on, none of which passes a test
pub none_in : (p : ℕ → Bool) (x : List ℕ) → ((k : ℕ) → k < length x → p (get_or x k 0) ≡ false) → list_any p x ≡ false
none_in p [] h = refl
none_in p (b ∷ x) h = rw (h 0 (omega arith), none_in p x (λ k small. h (suc k) (omega arith))) refl

pub part_at : (text : List ℕ) (at end k : ℕ) → at ≤ end → end ≤ length text → k < end - at
    → get_or (take (end - at) (drop at text)) k 0 ≡ get_or text (at + k) 0
part_at text at end k h within small = get_or-take (end - at) (drop at text) k 0 small ∙ get_or-drop at text k 0

pub none_between : (p : ℕ → Bool) (text : List ℕ) (at end : ℕ) → at ≤ end → end ≤ length text
    → ((k : ℕ) → at ≤ k → k < end → p (get_or text k 0) ≡ false)
    → list_any p (take (end - at) (drop at text)) ≡ false
none_between p text at end h within none =
    none_in p (take (end - at) (drop at text)) (λ k small.
    let long : length (take (end - at) (drop at text)) ≤ end - at =
    omega (arith, length-take (end - at) (drop at text)) in
    let less : k < end - at = omega (arith, small, long) in
    rw (part_at text at end k h within less) (none (at + k) (omega arith) (omega (arith, less))))

-- a text from a place on: bytes up to another place, and the byte there
pub part_and : (text : List ℕ) (at end : ℕ) → at ≤ end → end < length text
    → drop at text ≡ take (end - at) (drop at text) ++ get_or text end 0 ∷ drop (end + 1) text
part_and text at end h within = drop_split text at end h
    ∙ ap (λ l. take (end - at) (drop at text) ++ l) (drop_more text end 0 within)

pub first_of : (text : List ℕ) (at : ℕ) → get_or (drop at text) 0 0 ≡ get_or text at 0
first_of text at = get_or-drop at text 0 0 ∙ ap (λ i. get_or text i 0) (omega arith)

-- a bare field of a text
pub bare_in : (s : ℕ) (text : List ℕ) (at end : ℕ) → IsSeparator s → at ≤ end → end < length text
    → ((k : ℕ) → at ≤ k → k < end → ends_cell s (get_or text k 0) ≡ false)
    → (get_or text at 0 == 34) ≡ false → ends_cell s (get_or text end 0) ≡ true
    → GoesTo s (drop at text) (take (end - at) (drop at text)) (drop end text)
bare_in s text at end sep h within none first mark =
    let c = get_or text end 0 in
    let x = take (end - at) (drop at text) in
    let split = part_and text at end h within in
    let start : (get_or (x ++ c ∷ drop (end + 1) text) 0 0 == 34) ≡ false = rw (sym split, first_of text at) first in
    let goes = bare_goes s x c (drop (end + 1) text) sep
    (none_between (ends_cell s) text at end h (omega (arith, within)) none) start mark in
    rw (drop_more text end 0 within) (λ fields rest. ap
    (λ l. next_record (config_of s) st.StartField fields [] (l ++ rest)) split ∙ goes fields rest)

-- a field in quotes of a text
pub quoted_in : (s : ℕ) (text inside : List ℕ) (at from end : ℕ) → IsSeparator s → at < length text
    → get_or text at 0 ≡ 34 → from ≤ end → end < length text
    → GoesQuoted s st.AfterQuote (drop (at + 1) text) inside (drop from text)
    → ((k : ℕ) → from ≤ k → k < end → ends_cell s (get_or text k 0) ≡ false)
    → (get_or text from 0 == 34) ≡ false → ends_cell s (get_or text end 0) ≡ true
    → GoesTo s (drop at text) (inside ++ take (end - from) (drop from text)) (drop end text)
quoted_in s text inside at from end sep in_text quote h within goes none first mark =
    let c = get_or text end 0 in
    let x = take (end - from) (drop from text) in
    let split = part_and text from end h within in
    let start : (get_or (x ++ c ∷ drop (end + 1) text) 0 0 == 34) ≡ false = rw (sym split, first_of text from) first in
    let opened : drop at text ≡ 34 ∷ drop (at + 1) text =
    drop_more text at 0 in_text ∙ ap (λ b. b ∷ drop (at + 1) text) quote in
    let over : GoesQuoted s st.AfterQuote (drop (at + 1) text) inside (x ++ c ∷ drop (end + 1) text) =
    rw split at goes in
    let whole = quoted_goes s (drop (at + 1) text) inside x c (drop (end + 1) text) sep over
    (none_between (ends_cell s) text from end h (omega (arith, within)) none) start mark in
    rw (drop_more text end 0 within) (λ fields rest. ap
    (λ l. next_record (config_of s) st.StartField fields [] (l ++ rest)) opened ∙ whole fields rest)

-- quotes of a text that go on, and that end
pub doubled_in : (s : ℕ) (text inside : List ℕ) (at from quote : ℕ) → from ≤ quote → quote + 1 < length text
    → ((k : ℕ) → from ≤ k → k < quote → (get_or text k 0 == 34) ≡ false)
    → get_or text quote 0 ≡ 34 → get_or text (quote + 1) 0 ≡ 34
    → GoesQuoted s st.InQuoted (drop at text) inside (drop from text)
    → GoesQuoted s st.InQuoted (drop at text) (inside ++ (take (quote - from) (drop from text) ++ 34 ∷ []))
    (drop (quote + 2) text)
doubled_in s text inside at from quote h within none one two goes =
    let x = take (quote - from) (drop from text) in
    let tail = drop (quote + 2) text in
    let plain = none_between (λ c. c == 34) text from quote h (omega (arith, within)) none in
    let next : quote + 1 + 1 ≡ quote + 2 = omega arith in
    let second : drop (quote + 1) text ≡ 34 ∷ tail =
    drop_more text (quote + 1) 0 within ∙ ap (λ b. b ∷ drop (quote + 1 + 1) text) two
    ∙ ap (λ n. 34 ∷ drop n text) next in
    let split : drop from text ≡ x ++ 34 ∷ 34 ∷ tail =
    part_and text from quote h (omega (arith, within)) ∙ ap (λ b. x ++ b ∷ drop (quote + 1) text) one
    ∙ ap (λ l. x ++ 34 ∷ l) second in
    quoted_on s st.InQuoted (drop at text) (x ++ 34 ∷ 34 ∷ tail) tail inside (x ++ 34 ∷ []) (rw split at goes)
    (quote_doubled s x tail plain)

pub over_in : (s : ℕ) (text inside : List ℕ) (at from quote : ℕ) → from ≤ quote → quote < length text
    → ((k : ℕ) → from ≤ k → k < quote → (get_or text k 0 == 34) ≡ false)
    → get_or text quote 0 ≡ 34 → GoesQuoted s st.InQuoted (drop at text) inside (drop from text)
    → GoesQuoted s st.AfterQuote (drop at text) (inside ++ take (quote - from) (drop from text)) (drop (quote + 1) text)
over_in s text inside at from quote h within none one goes =
    let x = take (quote - from) (drop from text) in
    let tail = drop (quote + 1) text in
    let plain = none_between (λ c. c == 34) text from quote h (omega (arith, within)) none in
    let split : drop from text ≡ x ++ 34 ∷ tail = part_and text from quote h within ∙ ap (λ b. x ++ b ∷ tail) one in
    quoted_on s st.AfterQuote (drop at text) (x ++ 34 ∷ tail) tail inside x (rw split at goes)
    (quotes_over s x tail plain)

pub quoted_none : (s : ℕ) (xs : List ℕ) → GoesQuoted s st.InQuoted xs [] xs
quoted_none s xs fields field rest = ap (λ f. next_record (config_of s) st.InQuoted fields f (xs ++ rest))
    (sym (append-nil field))

pub before_or_after : (k n : ℕ) → (k < n) ⊎ (n ≤ k)
before_or_after k zero = inr (omega arith)
before_or_after zero (suc n) = inl (omega arith)
before_or_after (suc k) (suc n) = elim (before_or_after k n)
    [ inl h ↦ inl (omega (arith, h)) | inr h ↦ inr (omega (arith, h)) ]

pub three_some : {X : Type 0} (P Q R S : X → Type 0) (o : Option X) → IfSome o P → IfSome o Q → IfSome o R
    → ((x : X) → P x → Q x → R x → S x) → IfSome o S
three_some P Q R S None p q r h = tt
three_some P Q R S (Some x) p q r h = h x p q r

pub both_none : {X : Type 0} (P Q : Type 0) (o : Option X) → IfNone o P → (P → Q) → IfNone o Q
both_none P Q None p h = h p
both_none P Q (Some x) p h = tt
