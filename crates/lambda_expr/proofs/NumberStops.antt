-- Where the words of a number stop, and what is read of them.
use Rattle.std.proofs.Common.{◌≡◌, ℕ, ℤ, Bool, true, false, List, [], ◌∷◌, length, get_or, Option, Some, None, refl}
use Rattle.std.proofs.Common.{sym, ap, ◌∙◌, arith}
use Rattle.std.specs.Prelude.{codes, is_some, option_map, option_and_then, ◌&&◌, if◌then◌else◌}
use Rattle.std.specs.Option.{option_flatten}
use Rattle.stream_tokens.specs.declared.symbol.Symbol.TheVariants as symbol
use Rattle.lambda_expr.specs.Words.{Word, named, numeral, sign, bad}
use Rattle.lambda_expr.specs.Members.{is_named}
use Rattle.lambda_expr.specs.Numbers.{ANumber}
use Rattle.lambda_expr.specs.Numerals.{is_numeral, numeral_value}
use Rattle.lambda_expr.specs.NumberReading.{front, front_of_constant, is_digits, is_limit}
use Rattle.lambda_expr.specs.NumberWords.{digits_value, in_64_bits, is_dot, is_minus, is_owner, limit_value}
use Rattle.lambda_expr.specs.NumberWords.{number_value, signed}
use Rattle.lambda_expr.specs.Stops.{StopsAt}
use Rattle.lambda_expr.proofs.Sequences.{stop_at, stop_end}

abbrev zero_word : Word
zero_word = numeral (48 ∷ [])

abbrev minus : Word
minus = sign symbol.Minus

abbrev dot : Word
dot = sign symbol.Dot

abbrev greatest : Word
greatest = named (codes "MAX_VALUE")

abbrev is_long : List ℕ → Bool
is_long w = is_named w (codes "Long")

none_there : (ws : List Word) → None ≡ number_value ws → ANumber ws → ⊥
none_there ws e h = let f : false ≡ true = ap is_some e ∙ h in cc

no_value : (x : Option ℤ) → is_some x ≡ false → None ≡ x
no_value None h = refl
no_value (Some z) h = let e : true ≡ false = h in absurd cc

-- digits have a value after a minus exactly where they have one without
signs : (t : Bool) (y z : ℤ) → is_some (if t then Some y else None) ≡ is_some (if t then Some z else None)
signs true y z = refl
signs false y z = refl

either_sign : (w : List ℕ) → is_some (digits_value true (numeral w)) ≡ is_digits (numeral w)
either_sign w = signs (is_numeral w) (signed true (numeral_value w)) (signed false (numeral_value w))

a_constant : (w : List ℕ) (c : Word) → is_long w ≡ true → is_limit c ≡ true → ANumber (named w ∷ dot ∷ c ∷ [])
a_constant w c o l = ap (λ t. is_some (if t && true then limit_value c else None)) o ∙ l

-- what begins no number
begins_none : (a : Word) (m : List Word) → None ≡ digits_value false a → is_minus a ≡ false → is_owner a ≡ false
    → None ≡ number_value (a ∷ m)
begins_none a [] d n o = d
begins_none a (b ∷ []) d n o = ap (λ t. if t then digits_value true b else None) (sym n)
begins_none a (b ∷ c ∷ []) d n o = ap (λ t. if t && is_dot b then limit_value c else None) (sym o)
begins_none a (b ∷ c ∷ e ∷ m) d n o = refl

after_digits : (w : List ℕ) (b : Word) (m : List Word) → None ≡ number_value (numeral w ∷ b ∷ m)
after_digits w b [] = refl
after_digits w b (c ∷ []) = refl
after_digits w b (c ∷ d ∷ m) = refl

after_minus : (b : Word) (m : List Word) → None ≡ digits_value true b → None ≡ number_value (minus ∷ b ∷ m)
after_minus b [] d = d
after_minus b (c ∷ []) d = refl
after_minus b (c ∷ e ∷ m) d = refl

after_negative : (w : List ℕ) (b : Word) (m : List Word) → None ≡ number_value (minus ∷ numeral w ∷ b ∷ m)
after_negative w b [] = refl
after_negative w b (c ∷ m) = refl

no_dot : (t : Bool) (x : Option ℤ) → None ≡ (if t && false then x else None)
no_dot true x = refl
no_dot false x = refl

after_owner : (w : List ℕ) (b : Word) (m : List Word) → is_dot b ≡ false → None ≡ number_value (named w ∷ b ∷ m)
after_owner w b (c ∷ []) d = no_dot (is_long w) (limit_value c)
    ∙ ap (λ t. if is_long w && t then limit_value c else None) (sym d)
after_owner w b x d = refl

after_dot : (w : List ℕ) (c : Word) (m : List Word) → is_long w ≡ true → None ≡ limit_value c
    → None ≡ number_value (named w ∷ dot ∷ c ∷ m)
after_dot w c [] o l = l ∙ ap (λ t. if t && true then limit_value c else None) (sym o)
after_dot w c (d ∷ m) o l = refl

-- the place, by the words
at_digits : (w : List ℕ) (r : List Word) (t : Bool) → is_digits (numeral w) ≡ t → None ≡ number_value (numeral w ∷ r)
    → StopsAt ANumber (numeral w ∷ r) (if t then 1 else 0)
at_digits w [] true d e = absurd (none_there (numeral w ∷ []) e d)
at_digits w (b ∷ r) true d e = stop_at ANumber (numeral w ∷ []) b r ([], d)
    (λ m. none_there (numeral w ∷ b ∷ m) (after_digits w b m))
at_digits w r false d e = stop_at ANumber [] (numeral w) r (zero_word ∷ [], refl)
    (λ m. none_there (numeral w ∷ m) (begins_none (numeral w) m (no_value (digits_value false (numeral w)) d) refl
    refl))

at_negative : (w : List ℕ) (r : List Word) (t : Bool) → is_digits (numeral w) ≡ t
    → None ≡ number_value (minus ∷ numeral w ∷ r) → StopsAt ANumber (minus ∷ numeral w ∷ r) (if t then 2 else 1)
at_negative w [] true d e = absurd (none_there (minus ∷ numeral w ∷ []) e (either_sign w ∙ d))
at_negative w (b ∷ r) true d e = stop_at ANumber (minus ∷ numeral w ∷ []) b r ([], either_sign w ∙ d)
    (λ m. none_there (minus ∷ numeral w ∷ b ∷ m) (after_negative w b m))
at_negative w r false d e = stop_at ANumber (minus ∷ []) (numeral w) r (zero_word ∷ [], refl)
    (λ m. none_there (minus ∷ numeral w ∷ m)
    (after_minus (numeral w) m (no_value (digits_value true (numeral w)) (either_sign w ∙ d))))

at_minus : (r : List Word) → None ≡ number_value (minus ∷ r)
    → StopsAt ANumber (minus ∷ r) (if is_digits (get_or r 0 bad) then 2 else 1)
at_minus [] e = stop_end ANumber (minus ∷ []) (zero_word ∷ [], refl) (none_there (minus ∷ []) e)
at_minus (numeral w ∷ r) e = at_negative w r (is_digits (numeral w)) refl e
at_minus (b ∷ r) e = stop_at ANumber (minus ∷ []) b r (zero_word ∷ [], refl)
    (λ m. none_there (minus ∷ b ∷ m) (after_minus b m refl))

at_limit : (w : List ℕ) (c : Word) (r : List Word) (t : Bool) → is_long w ≡ true → is_limit c ≡ t
    → None ≡ number_value (named w ∷ dot ∷ c ∷ r) → StopsAt ANumber (named w ∷ dot ∷ c ∷ r) (if t then 3 else 2)
at_limit w c [] true o l e = absurd (none_there (named w ∷ dot ∷ c ∷ []) e (a_constant w c o l))
at_limit w c (b ∷ r) true o l e = stop_at ANumber (named w ∷ dot ∷ c ∷ []) b r ([], a_constant w c o l)
    (λ m. none_there (named w ∷ dot ∷ c ∷ b ∷ m) refl)
at_limit w c r false o l e = stop_at ANumber (named w ∷ dot ∷ []) c r (greatest ∷ [], a_constant w greatest o refl)
    (λ m. none_there (named w ∷ dot ∷ c ∷ m) (after_dot w c m o (no_value (limit_value c) l)))

at_dot : (w : List ℕ) (r : List Word) → is_long w ≡ true → None ≡ number_value (named w ∷ dot ∷ r)
    → StopsAt ANumber (named w ∷ dot ∷ r) (if is_limit (get_or r 0 bad) then 3 else 2)
at_dot w [] o e = stop_end ANumber (named w ∷ dot ∷ []) (greatest ∷ [], a_constant w greatest o refl)
    (none_there (named w ∷ dot ∷ []) e)
at_dot w (c ∷ r) o e = at_limit w c r (is_limit c) o refl e

at_owner : (w : List ℕ) (r : List Word) → is_long w ≡ true → None ≡ number_value (named w ∷ r)
    → StopsAt ANumber (named w ∷ r) (front_of_constant (get_or r 0 bad) (get_or r 1 bad))
at_owner w [] o e = stop_end ANumber (named w ∷ []) (dot ∷ greatest ∷ [], a_constant w greatest o refl)
    (none_there (named w ∷ []) e)
at_owner w (sign symbol.Dot ∷ r) o e = at_dot w r o e
at_owner w (b ∷ r) o e = stop_at ANumber (named w ∷ []) b r (dot ∷ greatest ∷ [], a_constant w greatest o refl)
    (λ m. none_there (named w ∷ b ∷ m) (after_owner w b m refl))

at_name : (w : List ℕ) (r : List Word) (t : Bool) → is_long w ≡ t → None ≡ number_value (named w ∷ r)
    → StopsAt ANumber (named w ∷ r) (if t then front_of_constant (get_or r 0 bad) (get_or r 1 bad) else 0)
at_name w r true o e = at_owner w r o e
at_name w r false o e = stop_at ANumber [] (named w) r (zero_word ∷ [], refl)
    (λ m. none_there (named w ∷ m) (begins_none (named w) m refl refl o))

pub stops_there : (ws : List Word) → None ≡ number_value ws
    → StopsAt ANumber ws (front (get_or ws 0 bad) (get_or ws 1 bad) (get_or ws 2 bad))
stops_there [] e = stop_end ANumber [] (zero_word ∷ [], refl) (none_there [] e)
stops_there (numeral w ∷ r) e = at_digits w r (is_digits (numeral w)) refl e
stops_there (sign symbol.Minus ∷ r) e = at_minus r e
stops_there (named w ∷ r) e = at_name w r (is_long w) refl e
stops_there (a ∷ r) e = stop_at ANumber [] a r (zero_word ∷ [], refl)
    (λ m. none_there (a ∷ m) (begins_none a m refl refl refl))

-- the words of a short text
pub one_word : (ws : List Word) → length ws ≡ 1 → get_or ws 0 bad ∷ [] ≡ ws
one_word (a ∷ []) h = refl
one_word x h = absurd (omega arith)

pub two_words : (ws : List Word) → length ws ≡ 2 → get_or ws 0 bad ∷ get_or ws 1 bad ∷ [] ≡ ws
two_words (a ∷ b ∷ []) h = refl
two_words x h = absurd (omega arith)

pub three_words : (ws : List Word) → length ws ≡ 3 → get_or ws 0 bad ∷ get_or ws 1 bad ∷ get_or ws 2 bad ∷ [] ≡ ws
three_words (a ∷ b ∷ c ∷ []) h = refl
three_words x h = absurd (omega arith)

-- a text of no word, or of four or more, is no number
pub no_number : (ws : List Word) → (length ws ≡ 1 → ⊥) → (length ws ≡ 2 → ⊥) → (length ws ≡ 3 → ⊥)
    → None ≡ number_value ws
no_number (a ∷ []) p q r = absurd (p refl)
no_number (a ∷ b ∷ []) p q r = absurd (q refl)
no_number (a ∷ b ∷ c ∷ []) p q r = absurd (r refl)
no_number x p q r = refl

-- whether something is read, and its value if that has 64 bits
pub by_read : (x : Option ℤ) (r : Option (Option ℤ)) → r ≡ option_map in_64_bits x
    → (is_some r ≡ is_some x) × (option_flatten r ≡ option_and_then in_64_bits x)
by_read None r e = (ap is_some e, ap option_flatten e)
by_read (Some z) r e = (ap is_some e, ap option_flatten e)

-- nothing is read of words that are no number
pub none_read : (x : Option ℤ) (r : Option (Option ℤ)) → r ≡ option_map in_64_bits x → r ≡ None → None ≡ x
none_read None r e n = refl
none_read (Some z) r e n = let f : ◌≡◌ {A = Option (Option ℤ)} (Some (in_64_bits z)) None = sym e ∙ n in absurd cc
