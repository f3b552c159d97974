use Rattle.std.proofs.Common.{◌≡◌, ℕ, ◌+◌, ◌-◌, ◌*◌, ◌<◌, ◌^◌, min, cond, true, List, [], ◌∷◌, length, drop, get_or}
use Rattle.std.proofs.Common.{sym, ap, ◌∙◌, arith}
use Rattle.std.specs.Prelude.{take_while}
use Rattle.std.specs.Char.{is_ascii_digit}
use Rattle.std.proofs.lemmas.List.{drop_more}
use Rattle.std.proofs.lemmas.List.Sums.{take_while-cons}
use Rattle.lambda_expr.specs.Numerals.{read_on}
use Rattle.lambda_expr.proofs.number.numeral_value.Goals as goal

-- the digits on, from a number that was cut at m
read_on-min : (m n : ℕ) (ds : List ℕ) → min (read_on (min n m) ds) m ≡ min (read_on n ds) m
read_on-min m n [] = omega arith
read_on-min m n (d ∷ ds) =
    let low = 10 * min n m + (d - 48) in
    let high = 10 * n + (d - 48) in
    let same : min low m ≡ min high m = omega arith in
    sym (read_on-min m low ds) ∙ ap (λ k. min (read_on k ds) m) same ∙ read_on-min m high ds

-- one digit more
digits_more : (m n new : ℕ) (xs : List ℕ) (i : ℕ) → i < length xs → is_ascii_digit (get_or xs i 0) ≡ true
    → new ≡ min (10 * n + (get_or xs i 0 - 48)) m
    → min (read_on new (take_while is_ascii_digit (drop (i + 1) xs))) m
    ≡ min (read_on n (take_while is_ascii_digit (drop i xs))) m
digits_more m n new xs i lt digit is =
    let rest = take_while is_ascii_digit (drop (i + 1) xs) in
    let front : take_while is_ascii_digit (drop i xs) ≡ get_or xs i 0 ∷ rest =
    ap (take_while is_ascii_digit) (drop_more xs i 0 lt)
    ∙ take_while-cons is_ascii_digit (get_or xs i 0) (drop (i + 1) xs)
    ∙ ap (λ t. cond t (get_or xs i 0 ∷ rest) []) digit in
    ap (λ k. min (read_on k rest) m) is ∙ read_on-min m (10 * n + (get_or xs i 0 - 48)) rest
    ∙ ap (λ ds. min (read_on n ds) m) (sym front)

pub loop-byte-preserved : goal.loop-byte-preserved
loop-byte-preserved c =
    let digit : is_ascii_digit (get_or c.args.number.now c.loop-byte.byte-index 0) ≡ true =
    sym c.is_ascii_digit.ensures.value ∙ c.if-not-is_ascii_digit.false in
    let new : c.saturating_add-value.result
    ≡ min (10 * c.loop-byte.value + (get_or c.args.number.now c.loop-byte.byte-index 0 - 48)) (2 ^ 64 - 1) =
    omega arith in (
      omega arith,
      digits_more (2 ^ 64 - 1) c.loop-byte.value c.saturating_add-value.result c.args.number.now
          c.loop-byte.byte-index c.loop-byte-test.true digit new ∙ c.loop-byte.invariant.1,
    )
