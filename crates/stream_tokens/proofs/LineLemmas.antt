-- The first line of some bytes, and the lines after it.
use Rattle.std.proofs.Common.{◌≡◌, ℕ, ◌+◌, ◌-◌, ◌<◌, ◌≤◌, Bool, true, false, not, ◌==◌, cond, nat_lt, List, [], ◌∷◌}
use Rattle.std.proofs.Common.{length, take, drop, Some, None, refl, ap, ◌∙◌, arith, All}
use Rattle.std.specs.List.{slice_split, position, position_or_len, before_first, after_first}
use Rattle.std.specs.Str.Lines.{lines_of_parts, strip_carriage_return}
use Rattle.std.proofs.lemmas.Bool.{ne_eqb, not-true, ltb-true, ltb-false}
use Rattle.std.proofs.lemmas.List.{take_rest, drop_all}
use Rattle.std.proofs.lemmas.List.Splits.{slice_split_none, slice_split_first, length-slice_split}
use Rattle.std.proofs.lemmas.List.Sums.{prefix_len_passes}
use Rattle.stream_tokens.specs.Lines.{lines_of}

abbrev pub is_feed : ℕ → Bool
is_feed b = b == 10

parts_more : (x : List ℕ) (parts : List (List ℕ)) → 0 < length parts
    → lines_of_parts (x ∷ parts) ≡ strip_carriage_return x ∷ lines_of_parts parts
parts_more x [] some = absurd (omega arith)
parts_more x (y ∷ more) some = refl

some_is : {i j : ℕ} → Some i ≡ Some j → i ≡ j
some_is e = cc

found_at : (b : Bool) (n m : ℕ) → cond b (Some n) None ≡ Some m → (b ≡ true) × (n ≡ m)
found_at true n m h = (refl, some_is h)
found_at false n m h = absurd cc

none_at : (b : Bool) (n : ℕ) → cond b (Some n) None ≡ None → b ≡ false
none_at true n h = absurd cc
none_at false n h = refl

pub line_before_feed : (bytes : List ℕ) (n : ℕ) → position is_feed bytes ≡ Some n
    → (n < length bytes) × (lines_of bytes ≡ strip_carriage_return (take n bytes) ∷ lines_of (drop (n + 1) bytes))
line_before_feed bytes n h =
    let at = found_at (nat_lt (position_or_len is_feed bytes) (length bytes)) (position_or_len is_feed bytes) n h in
    let less : position_or_len is_feed bytes < length bytes = ltb-true _ _ at.0 in
    let behind : List ℕ = after_first is_feed bytes in
    let first = slice_split_first is_feed bytes 0 less in
    let split : lines_of bytes ≡ strip_carriage_return (before_first is_feed bytes) ∷ lines_of behind =
    ap lines_of_parts first ∙ parts_more (before_first is_feed bytes) (slice_split is_feed behind)
    (omega (arith, length-slice_split is_feed behind)) in
    (omega (arith, at.1), split ∙ ap (λ k. strip_carriage_return (take k bytes) ∷ lines_of (drop (k + 1) bytes)) at.1)

pub last_line : (bytes : List ℕ) → 0 < length bytes → position is_feed bytes ≡ None → lines_of bytes ≡ bytes ∷ []
last_line bytes some h =
    let more : length bytes ≤ position_or_len is_feed bytes =
    ltb-false _ _ (none_at (nat_lt (position_or_len is_feed bytes) (length bytes)) (position_or_len is_feed bytes)
    h) in
    let none_feeds : All (λ b. is_feed b ≡ false) bytes =
    λ k d less. not-true _ (prefix_len_passes (λ b. not (is_feed b)) bytes k d (omega arith)) in
    ap lines_of_parts (slice_split_none is_feed bytes none_feeds)
    ∙ ap (λ t. cond t [] (bytes ∷ [])) (ne_eqb (length bytes) 0 (λ z. omega arith))

-- no bytes follow the last line
pub none_behind : (bytes : List ℕ) → take (length bytes - length bytes) (drop (length bytes) bytes) ≡ []
none_behind bytes = take_rest bytes (length bytes) ∙ drop_all (length bytes) bytes (omega arith)
