-- A name is a text in UTF-8.
use Rattle.std.proofs.Common.{◌≡◌, ℕ, zero, suc, ◌<◌, true, List, [], ◌∷◌, arith, rules}
use Rattle.std.specs.Prelude.{All, slice_index, slice_index_or}
use Rattle.std.specs.List.{list_all}
use Rattle.std.proofs.lemmas.Str.{IsUtf8-from_ascii}
use Rattle.stream_tokens.specs.Bytes.{is_name_start, is_name_byte}
use Rattle.stream_tokens.specs.Forms.{IsName}
use Rattle.report.specs.Named.{IsText}

start_small : (b : ℕ) → is_name_start b ≡ true → b < 128
start_small b is = grind (arith, is)

byte_small : (b : ℕ) → is_name_byte b ≡ true → b < 128
byte_small b is = grind (arith, is)

first_of_all : (b : ℕ) (bs : List ℕ) → list_all is_name_byte (b ∷ bs) ≡ true
    → (is_name_byte b ≡ true) × (list_all is_name_byte bs ≡ true)
first_of_all b bs all = search rules

bytes_small : (bs : List ℕ) → list_all is_name_byte bs ≡ true → (i : ℕ) → slice_index bs i < 128
bytes_small [] all i = omega arith
bytes_small (b ∷ bs) all zero = byte_small b (first_of_all b bs all).0
bytes_small (b ∷ bs) all (suc i) = bytes_small bs (first_of_all b bs all).1 i

name_small : (w : List ℕ) → IsName w → (i : ℕ) → slice_index w i < 128
name_small [] is i = absurd is
name_small (b ∷ bs) is zero = start_small b is.0
name_small (b ∷ bs) is (suc i) = bytes_small bs is.1 i

name_text : (w : List ℕ) → IsName w → IsText w
name_text w is = record { utf8 = IsUtf8-from_ascii w (name_small w is) }

pub names_text : (ws : List (List ℕ)) → All IsName ws → All IsText ws
names_text ws all = λ i d within. name_text (slice_index_or ws i d) (all i d within)
