-- The symbol at the front of a text is spelled there, and no longer one is.
use Rattle.std.proofs.Common.{◌≡◌, ℕ, ◌≤◌, Bool, true, false, ◌==◌, ◌&&◌, nat_eq, List, [], ◌∷◌, ◌++◌, length, take}
use Rattle.std.proofs.Common.{codes, slice_get, Option, Some, None, refl, sym, ap, arith, lit≤, if◌then◌else◌}
use Rattle.std.specs.List.{starts_with}
use Rattle.std.proofs.lemmas.Bool.{eqb-true}
use Rattle.stream_tokens.specs.declared.symbol.Symbol.{Symbol}
use Rattle.stream_tokens.specs.declared.symbol.Symbol.TheVariants as symbol
use Rattle.stream_tokens.specs.Symbols.{spelling_of}
use Rattle.stream_tokens.specs.Scanning.{pair_of, single_of, either, pair_with, symbol_at}
use Rattle.stream_tokens.proofs.Runs.{and_left, and_right}

-- the text begins with the symbol, if there is one
abbrev pub BeginsWith : List ℕ → Option Symbol → Type 0
BeginsWith text None = Unit {0}
BeginsWith text (Some s) = (length (spelling_of s) ≤ length text) × (take (length (spelling_of s)) text ≡ spelling_of s)

choose : (text : List ℕ) (b : Bool) (x y : Option Symbol) → (b ≡ true → BeginsWith text x) → BeginsWith text y
    → BeginsWith text (if b then x else y)
choose text true x y f g = f refl
choose text false x y f g = g

choose_either : (text : List ℕ) (x y : Option Symbol) → BeginsWith text x → BeginsWith text y
    → BeginsWith text (either x y)
choose_either text None y f g = g
choose_either text (Some s) y f g = f

one_byte : (p a : ℕ) (rest : List ℕ) → (a == p) ≡ true → (1 ≤ length (a ∷ rest)) × (take 1 (a ∷ rest) ≡ p ∷ [])
one_byte p a rest h = (omega arith, ap (λ x. x ∷ []) (eqb-true a p h))

two_bytes : (p q a b : ℕ) (rest : List ℕ) → ((a == p) && (b == q)) ≡ true
    → (2 ≤ length (a ∷ b ∷ rest)) × (take 2 (a ∷ b ∷ rest) ≡ p ∷ q ∷ [])
two_bytes p q a b rest h = (
  omega arith,
  λ i. eqb-true a p (and_left (a == p) (b == q) h) i ∷ eqb-true b q (and_right (a == p) (b == q) h) i ∷ [],
)

three_bytes : (text : List ℕ) → starts_with nat_eq text (codes ">>>") ≡ true
    → (3 ≤ length text) × (take 3 text ≡ codes ">>>")
three_bytes [] h = absurd (let e : false ≡ true = h in cc)
three_bytes (a ∷ []) h = let e : false ≡ true = and_right (nat_eq 62 a) false h in absurd cc
three_bytes (a ∷ b ∷ []) h = let e : false ≡ true =
    and_right (nat_eq 62 b) false (and_right (nat_eq 62 a) (nat_eq 62 b && false) h) in absurd cc
three_bytes (a ∷ b ∷ c ∷ rest) h =
    let more = and_right (nat_eq 62 a) (nat_eq 62 b && (nat_eq 62 c && true)) h in
    let last = and_right (nat_eq 62 b) (nat_eq 62 c && true) more in
    let first_is = eqb-true 62 a (and_left (nat_eq 62 a) (nat_eq 62 b && (nat_eq 62 c && true)) h) in
    let second_is = eqb-true 62 b (and_left (nat_eq 62 b) (nat_eq 62 c && true) more) in
    let third_is = eqb-true 62 c (and_left (nat_eq 62 c) true last) in
    (omega arith, sym (λ i. first_is i ∷ second_is i ∷ third_is i ∷ []))

single_begins : (a : ℕ) (rest : List ℕ) → BeginsWith (a ∷ rest) (single_of a)
single_begins a rest =
    choose (a ∷ rest) (a == 40) (Some symbol.Open) _ (one_byte 40 a rest)
    (choose (a ∷ rest) (a == 41) (Some symbol.Close) _ (one_byte 41 a rest)
    (choose (a ∷ rest) (a == 44) (Some symbol.Comma) _ (one_byte 44 a rest)
    (choose (a ∷ rest) (a == 46) (Some symbol.Dot) _ (one_byte 46 a rest)
    (choose (a ∷ rest) (a == 59) (Some symbol.Semicolon) _ (one_byte 59 a rest)
    (choose (a ∷ rest) (a == 61) (Some symbol.Assign) _ (one_byte 61 a rest)
    (choose (a ∷ rest) (a == 60) (Some symbol.Less) _ (one_byte 60 a rest)
    (choose (a ∷ rest) (a == 62) (Some symbol.Greater) _ (one_byte 62 a rest)
    (choose (a ∷ rest) (a == 43) (Some symbol.Plus) _ (one_byte 43 a rest)
    (choose (a ∷ rest) (a == 45) (Some symbol.Minus) _ (one_byte 45 a rest)
    (choose (a ∷ rest) (a == 42) (Some symbol.Star) _ (one_byte 42 a rest)
    (choose (a ∷ rest) (a == 47) (Some symbol.Slash) _ (one_byte 47 a rest)
    (choose (a ∷ rest) (a == 37) (Some symbol.Percent) _ (one_byte 37 a rest)
    (choose (a ∷ rest) (a == 38) (Some symbol.And) _ (one_byte 38 a rest)
    (choose (a ∷ rest) (a == 124) (Some symbol.Or) _ (one_byte 124 a rest)
    (choose (a ∷ rest) (a == 94) (Some symbol.Xor) _ (one_byte 94 a rest)
    (choose (a ∷ rest) (a == 126) (Some symbol.Tilde) _ (one_byte 126 a rest)
    (choose (a ∷ rest) (a == 33) (Some symbol.Bang) _ (one_byte 33 a rest)
    (choose (a ∷ rest) (a == 63) (Some symbol.Question) _ (one_byte 63 a rest)
    (choose (a ∷ rest) (a == 58) (Some symbol.Colon) _ (one_byte 58 a rest)
    tt)))))))))))))))))))

pair_begins : (a b : ℕ) (rest : List ℕ) → BeginsWith (a ∷ b ∷ rest) (pair_of a b)
pair_begins a b rest =
    choose (a ∷ b ∷ rest) ((a == 45) && (b == 62)) (Some symbol.Arrow) _ (two_bytes 45 62 a b rest)
    (choose (a ∷ b ∷ rest) ((a == 58) && (b == 58)) (Some symbol.DoubleColon) _ (two_bytes 58 58 a b rest)
    (choose (a ∷ b ∷ rest) ((a == 60) && (b == 60)) (Some symbol.ShiftLeft) _ (two_bytes 60 60 a b rest)
    (choose (a ∷ b ∷ rest) ((a == 62) && (b == 62)) (Some symbol.ShiftRight) _ (two_bytes 62 62 a b rest)
    (choose (a ∷ b ∷ rest) ((a == 60) && (b == 61)) (Some symbol.LessOrEqual) _ (two_bytes 60 61 a b rest)
    (choose (a ∷ b ∷ rest) ((a == 62) && (b == 61)) (Some symbol.GreaterOrEqual) _ (two_bytes 62 61 a b rest)
    (choose (a ∷ b ∷ rest) ((a == 61) && (b == 61)) (Some symbol.Equal) _ (two_bytes 61 61 a b rest)
    (choose (a ∷ b ∷ rest) ((a == 33) && (b == 61)) (Some symbol.NotEqual) _ (two_bytes 33 61 a b rest)
    (choose (a ∷ b ∷ rest) ((a == 38) && (b == 38)) (Some symbol.AndAnd) _ (two_bytes 38 38 a b rest)
    (choose (a ∷ b ∷ rest) ((a == 124) && (b == 124)) (Some symbol.OrOr) _ (two_bytes 124 124 a b rest)
    (choose (a ∷ b ∷ rest) ((a == 43) && (b == 43)) (Some symbol.PlusPlus) _ (two_bytes 43 43 a b rest)
    (choose (a ∷ b ∷ rest) ((a == 45) && (b == 45)) (Some symbol.MinusMinus) _ (two_bytes 45 45 a b rest)
    tt)))))))))))

pair_with_begins : (a : ℕ) (rest : List ℕ) → BeginsWith (a ∷ rest) (pair_with a (slice_get rest 0))
pair_with_begins a [] = tt
pair_with_begins a (b ∷ rest) = pair_begins a b rest

pub symbol_begins : (a : ℕ) (rest : List ℕ) → BeginsWith (a ∷ rest) (symbol_at (a ∷ rest))
symbol_begins a rest =
    choose (a ∷ rest) (starts_with nat_eq (a ∷ rest) (codes ">>>")) (Some symbol.ShiftRightUnsigned) _
    (three_bytes (a ∷ rest))
    (choose_either (a ∷ rest) _ _ (pair_with_begins a rest) (single_begins a rest))

-- a symbol that is at least as long
abbrev AtLeastAsLong : ℕ → Option Symbol → Type 0
AtLeastAsLong n o = (s : Symbol) × (o ≡ Some s) × (n ≤ length (spelling_of s))

has_bytes : (s : Symbol) → 1 ≤ length (spelling_of s)
has_bytes symbol.Arrow = lit≤ tt
has_bytes symbol.DoubleColon = lit≤ tt
has_bytes symbol.ShiftLeft = lit≤ tt
has_bytes symbol.ShiftRight = lit≤ tt
has_bytes symbol.ShiftRightUnsigned = lit≤ tt
has_bytes symbol.LessOrEqual = lit≤ tt
has_bytes symbol.GreaterOrEqual = lit≤ tt
has_bytes symbol.Equal = lit≤ tt
has_bytes symbol.NotEqual = lit≤ tt
has_bytes symbol.AndAnd = lit≤ tt
has_bytes symbol.OrOr = lit≤ tt
has_bytes symbol.PlusPlus = lit≤ tt
has_bytes symbol.MinusMinus = lit≤ tt
has_bytes symbol.Open = lit≤ tt
has_bytes symbol.Close = lit≤ tt
has_bytes symbol.Comma = lit≤ tt
has_bytes symbol.Dot = lit≤ tt
has_bytes symbol.Semicolon = lit≤ tt
has_bytes symbol.Assign = lit≤ tt
has_bytes symbol.Less = lit≤ tt
has_bytes symbol.Greater = lit≤ tt
has_bytes symbol.Plus = lit≤ tt
has_bytes symbol.Minus = lit≤ tt
has_bytes symbol.Star = lit≤ tt
has_bytes symbol.Slash = lit≤ tt
has_bytes symbol.Percent = lit≤ tt
has_bytes symbol.And = lit≤ tt
has_bytes symbol.Or = lit≤ tt
has_bytes symbol.Xor = lit≤ tt
has_bytes symbol.Tilde = lit≤ tt
has_bytes symbol.Bang = lit≤ tt
has_bytes symbol.Question = lit≤ tt
has_bytes symbol.Colon = lit≤ tt

or_single : (o : Option Symbol) (s : Symbol) → AtLeastAsLong 1 (either o (Some s))
or_single None s = (s, refl, has_bytes s)
or_single (Some t) s = (t, refl, has_bytes t)

or_three : (b : Bool) (n : ℕ) (o : Option Symbol) → n ≤ 3 → AtLeastAsLong n o
    → AtLeastAsLong n (if b then Some symbol.ShiftRightUnsigned else o)
or_three true n o h f = (symbol.ShiftRightUnsigned, refl, h)
or_three false n o h f = f

-- where a symbol stands at the front, the one that is taken is at least as long
pub symbol_longest : (s : Symbol) (rest : List ℕ)
    → AtLeastAsLong (length (spelling_of s)) (symbol_at (spelling_of s ++ rest))
symbol_longest symbol.Arrow rest = (symbol.Arrow, refl, lit≤ tt)
symbol_longest symbol.DoubleColon rest = (symbol.DoubleColon, refl, lit≤ tt)
symbol_longest symbol.ShiftLeft rest = (symbol.ShiftLeft, refl, lit≤ tt)
symbol_longest symbol.ShiftRight rest = or_three (starts_with nat_eq (codes ">>" ++ rest) (codes ">>>")) 2
    (Some symbol.ShiftRight) (lit≤ tt) (symbol.ShiftRight, refl, lit≤ tt)
symbol_longest symbol.ShiftRightUnsigned rest = (symbol.ShiftRightUnsigned, refl, lit≤ tt)
symbol_longest symbol.LessOrEqual rest = (symbol.LessOrEqual, refl, lit≤ tt)
symbol_longest symbol.GreaterOrEqual rest = (symbol.GreaterOrEqual, refl, lit≤ tt)
symbol_longest symbol.Equal rest = (symbol.Equal, refl, lit≤ tt)
symbol_longest symbol.NotEqual rest = (symbol.NotEqual, refl, lit≤ tt)
symbol_longest symbol.AndAnd rest = (symbol.AndAnd, refl, lit≤ tt)
symbol_longest symbol.OrOr rest = (symbol.OrOr, refl, lit≤ tt)
symbol_longest symbol.PlusPlus rest = (symbol.PlusPlus, refl, lit≤ tt)
symbol_longest symbol.MinusMinus rest = (symbol.MinusMinus, refl, lit≤ tt)
symbol_longest symbol.Open rest = or_single (pair_with 40 (slice_get rest 0)) symbol.Open
symbol_longest symbol.Close rest = or_single (pair_with 41 (slice_get rest 0)) symbol.Close
symbol_longest symbol.Comma rest = or_single (pair_with 44 (slice_get rest 0)) symbol.Comma
symbol_longest symbol.Dot rest = or_single (pair_with 46 (slice_get rest 0)) symbol.Dot
symbol_longest symbol.Semicolon rest = or_single (pair_with 59 (slice_get rest 0)) symbol.Semicolon
symbol_longest symbol.Assign rest = or_single (pair_with 61 (slice_get rest 0)) symbol.Assign
symbol_longest symbol.Less rest = or_single (pair_with 60 (slice_get rest 0)) symbol.Less
symbol_longest symbol.Greater rest = or_three (starts_with nat_eq (codes ">" ++ rest) (codes ">>>")) 1
    (either (pair_with 62 (slice_get rest 0)) (Some symbol.Greater)) (lit≤ tt)
    (or_single (pair_with 62 (slice_get rest 0)) symbol.Greater)
symbol_longest symbol.Plus rest = or_single (pair_with 43 (slice_get rest 0)) symbol.Plus
symbol_longest symbol.Minus rest = or_single (pair_with 45 (slice_get rest 0)) symbol.Minus
symbol_longest symbol.Star rest = or_single (pair_with 42 (slice_get rest 0)) symbol.Star
symbol_longest symbol.Slash rest = or_single (pair_with 47 (slice_get rest 0)) symbol.Slash
symbol_longest symbol.Percent rest = or_single (pair_with 37 (slice_get rest 0)) symbol.Percent
symbol_longest symbol.And rest = or_single (pair_with 38 (slice_get rest 0)) symbol.And
symbol_longest symbol.Or rest = or_single (pair_with 124 (slice_get rest 0)) symbol.Or
symbol_longest symbol.Xor rest = or_single (pair_with 94 (slice_get rest 0)) symbol.Xor
symbol_longest symbol.Tilde rest = or_single (pair_with 126 (slice_get rest 0)) symbol.Tilde
symbol_longest symbol.Bang rest = or_single (pair_with 33 (slice_get rest 0)) symbol.Bang
symbol_longest symbol.Question rest = or_single (pair_with 63 (slice_get rest 0)) symbol.Question
symbol_longest symbol.Colon rest = or_single (pair_with 58 (slice_get rest 0)) symbol.Colon
