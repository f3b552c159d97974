-- The front of a body that gives a stream.
use Rattle.std.proofs.Common.{◌≡◌, ℕ, zero, suc, ◌+◌, ◌≤◌, List, [], ◌∷◌, ◌++◌, drop, get_or, length, take, Option}
use Rattle.std.proofs.Common.{Some, None, Result, Ok, Err, refl, sym, subst, ap, ◌∙◌, arith}
use Rattle.std.proofs.lemmas.List.{get_or-drop}
use Rattle.lambda_expr.specs.declared.lexeme.Lexeme.{Lexeme}
use Rattle.lambda_expr.specs.declared.lexeme.Lexeme.TheVariants as word
use Rattle.lambda_expr.specs.declared.lexeme.Name.TheVariants.{Plain, LongStream}
use Rattle.lambda_expr.specs.declared.lexeme.PlainName.{PlainName}
use Rattle.lambda_expr.specs.declared.table.Member.TheVariants as member
use Rattle.lambda_expr.specs.declared.source.StreamSource.{StreamSource}
use Rattle.lambda_expr.specs.declared.source.StreamSource.TheVariants as source
use Rattle.lambda_expr.specs.declared.source.Opened.{Opened}
use Rattle.lambda_expr.specs.declared.sign.Sign.TheVariants.{Comma}
use Rattle.lambda_expr.specs.declared.lexeme.Numeral.TheVariants.{Places}
use Rattle.lambda_expr.specs.Grammar.{Shape, number}
use Rattle.lambda_expr.specs.SourceReading.{Operands, dotted_at, named_at, opened_at, sourced_at, stream_at}
use Rattle.lambda_expr.specs.Sources.{IsDotted, IsNamed, IsOpened, IsStream, source_of}
use Rattle.lambda_expr.specs.Stops.{Begins, StopsAt}
use Rattle.lambda_expr.proofs.Sequences.{stop_after, stop_at, stop_end}

abbrev pub AStream : List Lexeme → Type 0
AStream ws = (s : StreamSource) × (es : List Shape) × IsStream s es ws

abbrev ANamed : List Lexeme → Type 0
ANamed ws = (s : StreamSource) × (es : List Shape) × IsNamed s es ws

abbrev ADotted : List Lexeme → Type 0
ADotted ws = (s : StreamSource) × (es : List Shape) × IsDotted s es ws

abbrev AnOpened : StreamSource → List Lexeme → Type 0
AnOpened s ws = (es : List Shape) × IsOpened s es ws

-- a list of operands for each source
pub some_list : (s : StreamSource) → (us : List Lexeme) × Operands s us
some_list source.Of = (word.Close ∷ [], ([], record { count = tt; bound = tt; spelled = refl }))
some_list source.Empty = (word.Close ∷ [], ([], record { count = refl; bound = tt; spelled = refl }))
some_list x = (
  word.Number (Places 0) ∷ word.Sign Comma ∷ word.Number (Places 0) ∷ word.Close ∷ [],
  (number (Places 0) ∷ number (Places 0) ∷ [], record { count = refl; bound = (tt, (tt, tt)); spelled = refl }),
)

opened_begins : (s : StreamSource) → Begins (AnOpened s) []
opened_begins s = let l = some_list s in (word.Open ∷ l.0, (l.1.0, l.1.1))

abbrev empty_name : PlainName
empty_name = record { number = 0; member = member.Source source.Empty }

abbrev empty_words : List Lexeme
empty_words = word.Name (Plain empty_name) ∷ word.Open ∷ word.Close ∷ []

named_begins : Begins ANamed []
named_begins = (empty_words, (source.Empty, [], (refl, record { count = refl; bound = tt; spelled = refl })))

dotted_begins : Begins ADotted []
dotted_begins = (
  word.Dot ∷ empty_words,
  (source.Empty, [], (refl, record { count = refl; bound = tt; spelled = refl })),
)

pub stream_begins : Begins AStream []
stream_begins = (empty_words, (source.Empty, [], (refl, record { count = refl; bound = tt; spelled = refl })))

-- what is read of the front, and then of the operands; `n` words stand before these
abbrev pub IsFound : (List Lexeme → Type 0) → ℕ → List Lexeme → Result Opened ℕ → Type 0
IsFound G n ws (Err k) = (m : ℕ) × (k ≡ n + m) × StopsAt G ws m
IsFound G n ws (Ok o) = (m : ℕ) × (o.count ≡ n + m) × (m ≤ length ws)
    × ((q : ℕ) → StopsAt (Operands o.source) (drop m ws) q → StopsAt G ws (m + q))

-- one word before what is found
after_one : (G H : List Lexeme → Type 0) (w : Lexeme) (n : ℕ) (ws : List Lexeme) (r : Result Opened ℕ)
    → ((m : List Lexeme) → G (w ∷ m) → H m) → ((m : List Lexeme) → H m → G (w ∷ m)) → IsFound H (n + 1) ws r
    → IsFound G n (w ∷ ws) r
after_one G H w n ws (Err k) to from (m, is, h) = (suc m, omega arith, stop_after G H w ws m to from h)
after_one G H w n ws (Ok o) to from (m, is, low, h) = (
  suc m,
  omega arith,
  omega arith,
  λ q s. let same : suc (m + q) ≡ suc m + q = omega arith in
      subst (StopsAt G (w ∷ ws)) same (stop_after G H w ws (m + q) to from (h q s)),
)

same_source : (s t : StreamSource) (o : Option StreamSource) → o ≡ Some s → o ≡ Some t → t ≡ s
same_source s t o a b = cc

named_by : (n : ℕ) (i : PlainName) (s : StreamSource) (ws : List Lexeme) (r : Result Opened ℕ)
    → source_of i.member ≡ Some s → IsFound (AnOpened s) (n + 1) ws r → IsFound ANamed n (word.Name (Plain i) ∷ ws) r
named_by n i s ws r is h = after_one ANamed (AnOpened s) (word.Name (Plain i)) n ws r
    (λ m x. (x.1, subst (λ t. IsOpened t x.1 m) (same_source s x.0 (source_of i.member) is x.2.0) x.2.1))
    (λ m x. (s, x.0, (is, x.1))) h

renamed : (w : Lexeme) (ws : List Lexeme) (n : ℕ) → ((m : List Lexeme) → AStream (w ∷ m) → ANamed (w ∷ m))
    → ((m : List Lexeme) → ANamed (w ∷ m) → AStream (w ∷ m)) → StopsAt ANamed (w ∷ ws) n → StopsAt AStream (w ∷ ws) n
renamed w ws zero to from s = record {
  within = s.within;
  outside = λ g. s.outside (to ws g);
  begins = stream_begins;
  stops = λ lt x. s.stops lt (x.0, to _ x.1);
}
renamed w ws (suc n) to from s =
    let next : suc n + 1 ≡ suc (n + 1) = omega arith in
    record {
      within = s.within;
      outside = λ g. s.outside (to ws g);
      begins = (s.begins.0, from (take n ws ++ s.begins.0) s.begins.1);
      stops = λ lt x. s.stops lt (
        x.0,
        subst (λ k. ANamed (take k (w ∷ ws) ++ x.0)) (sym next)
            (to (take (n + 1) ws ++ x.0) (subst (λ k. AStream (take k (w ∷ ws) ++ x.0)) next x.1)),
      );
    }

as_named : (n : ℕ) (w : Lexeme) (ws : List Lexeme) (r : Result Opened ℕ)
    → ((m : List Lexeme) → AStream (w ∷ m) → ANamed (w ∷ m)) → ((m : List Lexeme) → ANamed (w ∷ m) → AStream (w ∷ m))
    → IsFound ANamed n (w ∷ ws) r → IsFound AStream n (w ∷ ws) r
as_named n w ws (Err k) to from (m, is, h) = (m, is, renamed w ws m to from h)
as_named n w ws (Ok o) to from (m, is, low, h) = (m, is, low, λ q s. renamed w ws (m + q) to from (h q s))

opened_found : (n : ℕ) (s : StreamSource) (ws : List Lexeme) → IsFound (AnOpened s) n ws (opened_at n s ws)
opened_found n s [] = (0, omega arith, stop_end (AnOpened s) [] (opened_begins s) (λ x. x.1))
opened_found n s (word.Open ∷ ws) = (
  1,
  refl,
  omega arith,
  λ q h. let same : suc q ≡ 1 + q = omega arith in
      subst (StopsAt (AnOpened s) (word.Open ∷ ws)) same
      (stop_after (AnOpened s) (Operands s) word.Open ws q (λ m x. x) (λ m x. x) h),
)
opened_found n s (w ∷ ws) = (0, omega arith, stop_at (AnOpened s) [] w ws (opened_begins s) (λ m x. x.1))

sourced_found : (n : ℕ) (i : PlainName) (o : Option StreamSource) (ws : List Lexeme) → source_of i.member ≡ o
    → IsFound ANamed n (word.Name (Plain i) ∷ ws) (sourced_at n o ws)
sourced_found n i None ws is = (
  0,
  omega arith,
  stop_at ANamed [] (word.Name (Plain i)) ws named_begins (λ m x. let k = x.2.0 in cc),
)
sourced_found n i (Some s) ws is = named_by n i s ws (opened_at (n + 1) s ws) is (opened_found (n + 1) s ws)

named_found : (n : ℕ) (ws : List Lexeme) → IsFound ANamed n ws (named_at n ws)
named_found n [] = (0, omega arith, stop_end ANamed [] named_begins (λ x. x.2))
named_found n (word.Name (Plain i) ∷ ws) = sourced_found n i (source_of i.member) ws refl
named_found n (w ∷ ws) = (0, omega arith, stop_at ANamed [] w ws named_begins (λ m x. x.2))

dotted_found : (ws : List Lexeme) → IsFound ADotted 1 ws (dotted_at ws)
dotted_found [] = (0, refl, stop_end ADotted [] dotted_begins (λ x. x.2))
dotted_found (word.Dot ∷ ws) = after_one ADotted ANamed word.Dot 1 ws (named_at 2 ws) (λ m x. x) (λ m x. x)
    (named_found 2 ws)
dotted_found (w ∷ ws) = (0, omega arith, stop_at ADotted [] w ws dotted_begins (λ m x. x.2))

pub stream_found : (ws : List Lexeme) → IsFound AStream 0 ws (stream_at ws)
stream_found [] = (0, refl, stop_end AStream [] stream_begins (λ x. x.2))
stream_found (word.Name LongStream ∷ ws) =
    after_one AStream ADotted (word.Name LongStream) 0 ws (dotted_at ws) (λ m x. x) (λ m x. x) (dotted_found ws)
stream_found (word.Name (Plain i) ∷ ws) =
    as_named 0 (word.Name (Plain i)) ws (named_at 0 (word.Name (Plain i) ∷ ws)) (λ m x. x) (λ m x. x)
    (named_found 0 (word.Name (Plain i) ∷ ws))
stream_found (w ∷ ws) = (0, refl, stop_at AStream [] w ws stream_begins (λ m x. x.2))

-- what is read of a source depends on single words
sourced_front : (n : ℕ) (o : Option StreamSource) (ws : List Lexeme)
    → sourced_at n o ws ≡ sourced_at n o (get_or ws 0 word.Other ∷ [])
sourced_front n None ws = refl
sourced_front n (Some s) [] = refl
sourced_front n (Some s) (word.Open ∷ ws) = refl
sourced_front n (Some s) (w ∷ ws) = refl

named_front : (n : ℕ) (ws : List Lexeme)
    → named_at n ws ≡ named_at n (get_or ws 0 word.Other ∷ get_or ws 1 word.Other ∷ [])
named_front n [] = refl
named_front n (word.Name (Plain i) ∷ ws) = sourced_front n (source_of i.member) ws
named_front n (w ∷ ws) = refl

pub named_there : (n at : ℕ) (ws : List Lexeme) (w : Lexeme) → get_or ws at word.Other ≡ w
    → named_at n (drop at ws) ≡ named_at n (w ∷ get_or ws (at + 1) word.Other ∷ [])
named_there n at ws w is =
    let e : at + 0 ≡ at = omega arith in
    named_front n (drop at ws)
    ∙ ap (λ v. named_at n (v ∷ get_or (drop at ws) 1 word.Other ∷ []))
    (get_or-drop at ws 0 word.Other ∙ ap (λ k. get_or ws k word.Other) e ∙ is)
    ∙ ap (λ v. named_at n (w ∷ v ∷ [])) (get_or-drop at ws 1 word.Other)
