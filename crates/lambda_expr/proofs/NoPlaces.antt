-- Lambdas of texts that have neither cells nor rows are placeless.
use Rattle.std.proofs.Common.{◌≡◌, ℕ, suc, max, Bool, true, false, not, ◌&&◌, nat_lt, ℤ, List, [], ◌∷◌, ◌++◌, length}
use Rattle.std.proofs.Common.{Option, Some, None, Result, Ok, Err, refl, sym, ap, subst, ◌∙◌}
use Rattle.std.specs.Prelude.{if◌then◌else◌, codes}
use Rattle.stream_tokens.specs.declared.symbol.Symbol.{Symbol}
use Rattle.stream_tokens.specs.declared.symbol.Symbol.TheVariants as symbol
use Rattle.lambda_expr.specs.declared.fault.ReadFault.{ReadFault}
use Rattle.lambda_values.specs.declared.lambda.Lambda.{Lambda}
use Rattle.lambda_values.specs.declared.lambda.PairForm.{PairForm}
use Rattle.lambda_expr.specs.declared.want.Want.{Want}
use Rattle.lambda_expr.specs.declared.want.Want.TheVariants as want
use Rattle.lambda_expr.specs.declared.lexeme.Lexeme.{Lexeme}
use Rattle.lambda_expr.specs.declared.lexeme.Lexeme.TheVariants as word
use Rattle.lambda_expr.specs.declared.lexeme.Name.{Name}
use Rattle.lambda_expr.specs.declared.lexeme.Name.TheVariants.{Plain, LongStream, Cell, Row}
use Rattle.lambda_expr.specs.declared.operation.Function.{Function}
use Rattle.lambda_expr.specs.declared.operation.Function.TheVariants.{Unary, Binary}
use Rattle.lambda_expr.specs.declared.operation.SignOperation.{SignOperation}
use Rattle.lambda_expr.specs.declared.operation.SignOperation.TheVariants.{Compute, Compare, Connect, Separate}
use Rattle.lambda_expr.specs.declared.sign.Sign.{Sign}
use Rattle.lambda_expr.specs.declared.sign.Sign.TheVariants as sign
use Rattle.lambda_expr.specs.declared.source.StreamSource.{StreamSource}
use Rattle.lambda_expr.specs.declared.source.StreamSource.TheVariants as source
use Rattle.lambda_expr.specs.declared.step.Opening.TheVariants.{Paren, Call}
use Rattle.lambda_expr.specs.Checks.{depth, fit, literals, names_known}
use Rattle.lambda_expr.specs.Grammar.{Shape, cell, decimal_cell, row, constant, prefix, binary, ternary, enclosed}
use Rattle.lambda_expr.specs.Grammar.{opening, spells}
use Rattle.lambda_expr.specs.Heads.{BodyShape, expression, operands, IsBody, parameters}
use Rattle.lambda_expr.specs.Lexemes.{Names, lexeme_of, lexemes_from, lexemes_of, name_of, names_in, symbol_lexeme}
use Rattle.lambda_expr.specs.Members.{is_named}
use Rattle.lambda_expr.specs.Numerals.{is_numeral}
use Rattle.lambda_expr.specs.Refusals.{Judged, SpellsLambda, lambda_of, streamed, verdict, wanted}
use Rattle.lambda_expr.specs.Signs.{operation_of}
use Rattle.lambda_expr.specs.Sources.{IsDotted, IsNamed, IsOpened, IsStream, further, listed}
use Rattle.lambda_expr.specs.StreamChecks.{all_fit, all_known, and_number, deepest, numbers, stream_of}
use Rattle.lambda_expr.specs.Typing.{Typed, long, boolean, longs, untyped, called_with, constant_of, constant_typed}
use Rattle.lambda_expr.specs.Typing.{function_of, operated, prefixed, selected, typed}
use Rattle.lambda_expr.specs.Words.{Word, named, numeral, sign as symbol_word, words_of}
use Rattle.lambda_values.specs.Places.{each_is_placeless, inner_is_placeless, is_placeless, long_is_placeless}
use Rattle.lambda_values.specs.Places.{truth_is_placeless}
use Rattle.lambda_values.specs.Lambda.{AbstractLambda, body_of}
use Rattle.lambda_values.specs.Streams.{Inner, range, range_closed, values}
use Rattle.lambda_values.specs.Term.{Long}

-- ---- words without `cell` and `row`

abbrev is_place : Name → Bool
is_place Cell = true
is_place Row = true
is_place i = false

abbrev names_place : Lexeme → Bool
names_place (word.Name i) = is_place i
names_place w = false

abbrev AreNoPlaces : List Lexeme → Type 0
AreNoPlaces [] = Unit {0}
AreNoPlaces (w ∷ ws) = (names_place w ≡ false) × AreNoPlaces ws

either_name : (b : Bool) (x y : Name) → is_place x ≡ false → is_place y ≡ false → is_place (if b then x else y) ≡ false
either_name true x y h k = h
either_name false x y h k = k

no_name : (first second : Option (List ℕ)) (w : List ℕ) → is_place (name_of false first second w) ≡ false
no_name first second w =
    either_name (is_named w (codes "Math")) _ _ refl
    (either_name (is_named w (codes "Long")) _ _ refl (either_name (is_named w (codes "LongStream")) _ _ refl
    (either_name (is_named w (codes "long")) _ _ refl
    (either_name (is_named w (codes "true")) _ _ refl (either_name (is_named w (codes "false")) _ _ refl refl)))))

either_word : (b : Bool) (x y : Lexeme) → names_place x ≡ false → names_place y ≡ false
    → names_place (if b then x else y) ≡ false
either_word true x y h k = h
either_word false x y h k = k

no_symbol : (s : Symbol) → names_place (symbol_lexeme s) ≡ false
no_symbol symbol.Arrow = refl
no_symbol s = refl

no_word : (first second : Option (List ℕ)) (at : ℕ) (w : Word) → names_place (lexeme_of false first second at w) ≡ false
no_word first second at (named w) = no_name first second w
no_word first second at (numeral w) = either_word (is_numeral w) _ _ refl refl
no_word first second at (symbol_word s) = no_symbol s
no_word first second at w = refl

no_words : (first second : Option (List ℕ)) (at : ℕ) (ws : List Word)
    → AreNoPlaces (lexemes_from false first second at ws)
no_words first second at [] = tt
no_words first second at (w ∷ ws) = (no_word first second at w, no_words first second (suc at) ws)

first_part : (a b : List Lexeme) → AreNoPlaces (a ++ b) → AreNoPlaces a
first_part [] b h = tt
first_part (w ∷ a) b h = (h.0, first_part a b h.1)

second_part : (a b : List Lexeme) → AreNoPlaces (a ++ b) → AreNoPlaces b
second_part [] b h = h
second_part (w ∷ a) b h = second_part a b h.1

-- ---- expressions

abbrev typed_placeless : Typed → Bool
typed_placeless (long a) = long_is_placeless a
typed_placeless (boolean a) = truth_is_placeless a
typed_placeless (longs a b) = long_is_placeless a && long_is_placeless b
typed_placeless untyped = true

both_hold : (p q : Bool) → p ≡ true → q ≡ true → (p && q) ≡ true
both_hold p q h k = ap (λ v. v && q) h ∙ k

hold_both : (p q : Bool) → (p && q) ≡ true → (p ≡ true) × (q ≡ true)
hold_both true q h = (refl, h)
hold_both false q h = absurd cc

of_constant : (o : Option ℤ) → typed_placeless (constant_typed o) ≡ true
of_constant (Some z) = refl
of_constant None = refl

of_prefix : (s : Sign) (t : Typed) → typed_placeless t ≡ true → typed_placeless (prefixed s t) ≡ true
of_prefix sign.Subtract (long a) h = h
of_prefix sign.Add (long a) h = h
of_prefix sign.Complement (long a) h = h
of_prefix sign.Not (boolean a) h = h
of_prefix s t h = refl

of_binary : (t u : Typed) (o : SignOperation) → typed_placeless t ≡ true → typed_placeless u ≡ true
    → typed_placeless (operated t u o) ≡ true
of_binary (long a) (long b) (Compute o) h k = both_hold (long_is_placeless a) (long_is_placeless b) h k
of_binary (long a) (long b) (Compare o) h k = both_hold (long_is_placeless a) (long_is_placeless b) h k
of_binary (long a) (long b) Separate h k = both_hold (long_is_placeless a) (long_is_placeless b) h k
of_binary (boolean a) (boolean b) (Connect o) h k = both_hold (truth_is_placeless a) (truth_is_placeless b) h k
of_binary t u o h k = refl

of_ternary : (t u v : Typed) → typed_placeless t ≡ true → typed_placeless u ≡ true → typed_placeless v ≡ true
    → typed_placeless (selected t u v) ≡ true
of_ternary (boolean c) (long a) (long b) h k l =
    both_hold (truth_is_placeless c) (long_is_placeless a && long_is_placeless b) h
    (both_hold (long_is_placeless a) (long_is_placeless b) k l)
of_ternary (boolean c) (boolean a) (boolean b) h k l =
    both_hold (truth_is_placeless c) (truth_is_placeless a && truth_is_placeless b) h
    (both_hold (truth_is_placeless a) (truth_is_placeless b) k l)
of_ternary t u v h k l = refl

of_call : (f : Option Function) (t : Typed) → typed_placeless t ≡ true → typed_placeless (called_with f t) ≡ true
of_call (Some (Unary o)) (long a) h = h
of_call (Some (Binary o)) (longs a b) h = h
of_call f t h = refl

of_shape : (h : Names) (e : Shape) → AreNoPlaces (spells e) → typed_placeless (typed h e) ≡ true
of_shape h (cell i) n = let no_place : true ≡ false = n.0 in absurd cc
of_shape h (decimal_cell i p) n = let no_place : true ≡ false = n.0 in absurd cc
of_shape h row n = let no_place : true ≡ false = n.0 in absurd cc
of_shape h (constant i) n = of_constant (constant_of i)
of_shape h (prefix s a) n = of_prefix s (typed h a) (of_shape h a n.1)
of_shape h (binary s a b) n =
    let after = second_part (spells a) (word.Sign s ∷ spells b) n in
    of_binary (typed h a) (typed h b) (operation_of s) (of_shape h a (first_part (spells a) (word.Sign s ∷ spells b) n))
    (of_shape h b after.1)
of_shape h (ternary c p q) n =
    let after = second_part (spells c) (word.Question ∷ (spells p ++ word.Colon ∷ spells q)) n in
    let last = second_part (spells p) (word.Colon ∷ spells q) after.1 in
    of_ternary (typed h c) (typed h p) (typed h q)
    (of_shape h c (first_part (spells c) (word.Question ∷ (spells p ++ word.Colon ∷ spells q)) n))
    (of_shape h p (first_part (spells p) (word.Colon ∷ spells q) after.1)) (of_shape h q last.1)
of_shape h (enclosed Paren a) n = of_shape h a (first_part (spells a) (word.Close ∷ []) n.1)
of_shape h (enclosed (Call o i) a) n = of_call (function_of o i) (typed h a)
    (of_shape h a (first_part (spells a) (word.Close ∷ [])
    (second_part (opening (Call o i)) (spells a ++ word.Close ∷ []) n)))
of_shape h x n = refl

-- ---- operands

abbrev HaveNoPlaces : List Shape → Type 0
HaveNoPlaces [] = Unit {0}
HaveNoPlaces (e ∷ es) = AreNoPlaces (spells e) × HaveNoPlaces es

further_words : (es : List Shape) → AreNoPlaces (further es) → HaveNoPlaces es
further_words [] n = tt
further_words (e ∷ es) n = (
  first_part (spells e) (further es) n.1,
  further_words es (second_part (spells e) (further es) n.1),
)

listed_words : (es : List Shape) → AreNoPlaces (listed es) → HaveNoPlaces es
listed_words [] n = tt
listed_words (e ∷ es) n = (
  first_part (spells e) (further es) n,
  further_words es (second_part (spells e) (further es) n),
)

opened_words : (s : StreamSource) (es : List Shape) (ws : List Lexeme) → IsOpened s es ws → AreNoPlaces ws
    → HaveNoPlaces es
opened_words s es [] x n = absurd x
opened_words s es (word.Open ∷ ws) x n = listed_words es (subst AreNoPlaces (sym x.spelled) n.1)
opened_words s es (w ∷ ws) x n = absurd x

named_words : (s : StreamSource) (es : List Shape) (ws : List Lexeme) → IsNamed s es ws → AreNoPlaces ws
    → HaveNoPlaces es
named_words s es [] x n = absurd x
named_words s es (word.Name (Plain i) ∷ ws) x n = opened_words s es ws x.1 n.1
named_words s es (w ∷ ws) x n = absurd x

dotted_words : (s : StreamSource) (es : List Shape) (ws : List Lexeme) → IsDotted s es ws → AreNoPlaces ws
    → HaveNoPlaces es
dotted_words s es [] x n = absurd x
dotted_words s es (word.Dot ∷ ws) x n = named_words s es ws x n.1
dotted_words s es (w ∷ ws) x n = absurd x

stream_words : (s : StreamSource) (es : List Shape) (ws : List Lexeme) → IsStream s es ws → AreNoPlaces ws
    → HaveNoPlaces es
stream_words s es [] x n = absurd x
stream_words s es (word.Name LongStream ∷ ws) x n = dotted_words s es ws x n.1
stream_words s es (w ∷ ws) x n = named_words s es (w ∷ ws) x n

and_one : (t : Typed) (o : Option (List Long)) (ls : List Long) → typed_placeless t ≡ true
    → ((ks : List Long) → o ≡ Some ks → each_is_placeless ks ≡ true) → and_number t o ≡ Some ls
    → each_is_placeless ls ≡ true
and_one (long a) (Some es) ls h k is = let same : ls ≡ a ∷ es = cc in
    ap each_is_placeless same ∙ both_hold (long_is_placeless a) (each_is_placeless es) h (k es refl)
and_one t o ls h k is = absurd cc

of_operands : (h : Names) (es : List Shape) (ls : List Long) → HaveNoPlaces es → numbers h es ≡ Some ls
    → each_is_placeless ls ≡ true
of_operands h [] ls n is = let same : ls ≡ [] = cc in ap each_is_placeless same
of_operands h (e ∷ es) ls n is = and_one (typed h e) (numbers h es) ls (of_shape h e n.0)
    (λ ks k. of_operands h es ks n.1 k) is

two_hold : (a b : Long) → each_is_placeless (a ∷ b ∷ []) ≡ true → long_is_placeless a && long_is_placeless b ≡ true
two_hold a b h =
    let p = hold_both (long_is_placeless a) (long_is_placeless b && true) h in
    both_hold (long_is_placeless a) (long_is_placeless b) p.0 (hold_both (long_is_placeless b) true p.1).0

of_stream : (s : StreamSource) (ls : List Long) (g : Inner) → each_is_placeless ls ≡ true → stream_of s ls ≡ Some g
    → inner_is_placeless g ≡ true
of_stream source.Range (a ∷ b ∷ []) g h is = let same : g ≡ range a b = cc in
    ap inner_is_placeless same ∙ two_hold a b h
of_stream source.RangeClosed (a ∷ b ∷ []) g h is = let same : g ≡ range_closed a b = cc in
    ap inner_is_placeless same ∙ two_hold a b h
of_stream source.Of ls g h is = let same : g ≡ values ls = cc in ap inner_is_placeless same ∙ h
of_stream source.Empty ls g h is = let same : g ≡ values ls = cc in ap inner_is_placeless same ∙ h
of_stream s ls g h is = absurd cc

-- ---- lambdas

abbrev IsFree : Result AbstractLambda ReadFault → Type 0
IsFree (Ok l) = is_placeless l ≡ true
IsFree (Err f) = Unit {0}

either_free : (b : Bool) (r s : Result AbstractLambda ReadFault) → IsFree r → IsFree s → IsFree (if b then r else s)
either_free true r s h k = h
either_free false r s h k = k

wanted_free : (w : Want) (t : Typed) (f : PairForm) → typed_placeless t ≡ true → IsFree (wanted w t f)
wanted_free want.Long (long a) f h = h
wanted_free want.Bool (boolean a) f h = h
wanted_free want.Pair (long a) f h = refl
wanted_free w t f h = tt

lambda_free : (s : StreamSource) (ls : List Long) (o : Option Inner) → each_is_placeless ls ≡ true → stream_of s ls ≡ o
    → IsFree (lambda_of o)
lambda_free s ls None h is = tt
lambda_free s ls (Some g) h is = of_stream s ls g h is

streamed_free : (h : Names) (s : StreamSource) (es : List Shape) (o : Option (List Long)) → HaveNoPlaces es
    → numbers h es ≡ o → IsFree (streamed s o)
streamed_free h s es None n is = tt
streamed_free h s es (Some ls) n is = lambda_free s ls (stream_of s ls) (of_operands h es ls n is) refl

abbrev BodyHasNone : BodyShape → Type 0
BodyHasNone (expression e) = AreNoPlaces (spells e)
BodyHasNone (operands s es) = HaveNoPlaces es

verdict_free : (w : Want) (h : Names) (b : BodyShape) → BodyHasNone b → IsFree (verdict w h b)
verdict_free w h (operands s es) n = either_free (not (all_fit es)) _ _ tt
    (either_free (nat_lt 64 (max (suc (deepest es)) (length es))) _ _ tt
    (either_free (not (all_known 1 es)) _ _ tt (streamed_free h s es (numbers h es) n refl)))
verdict_free w h (expression e) n = either_free (not (fit (literals e))) _ _ tt
    (either_free (nat_lt 64 (depth e)) _ _ tt
    (either_free (not (names_known (parameters w) e)) _ _ tt (wanted_free w _ _ (of_shape h e n))))

body_words : (w : Want) (ws : List Lexeme) (b : BodyShape) → IsBody w ws b → AreNoPlaces ws → BodyHasNone b
body_words want.Stream ws (expression e) x n = absurd x
body_words want.Stream ws (operands s es) x n = stream_words s es ws x n
body_words w ws (expression e) x n = subst AreNoPlaces (sym x.spelled) n
body_words w ws (operands s es) x n = absurd x

-- each lambda of a text that has neither cells nor rows is placeless
pub judged_placeless : (text : List ℕ) (want : Want) (l : AbstractLambda) → Judged false text want (Ok l)
    → is_placeless l ≡ true
judged_placeless text want l j =
    let x = j.spelled.lambda in
    let n : AreNoPlaces (lexemes_of false text j.spelled.tokens) = no_words _ _ 0 (words_of text j.spelled.tokens) in
    let inside = second_part x.front x.rest (subst AreNoPlaces (sym x.spelled) n) in
    subst IsFree j.gives (verdict_free want (names_in text j.spelled.tokens) j.body
    (body_words want x.rest j.body x.stands inside))

pub without_cells : (text : List ℕ) (want : Want) (l : Lambda) → SpellsLambda text want l
    → is_placeless (body_of l.body) ≡ true
without_cells text want l j = judged_placeless text want (body_of l.body) j
