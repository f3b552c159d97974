-- Words are one body of a stream at most, and the front that is read is theirs.
use Rattle.std.proofs.Common.{◌≡◌, ℕ, ◌+◌, List, ◌∷◌, drop, Option, Some, None, Ok, refl, sym, ap, subst, ◌∙◌, arith}
use Rattle.lambda_expr.specs.declared.lexeme.Lexeme.{Lexeme}
use Rattle.lambda_expr.specs.declared.lexeme.Lexeme.TheVariants as word
use Rattle.lambda_expr.specs.declared.lexeme.Name.TheVariants.{Plain, LongStream}
use Rattle.lambda_expr.specs.declared.lexeme.PlainName.{PlainName}
use Rattle.lambda_expr.specs.declared.source.StreamSource.{StreamSource}
use Rattle.lambda_expr.specs.declared.source.Opened.{Opened}
use Rattle.lambda_expr.specs.Grammar.{Shape}
use Rattle.lambda_expr.specs.SourceReading.{dotted_at, named_at, opened_at, sourced_at, stream_at}
use Rattle.lambda_expr.specs.Sources.{AreOperands, IsDotted, IsNamed, IsOpened, IsStream, source_of}
use Rattle.lambda_expr.proofs.OperandLemmas.{one_list}

-- ---- the front, from what is read

opened_ok : (n : ℕ) (s : StreamSource) (ws : List Lexeme) (o : Opened) → opened_at n s ws ≡ Ok o
    → (o.source ≡ s) × (o.count ≡ n + 1) × ((es : List Shape) → AreOperands s es (drop 1 ws) → IsOpened s es ws)
opened_ok n s (word.Open ∷ ws) o h = (cc, cc, λ es a. a)
opened_ok n s x o h = absurd cc

abbrev IsNamedFront : ℕ → List Lexeme → Opened → Type 0
IsNamedFront n ws o = (o.count ≡ n + 2) ×
    ((es : List Shape) → AreOperands o.source es (drop 2 ws) → IsNamed o.source es ws)

sourced_ok : (n : ℕ) (i : PlainName) (s : Option StreamSource) (ws : List Lexeme) (o : Opened) → source_of i.member ≡ s
    → sourced_at n s ws ≡ Ok o → IsNamedFront n (word.Name (Plain i) ∷ ws) o
sourced_ok n i None ws o is h = absurd cc
sourced_ok n i (Some s) ws o is h =
    let k = opened_ok (n + 1) s ws o h in (
      omega (arith, k.1),
      λ es a. (
        is ∙ ap Some (sym k.0),
        subst (λ t. IsOpened t es ws) (sym k.0) (k.2 es (subst (λ t. AreOperands t es (drop 1 ws)) k.0 a)),
      ),
    )

named_ok : (n : ℕ) (ws : List Lexeme) (o : Opened) → named_at n ws ≡ Ok o → IsNamedFront n ws o
named_ok n (word.Name (Plain i) ∷ ws) o h = sourced_ok n i (source_of i.member) ws o refl h
named_ok n x o h = absurd cc

dotted_ok : (ws : List Lexeme) (o : Opened) → dotted_at ws ≡ Ok o
    → (o.count ≡ 4) × ((es : List Shape) → AreOperands o.source es (drop 3 ws) → IsDotted o.source es ws)
dotted_ok (word.Dot ∷ ws) o h = named_ok 2 ws o h
dotted_ok x o h = absurd cc

front_ok : (ws : List Lexeme) (o : Opened) → stream_at ws ≡ Ok o
    → (n : ℕ) × (o.count ≡ n) × ((es : List Shape) → AreOperands o.source es (drop n ws) → IsStream o.source es ws)
front_ok (word.Name LongStream ∷ ws) o h = let k = dotted_ok ws o h in (4, k.0, k.1)
front_ok (word.Name (Plain i) ∷ ws) o h = let k = named_ok 0 (word.Name (Plain i) ∷ ws) o h in (2, k.0, k.1)
front_ok x o h = absurd cc

pub stream_ok : (ws : List Lexeme) (o : Opened) (es : List Shape) → stream_at ws ≡ Ok o
    → AreOperands o.source es (drop o.count ws) → IsStream o.source es ws
stream_ok ws o es h a = let k = front_ok ws o h in k.2 es (subst (λ n. AreOperands o.source es (drop n ws)) k.1 a)

-- ---- one front

one_opened : (s t : StreamSource) (es fs : List Shape) (ws : List Lexeme) → IsOpened s es ws → IsOpened t fs ws
    → es ≡ fs
one_opened s t es fs (word.Open ∷ ws) a b = one_list es fs a.bound b.bound (a.spelled ∙ sym b.spelled)
one_opened s t es fs x a b = absurd a

one_source : (s t : StreamSource) (o : Option StreamSource) → o ≡ Some s → o ≡ Some t → s ≡ t
one_source s t o a b = cc

one_named : (s t : StreamSource) (es fs : List Shape) (ws : List Lexeme) → IsNamed s es ws → IsNamed t fs ws
    → (s ≡ t) × (es ≡ fs)
one_named s t es fs (word.Name (Plain i) ∷ ws) a b =
    (one_source s t (source_of i.member) a.0 b.0, one_opened s t es fs ws a.1 b.1)
one_named s t es fs x a b = absurd a

one_dotted : (s t : StreamSource) (es fs : List Shape) (ws : List Lexeme) → IsDotted s es ws → IsDotted t fs ws
    → (s ≡ t) × (es ≡ fs)
one_dotted s t es fs (word.Dot ∷ ws) a b = one_named s t es fs ws a b
one_dotted s t es fs x a b = absurd a

pub one_stream : (s t : StreamSource) (es fs : List Shape) (ws : List Lexeme) → IsStream s es ws → IsStream t fs ws
    → (s ≡ t) × (es ≡ fs)
one_stream s t es fs (word.Name LongStream ∷ ws) a b = one_dotted s t es fs ws a b
one_stream s t es fs (word.Name (Plain i) ∷ ws) a b = one_named s t es fs (word.Name (Plain i) ∷ ws) a b
one_stream s t es fs x a b = absurd a
