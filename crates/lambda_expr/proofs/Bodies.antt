-- Any words are a body, or stop at a place; bodies from their fronts.
use Rattle.std.proofs.Common.{◌≡◌, ◌⊎◌, inl, inr, ℕ, ◌+◌, List, drop, Result, Ok, Err, refl, sym, ap, subst, ◌∙◌, arith}
use Rattle.lambda_expr.specs.declared.want.Want.{Want}
use Rattle.lambda_expr.specs.declared.want.Want.TheVariants as want
use Rattle.lambda_expr.specs.declared.lexeme.Lexeme.{Lexeme}
use Rattle.lambda_expr.specs.declared.parse.ParseStop.{ParseStop}
use Rattle.lambda_expr.specs.declared.parse.ParseStop.TheVariants.{At, NoMemory}
use Rattle.lambda_expr.specs.declared.source.Opened.{Opened}
use Rattle.lambda_expr.specs.Codes.{IsStop}
use Rattle.lambda_expr.specs.Grammar.{Shape, Expression, IsExpression}
use Rattle.lambda_expr.specs.Heads.{ABody, BodyShape, expression, operands, IsBody}
use Rattle.lambda_expr.specs.SourceReading.{Operands, stream_at}
use Rattle.lambda_expr.specs.Stops.{StopsAt}
use Rattle.lambda_expr.proofs.EachBody.{each_operands}
use Rattle.lambda_expr.proofs.Existence.{each_answer}
use Rattle.lambda_expr.proofs.OneStream.{stream_ok}
use Rattle.lambda_expr.proofs.Sequences.{stop_same}
use Rattle.lambda_expr.proofs.SourceLemmas.{AStream, IsFound, stream_found}

-- ---- bodies of a stream

to_body : (ws : List Lexeme) → AStream ws → ABody want.Stream ws
to_body ws x = (operands x.0 x.1, x.2)

from_body_by : (ws : List Lexeme) (b : BodyShape) → IsBody want.Stream ws b → AStream ws
from_body_by ws (expression e) x = absurd x
from_body_by ws (operands s es) x = (s, es, x)

from_body : (ws : List Lexeme) → ABody want.Stream ws → AStream ws
from_body ws b = from_body_by ws b.0 b.1

as_body : (ws : List Lexeme) (n : ℕ) → StopsAt AStream ws n → StopsAt (ABody want.Stream) ws n
as_body ws n s = stop_same AStream (ABody want.Stream) ws n to_body from_body s

front_stops : (ws : List Lexeme) (r : Result Opened ℕ) (n : ℕ) → IsFound AStream 0 ws r → r ≡ Err n
    → StopsAt (ABody want.Stream) ws n
front_stops ws (Ok o) n f is = absurd cc
front_stops ws (Err k) n f is =
    let same : k ≡ n = cc in
    let there : f.0 ≡ n = omega (arith, f.1) in
    as_body ws n (subst (StopsAt AStream ws) there f.2)

-- the words stop in the front
pub stops_in_front : (ws : List Lexeme) (n : ℕ) → stream_at ws ≡ Err n → StopsAt (ABody want.Stream) ws n
stops_in_front ws n is = front_stops ws (stream_at ws) n (stream_found ws) is

rest_stops : (ws : List Lexeme) (r : Result Opened ℕ) (o : Opened) (q : ℕ) → IsFound AStream 0 ws r → r ≡ Ok o
    → StopsAt (Operands o.source) (drop o.count ws) q → StopsAt (ABody want.Stream) ws (o.count + q)
rest_stops ws (Err k) o q f is s = absurd cc
rest_stops ws (Ok p) o q f is s =
    let same : o ≡ p = cc in
    let size : p.count ≡ f.0 = (let k = f.1 in omega arith) in
    let there : StopsAt (Operands p.source) (drop p.count ws) q =
    subst (λ (o : Opened). StopsAt (Operands o.source) (drop o.count ws) q) same s in
    as_body ws (o.count + q) (subst (λ n. StopsAt AStream ws (n + q)) (sym (ap (λ (o : Opened). o.count) same ∙ size))
    (f.3 q (subst (λ n. StopsAt (Operands p.source) (drop n ws) q) size there)))

-- the words stop in the operands
pub stops_in_operands : (ws : List Lexeme) (o : Opened) (q : ℕ) → stream_at ws ≡ Ok o
    → StopsAt (Operands o.source) (drop o.count ws) q → StopsAt (ABody want.Stream) ws (o.count + q)
stops_in_operands ws o q is s = rest_stops ws (stream_at ws) o q (stream_found ws) is s

-- ---- each body

by_operands : (ws : List Lexeme) (o : Opened) → stream_at ws ≡ Ok o
    → Operands o.source (drop o.count ws) ⊎ ((q : ℕ) × StopsAt (Operands o.source) (drop o.count ws) q)
    → ABody want.Stream ws ⊎ ((n : ℕ) × StopsAt (ABody want.Stream) ws n)
by_operands ws o is (inl x) = inl (operands o.source x.0, stream_ok ws o x.0 is x.1)
by_operands ws o is (inr q) = inr (o.count + q.0, stops_in_operands ws o q.0 is q.1)

by_front : (ws : List Lexeme) (r : Result Opened ℕ) → stream_at ws ≡ r
    → ABody want.Stream ws ⊎ ((n : ℕ) × StopsAt (ABody want.Stream) ws n)
by_front ws (Err n) is = inr (n, stops_in_front ws n is)
by_front ws (Ok o) is = by_operands ws o is (each_operands o.source (drop o.count ws))

-- ---- bodies that are an expression

-- every want but the want of a stream
abbrev pub IsPlain : Want → Type 0
IsPlain want.Stream = ⊥
IsPlain w = Unit {0}

pub plain_body : (w : Want) (ws : List Lexeme) (e : Shape) → IsPlain w → IsExpression ws e → IsBody w ws (expression e)
plain_body want.Stream ws e p x = absurd p
plain_body y ws e p x = x

plain_from : (w : Want) (ws : List Lexeme) (b : BodyShape) → IsPlain w → IsBody w ws b → Expression ws
plain_from want.Long ws (operands s es) p x = absurd x
plain_from want.Bool ws (operands s es) p x = absurd x
plain_from want.Stream ws b p x = absurd p
plain_from want.Pair ws (operands s es) p x = absurd x
plain_from y ws (expression e) p x = (e, x)

pub plain_stops : (w : Want) (ws : List Lexeme) (n : ℕ) → IsPlain w → StopsAt Expression ws n → StopsAt (ABody w) ws n
plain_stops w ws n p s = stop_same Expression (ABody w) ws n (λ m x. (expression x.0, plain_body w m x.0 p x.1))
    (λ m b. plain_from w m b.0 p b.1) s

by_answer : (w : Want) (ws : List Lexeme) → IsPlain w → Expression ws ⊎ ((n : ℕ) × StopsAt Expression ws n)
    → ABody w ws ⊎ ((n : ℕ) × StopsAt (ABody w) ws n)
by_answer w ws p (inl x) = inl (expression x.0, plain_body w ws x.0 p x.1)
by_answer w ws p (inr s) = inr (s.0, plain_stops w ws s.0 p s.1)

pub each_body : (w : Want) (ws : List Lexeme) → ABody w ws ⊎ ((n : ℕ) × StopsAt (ABody w) ws n)
each_body want.Long ws = by_answer want.Long ws tt (each_answer ws)
each_body want.Bool ws = by_answer want.Bool ws tt (each_answer ws)
each_body want.Stream ws = by_front ws (stream_at ws) refl
each_body want.Pair ws = by_answer want.Pair ws tt (each_answer ws)

-- ---- what the reader of bodies answers

pub plain_of : (w : Want) → (w ≡ want.Stream → ⊥) → IsPlain w
plain_of want.Stream h = absurd (h refl)
plain_of x h = tt

pub plain_stop : (w : Want) (ws : List Lexeme) (stop : ParseStop) → IsPlain w → IsStop Expression ws stop
    → IsStop (ABody w) ws stop
plain_stop w ws (At n) p s = plain_stops w ws n p s
plain_stop w ws NoMemory p s = tt
