-- Words are one lambda, or stop at one place.
use Rattle.std.proofs.Common.{◌≡◌, inl, inr, ℕ, ◌+◌, List, [], ◌∷◌, ◌++◌, drop, Result, Ok, Err, refl, ap, subst, sym}
use Rattle.std.proofs.Common.{◌∙◌}
use Rattle.lambda_expr.specs.declared.head.HeadMark.{HeadMark}
use Rattle.lambda_expr.specs.declared.want.Want.{Want}
use Rattle.lambda_expr.specs.declared.want.Want.TheVariants as want
use Rattle.lambda_expr.specs.declared.lexeme.Lexeme.{Lexeme}
use Rattle.lambda_expr.specs.declared.lexeme.Lexeme.TheVariants as word
use Rattle.lambda_expr.specs.declared.lexeme.Numeral.TheVariants.{Places}
use Rattle.lambda_expr.specs.Grammar.{number}
use Rattle.lambda_expr.specs.HeadReading.{AreTried}
use Rattle.lambda_expr.specs.Heads.{ABody, ALambda, BodyShape, expression, operands, IsBody, IsLambda, HasHead, IsOneOf}
use Rattle.lambda_expr.specs.Heads.{heads}
use Rattle.lambda_expr.specs.Stops.{StopsAt}
use Rattle.lambda_expr.proofs.HeadLemmas.{AreApart, Follows, begun, ended, head_stops, one_head, stops_in_rest}
use Rattle.lambda_expr.proofs.HeadLemmas.{whole_of}
use Rattle.lambda_expr.proofs.Leads.{one_expression}
use Rattle.lambda_expr.proofs.OneStream.{one_stream}
use Rattle.lambda_expr.proofs.Sequences.{stop_same}
use Rattle.lambda_expr.proofs.SourceLemmas.{stream_begins}

one_apart : (p q : List HeadMark) → IsOneOf p (heads want.Long) → IsOneOf q (heads want.Long)
    → (t : List HeadMark) × (q ≡ p ++ t) → p ≡ q
one_apart p q (inl a) (inl b) l = a ∙ sym b
one_apart p q (inl a) (inr (inl b)) l = absurd cc
one_apart p q (inl a) (inr (inr (inl b))) l = absurd cc
one_apart p q (inl a) (inr (inr (inr x))) l = absurd x
one_apart p q (inr (inl a)) (inl b) l = absurd cc
one_apart p q (inr (inl a)) (inr (inl b)) l = a ∙ sym b
one_apart p q (inr (inl a)) (inr (inr (inl b))) l = absurd cc
one_apart p q (inr (inl a)) (inr (inr (inr x))) l = absurd x
one_apart p q (inr (inr (inl a))) (inl b) l = absurd cc
one_apart p q (inr (inr (inl a))) (inr (inl b)) l = absurd cc
one_apart p q (inr (inr (inl a))) (inr (inr (inl b))) l = a ∙ sym b
one_apart p q (inr (inr (inl a))) (inr (inr (inr x))) l = absurd x
one_apart p q (inr (inr (inr x))) b l = absurd x

two_apart : (p q : List HeadMark) → IsOneOf p (heads want.Pair) → IsOneOf q (heads want.Pair)
    → (t : List HeadMark) × (q ≡ p ++ t) → p ≡ q
two_apart p q (inl a) (inl b) l = a ∙ sym b
two_apart p q (inl a) (inr (inl b)) l = absurd cc
two_apart p q (inl a) (inr (inr x)) l = absurd x
two_apart p q (inr (inl a)) (inl b) l = absurd cc
two_apart p q (inr (inl a)) (inr (inl b)) l = a ∙ sym b
two_apart p q (inr (inl a)) (inr (inr x)) l = absurd x
two_apart p q (inr (inr x)) b l = absurd x

pub apart : (w : Want) → AreApart (heads w)
apart want.Pair = two_apart
apart x = one_apart

-- words are one body
one_body : (ws : List Lexeme) (w : Want) (b c : BodyShape) → IsBody w ws b → IsBody w ws c → b ≡ c
one_body ws want.Stream (operands s es) (expression f) x y = absurd y
one_body ws want.Stream (operands s es) (operands t fs) x y = let same = one_stream s t es fs ws x y in
    let source = same.0 in let list = same.1 in cc
one_body ws want.Long (expression e) (expression f) x y = ap expression (one_expression ws e f x y)
one_body ws want.Long (expression e) (operands t fs) x y = absurd y
one_body ws want.Bool (expression e) (expression f) x y = ap expression (one_expression ws e f x y)
one_body ws want.Bool (expression e) (operands t fs) x y = absurd y
one_body ws want.Pair (expression e) (expression f) x y = ap expression (one_expression ws e f x y)
one_body ws want.Pair (expression e) (operands t fs) x y = absurd y
one_body ws p q c x y = absurd x

-- the words of the body of a lambda
pub one_lambda : (ws : List Lexeme) (w : Want) (b c : BodyShape) → IsLambda w ws b → IsLambda w ws c → b ≡ c
one_lambda ws w b c l m =
    let same = one_head (heads w) l.pattern m.pattern l.front m.front l.rest m.rest (apart w) l.listed m.listed l.fit
    m.fit (l.spelled ∙ sym m.spelled) in
    one_body m.rest w b c (subst (λ v. IsBody w v b) same.1 l.stands) m.stands

abbrev Bodies : Want → List Lexeme → List Lexeme → Type 0
Bodies w front rest = ABody w rest

a_body : (w : Want) → Follows (Bodies w)
a_body want.Stream front = let b = stream_begins in (b.0, (operands b.1.0 b.1.1, b.1.2))
a_body x front = (word.Number (Places 0) ∷ [], (expression (number (Places 0)), record { binds = tt; spelled = refl }))

-- a lambda is a head and a body
in_parts : (w : Want) (ws : List Lexeme) → ALambda w ws → HasHead (heads w) (Bodies w) ws
in_parts w ws l = record {
  pattern = l.1.pattern;
  listed = l.1.listed;
  front = l.1.front;
  fit = l.1.fit;
  rest = l.1.rest;
  spelled = l.1.spelled;
  stands = (l.0, l.1.stands);
}

from_parts : (w : Want) (ws : List Lexeme) → HasHead (heads w) (Bodies w) ws → ALambda w ws
from_parts w ws h = (
  h.stands.0,
  record {
    pattern = h.pattern;
    listed = h.listed;
    front = h.front;
    fit = h.fit;
    rest = h.rest;
    spelled = h.spelled;
    stands = h.stands.1;
  },
)

stops_as : (w : Want) (ws : List Lexeme) (n : ℕ) → StopsAt (HasHead (heads w) (Bodies w)) ws n
    → StopsAt (ALambda w) ws n
stops_as w ws n s = stop_same (HasHead (heads w) (Bodies w)) (ALambda w) ws n (from_parts w) (in_parts w) s

heads_stop : (w : Want) (ws : List Lexeme) (r : Result ℕ ℕ) (n : ℕ) → AreTried (heads w) ws r → r ≡ Err n
    → StopsAt (HasHead (heads w) (Bodies w)) ws n
heads_stop want.Long ws r n t is = head_stops _ _ (Bodies want.Long) ws n (a_body want.Long)
    (ended (heads want.Long) ws r n t is)
heads_stop want.Bool ws r n t is = head_stops _ _ (Bodies want.Bool) ws n (a_body want.Bool)
    (ended (heads want.Bool) ws r n t is)
heads_stop want.Stream ws r n t is = head_stops _ _ (Bodies want.Stream) ws n (a_body want.Stream)
    (ended (heads want.Stream) ws r n t is)
heads_stop want.Pair ws r n t is = head_stops _ _ (Bodies want.Pair) ws n (a_body want.Pair)
    (ended (heads want.Pair) ws r n t is)

pub stops_in_head : (w : Want) (ws : List Lexeme) (r : Result ℕ ℕ) (n : ℕ) → AreTried (heads w) ws r → r ≡ Err n
    → StopsAt (ALambda w) ws n
stops_in_head w ws r n t is = stops_as w ws n (heads_stop w ws r n t is)

pub stops_in_body : (w : Want) (ws : List Lexeme) (r : Result ℕ ℕ) (n k : ℕ) → AreTried (heads w) ws r → r ≡ Ok n
    → StopsAt (ABody w) (drop n ws) k → StopsAt (ALambda w) ws (n + k)
stops_in_body w ws r n k t is s = stops_as w ws (n + k)
    (stops_in_rest (heads w) (Bodies w) ws n k (apart w) (begun (heads w) ws r n t is) s)

pub lambda_of : (w : Want) (ws : List Lexeme) (r : Result ℕ ℕ) (n : ℕ) (b : BodyShape) → AreTried (heads w) ws r
    → r ≡ Ok n → IsBody w (drop n ws) b → IsLambda w ws b
lambda_of w ws r n b t is x = whole_of (heads w) (λ front rest. IsBody w rest b) ws n (begun (heads w) ws r n t is) x

-- no words at all
nothing_tried : (w : Want) → (r : Result ℕ ℕ) × AreTried (heads w) [] r × (r ≡ Err 0)
nothing_tried want.Pair = (Err 0, ((Err 0), (0, refl, refl), (Err 0, (0, refl, refl), refl)), refl)
nothing_tried x = (Err 0, ((Err 0), (0, refl, refl), (Err 0, (0, refl, refl), (Err 0, (0, refl, refl), refl))), refl)

-- no lambda is empty
pub stops_empty : (w : Want) → StopsAt (ALambda w) [] 0
stops_empty w = let t = nothing_tried w in stops_in_head w [] t.0 0 t.1 t.2
