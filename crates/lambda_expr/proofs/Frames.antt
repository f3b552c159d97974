-- What waits for its right operand: how tightly it binds, and what completes it.
use Rattle.std.proofs.Common.{◌≡◌, ℕ, suc, ◌<◌, ◌≤◌, nat_lt, Bool, true, false, List, [], ◌∷◌, ◌++◌, refl, sym, ◌∙◌}
use Rattle.std.proofs.Common.{append_assoc, append-nil, arith}
use Rattle.std.specs.Prelude.{if◌then◌else◌}
use Rattle.std.proofs.lemmas.Grind.{common_steps}
use Rattle.lambda_expr.specs.declared.sign.Sign.{Sign}
use Rattle.lambda_expr.specs.declared.sign.Sign.TheVariants as sign
use Rattle.lambda_expr.specs.declared.step.Opening.{Opening}
use Rattle.lambda_expr.specs.declared.step.Opening.TheVariants.{Paren, Call}
use Rattle.lambda_expr.specs.declared.lexeme.Lexeme.{Lexeme}
use Rattle.lambda_expr.specs.declared.lexeme.Lexeme.TheVariants as word
use Rattle.lambda_expr.specs.declared.lexeme.Numeral.TheVariants.{Places}
use Rattle.lambda_expr.specs.Grammar.{Shape, number, prefix, binary, ternary, enclosed, opening, inside, spells, Binds}
use Rattle.lambda_expr.specs.Signs.{level, is_infix, is_prefix}
use Rattle.lambda_expr.specs.Reader.{Frame, opened, signed, left, question, colon, Top, joined, in_call, takes}

-- the words so far
abbrev pub before : List Frame → List Lexeme
before [] = []
before (opened o ∷ fs) = before fs ++ opening o
before (signed s ∷ fs) = before fs ++ word.Sign s ∷ []
before (left a s ∷ fs) = before fs ++ (spells a ++ word.Sign s ∷ [])
before (question c ∷ fs) = before fs ++ (spells c ++ word.Question ∷ [])
before (colon c p ∷ fs) = before fs ++ (spells c ++ word.Question ∷ (spells p ++ word.Colon ∷ []))

-- the level of the operand that is waited for
abbrev pub wanted : List Frame → ℕ
wanted (opened o ∷ fs) = inside o
wanted (signed s ∷ fs) = 12
wanted (left a s ∷ fs) = suc (level s)
wanted x = 1

abbrev pub Ordered : List Frame → Type 0
Ordered [] = Unit {0}
Ordered (opened o ∷ fs) = Ordered fs
Ordered (signed s ∷ fs) = (is_prefix s ≡ true) × Ordered fs
Ordered (left a s ∷ fs) = (wanted fs ≤ level s) × (is_infix s ≡ true) × Binds (level s) a × Ordered fs
Ordered (question c ∷ fs) = (wanted fs ≤ 1) × Binds 2 c × Ordered fs
Ordered (colon c p ∷ fs) = (wanted fs ≤ 1) × Binds 2 c × Binds 1 p × Ordered fs

-- the words that complete what waits, and the expression that they complete
abbrev pub after : List Frame → List Lexeme
after [] = []
after (opened o ∷ fs) = word.Close ∷ after fs
after (question c ∷ fs) = word.Colon ∷ word.Number (Places 0) ∷ after fs
after (w ∷ fs) = after fs

abbrev pub filled : List Frame → Shape → Shape
filled [] e = e
filled (opened o ∷ fs) e = filled fs (enclosed o e)
filled (signed s ∷ fs) e = filled fs (prefix s e)
filled (left a s ∷ fs) e = filled fs (binary s a e)
filled (question c ∷ fs) e = filled fs (ternary c e (number (Places 0)))
filled (colon c p ∷ fs) e = filled fs (ternary c p e)

pub spells_filled : (fs : List Frame) (e : Shape) → spells (filled fs e) ≡ before fs ++ (spells e ++ after fs)
spells_filled [] e = sym (append-nil (spells e))
spells_filled (opened o ∷ fs) e = spells_filled fs (enclosed o e) ∙ simp append_assoc
spells_filled (signed s ∷ fs) e = spells_filled fs (prefix s e) ∙ simp append_assoc
spells_filled (left a s ∷ fs) e = spells_filled fs (binary s a e) ∙ simp append_assoc
spells_filled (question c ∷ fs) e = spells_filled fs (ternary c e (number (Places 0))) ∙ simp append_assoc
spells_filled (colon c p ∷ fs) e = spells_filled fs (ternary c p e) ∙ simp append_assoc

pub level_high : (s : Sign) → level s ≤ 11
level_high s = search arith

pub inside_low : (o : Opening) → inside o ≤ 1
inside_low Paren = omega arith
inside_low (Call o i) = omega arith

pub wanted_high : (fs : List Frame) → wanted fs ≤ 12
wanted_high (opened o ∷ fs) = omega (arith, inside_low o)
wanted_high (left a s ∷ fs) = omega (arith, level_high s)
wanted_high x = omega arith

pub binds_lower : (e : Shape) (m n : ℕ) → n ≤ m → Binds m e → Binds n e
binds_lower (prefix s a) m n h b = (omega (arith, b.0), b.1, b.2)
binds_lower (binary s a c) m n h b = (omega (arith, b.0), b.1, b.2, b.3)
binds_lower (ternary c p q) m n h b = (omega (arith, b.0), b.1, b.2, b.3)
binds_lower (enclosed o a) m n h b = b
binds_lower x m n h b = tt

pub binds_filled : (fs : List Frame) (e : Shape) → Ordered fs → Binds (wanted fs) e → Binds 1 (filled fs e)
binds_filled [] e h b = b
binds_filled (opened o ∷ fs) e h b = binds_filled fs (enclosed o e) h b
binds_filled (signed s ∷ fs) e h b = binds_filled fs (prefix s e) h.1 (wanted_high fs, h.0, b)
binds_filled (left a s ∷ fs) e h b = binds_filled fs (binary s a e) h.3 (h.0, h.1, h.2, b)
binds_filled (question c ∷ fs) e h b = binds_filled fs (ternary c e (number (Places 0))) h.2 (h.0, h.1, b, tt)
binds_filled (colon c p ∷ fs) e h b = binds_filled fs (ternary c p e) h.3 (h.0, h.1, h.2, b)

below_test : (a b : ℕ) → a < b → nat_lt a b ≡ true
below_test a b h = grind (arith, common_steps)

above_test : (a b : ℕ) → b ≤ a → nat_lt a b ≡ false
above_test a b h = grind (arith, common_steps)

test_below : (a b : ℕ) → nat_lt a b ≡ true → a < b
test_below a b h = grind (arith, common_steps)

test_above : (a b : ℕ) → nat_lt a b ≡ false → b ≤ a
test_above a b h = grind (arith, common_steps)

-- a test, and what holds of both branches
by_test : {A : Type 0} (P : A → Type 0) (b : Bool) (x y : A) → (b ≡ true → P x) → (b ≡ false → P y)
    → P (if b then x else y)
by_test P true x y h k = h refl
by_test P false x y h k = k refl

-- what joining keeps
pub record Keeps (n : ℕ) (fs : List Frame) (e : Shape) (t : Top) : Type 0 where
  pub words : before t.frames ++ spells t.shape ≡ before fs ++ spells e
  pub ordered : Ordered t.frames
  pub tight : Binds (wanted t.frames) t.shape
  pub binds : Binds n t.shape

stop : (n : ℕ) (fs : List Frame) (e : Shape) → Ordered fs → Binds (wanted fs) e → Binds n e
    → Keeps n fs e (record { frames = fs; shape = e })
stop n fs e o t b = record { words = refl; ordered = o; tight = t; binds = b }

pub join_keeps : (n : ℕ) (fs : List Frame) (e : Shape) → n ≤ 12 → Ordered fs → Binds (wanted fs) e → Binds n e
    → Keeps n fs e (joined n fs e)
join_keeps n [] e h o t b = stop n [] e o t b
join_keeps n (opened p ∷ fs) e h o t b = stop n (opened p ∷ fs) e o t b
join_keeps n (signed s ∷ fs) e h o t b =
    let k = join_keeps n fs (prefix s e) h o.1 (wanted_high fs, o.0, t) (h, o.0, t) in
    record { words = k.words ∙ simp append_assoc; ordered = k.ordered; tight = k.tight; binds = k.binds }
join_keeps n (left a s ∷ fs) e h o t b =
    by_test (Keeps n (left a s ∷ fs) e) (nat_lt (level s) n) _ _ (λ y. stop n (left a s ∷ fs) e o t b) (λ y.
    let k = join_keeps n fs (binary s a e) h o.3 (o.0, o.1, o.2, t) (test_above (level s) n y, o.1, o.2, t) in
    record { words = k.words ∙ simp append_assoc; ordered = k.ordered; tight = k.tight; binds = k.binds })
join_keeps n (question c ∷ fs) e h o t b = stop n (question c ∷ fs) e o t b
join_keeps n (colon c p ∷ fs) e h o t b =
    by_test (Keeps n (colon c p ∷ fs) e) (nat_lt 1 n) _ _ (λ y. stop n (colon c p ∷ fs) e o t b) (λ y.
    let k = join_keeps n fs (ternary c p e) h o.3 (o.0, o.1, o.2, t) (test_above 1 n y, o.1, o.2, t) in
    record { words = k.words ∙ simp append_assoc; ordered = k.ordered; tight = k.tight; binds = k.binds })

-- nothing that binds as tightly is left
pub join_stops : (n : ℕ) (fs : List Frame) (e : Shape) → 2 ≤ n → wanted (joined n fs e).frames ≤ n
join_stops n (opened o ∷ fs) e h = omega (arith, inside_low o)
join_stops n (signed s ∷ fs) e h = join_stops n fs (prefix s e) h
join_stops n (left a s ∷ fs) e h = by_test (λ (t : Top). wanted t.frames ≤ n) (nat_lt (level s) n) _ _
    (λ y. test_below (level s) n y) (λ y. join_stops n fs (binary s a e) h)
join_stops n (colon c p ∷ fs) e h = by_test (λ (t : Top). wanted t.frames ≤ n) (nat_lt 1 n) _ _ (λ y. omega arith)
    (λ y. join_stops n fs (ternary c p e) h)
join_stops n x e h = omega arith

-- no operator has level 1
pub not_two : (fs : List Frame) → wanted fs ≤ 2 → wanted fs ≤ 1
not_two [] h = omega arith
not_two (opened o ∷ fs) h = inside_low o
not_two (left a sign.Comma ∷ fs) h = omega arith
not_two (question c ∷ fs) h = omega arith
not_two (colon c p ∷ fs) h = omega arith
not_two (w ∷ fs) h = absurd (omega arith)

-- where an operand of level n is wanted, nothing is joined by level n
pub stays : (k : ℕ) (fs : List Frame) (e : Shape) → wanted fs ≤ k → k ≤ 11 → 2 ≤ k
    → joined k fs e ≡ record { frames = fs; shape = e }
stays k (signed s ∷ fs) e h l m = absurd (omega arith)
stays k (left a s ∷ fs) e h l m = rw (below_test (level s) k (omega arith)) refl
stays k (colon c p ∷ fs) e h l m = rw (below_test 1 k (omega arith)) refl
stays k x e h l m = refl

pub stays_in_call : (fs : List Frame) (e : Shape) → wanted fs ≤ 0 → joined 0 fs e ≡ record { frames = fs; shape = e }
stays_in_call (opened o ∷ fs) e h = refl
stays_in_call x e h = absurd (omega arith)

pub stays_at : (s : Sign) (fs : List Frame) (e : Shape) → is_infix s ≡ true → wanted fs ≤ level s
    → joined (level s) fs e ≡ record { frames = fs; shape = e }
stays_at sign.Comma fs e i h = stays_in_call fs e h
stays_at sign.Or fs e i h = stays 2 fs e h (omega arith) (omega arith)
stays_at sign.And fs e i h = stays 3 fs e h (omega arith) (omega arith)
stays_at sign.BitOr fs e i h = stays 4 fs e h (omega arith) (omega arith)
stays_at sign.BitXor fs e i h = stays 5 fs e h (omega arith) (omega arith)
stays_at sign.BitAnd fs e i h = stays 6 fs e h (omega arith) (omega arith)
stays_at sign.Equal fs e i h = stays 7 fs e h (omega arith) (omega arith)
stays_at sign.NotEqual fs e i h = stays 7 fs e h (omega arith) (omega arith)
stays_at sign.ShiftLeft fs e i h = stays 9 fs e h (omega arith) (omega arith)
stays_at sign.ShiftRight fs e i h = stays 9 fs e h (omega arith) (omega arith)
stays_at sign.ShiftRightUnsigned fs e i h = stays 9 fs e h (omega arith) (omega arith)
stays_at sign.Add fs e i h = stays 10 fs e h (omega arith) (omega arith)
stays_at sign.Subtract fs e i h = stays 10 fs e h (omega arith) (omega arith)
stays_at sign.Multiply fs e i h = stays 11 fs e h (omega arith) (omega arith)
stays_at sign.Divide fs e i h = stays 11 fs e h (omega arith) (omega arith)
stays_at sign.Remainder fs e i h = stays 11 fs e h (omega arith) (omega arith)
stays_at sign.Complement fs e i h = absurd cc
stays_at sign.Not fs e i h = absurd cc
stays_at x fs e i h = stays 8 fs e h (omega arith) (omega arith)

-- a sign may stand where its level is wanted, and only there
call_takes : (fs : List Frame) → wanted fs ≤ 0 → in_call fs ≡ true
call_takes (opened (Call o i) ∷ fs) h = refl
call_takes x h = absurd (omega arith)

pub takes_at : (s : Sign) (fs : List Frame) → is_infix s ≡ true → wanted fs ≤ level s → takes s fs ≡ true
takes_at sign.Comma fs i h = call_takes fs h
takes_at sign.Complement fs i h = i
takes_at sign.Not fs i h = i
takes_at x fs i h = refl

taken_in_call : (fs : List Frame) → in_call fs ≡ true → wanted fs ≤ 0
taken_in_call (opened (Call o i) ∷ fs) h = omega arith
taken_in_call x h = absurd cc

-- a sign that is taken is an operator, and nothing tighter is left
pub record Taken (s : Sign) (fs : List Frame) : Type 0 where
  pub between : is_infix s ≡ true
  pub low : wanted fs ≤ level s

pub taken : (s : Sign) (fs : List Frame) (e : Shape) → takes s (joined (level s) fs e).frames ≡ true
    → Taken s (joined (level s) fs e).frames
taken sign.Comma fs e h = record { between = refl; low = taken_in_call (joined 0 fs e).frames h }
taken sign.Or fs e h = record { between = refl; low = join_stops 2 fs e (omega arith) }
taken sign.And fs e h = record { between = refl; low = join_stops 3 fs e (omega arith) }
taken sign.BitOr fs e h = record { between = refl; low = join_stops 4 fs e (omega arith) }
taken sign.BitXor fs e h = record { between = refl; low = join_stops 5 fs e (omega arith) }
taken sign.BitAnd fs e h = record { between = refl; low = join_stops 6 fs e (omega arith) }
taken sign.Equal fs e h = record { between = refl; low = join_stops 7 fs e (omega arith) }
taken sign.NotEqual fs e h = record { between = refl; low = join_stops 7 fs e (omega arith) }
taken sign.ShiftLeft fs e h = record { between = refl; low = join_stops 9 fs e (omega arith) }
taken sign.ShiftRight fs e h = record { between = refl; low = join_stops 9 fs e (omega arith) }
taken sign.ShiftRightUnsigned fs e h = record { between = refl; low = join_stops 9 fs e (omega arith) }
taken sign.Add fs e h = record { between = refl; low = join_stops 10 fs e (omega arith) }
taken sign.Subtract fs e h = record { between = refl; low = join_stops 10 fs e (omega arith) }
taken sign.Multiply fs e h = record { between = refl; low = join_stops 11 fs e (omega arith) }
taken sign.Divide fs e h = record { between = refl; low = join_stops 11 fs e (omega arith) }
taken sign.Remainder fs e h = record { between = refl; low = join_stops 11 fs e (omega arith) }
taken sign.Complement fs e h = absurd cc
taken sign.Not fs e h = absurd cc
taken x fs e h = record { between = refl; low = join_stops 8 fs e (omega arith) }

pub joins_left : (k : ℕ) (a : Shape) (s : Sign) (fs : List Frame) (e : Shape) → k ≤ level s
    → joined k (left a s ∷ fs) e ≡ joined k fs (binary s a e)
joins_left k a s fs e h = rw (above_test (level s) k h) refl

pub joins_colon : (k : ℕ) (c p : Shape) (fs : List Frame) (e : Shape) → k ≤ 1
    → joined k (colon c p ∷ fs) e ≡ joined k fs (ternary c p e)
joins_colon k c p fs e h = rw (above_test 1 k h) refl
