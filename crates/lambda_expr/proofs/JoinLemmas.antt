-- The code that joins what waits, and the reader as a function.
use Rattle.std.proofs.Common.{◌≡◌, ℕ, nat_lt, Bool, true, false, List, [], ◌∷◌, ◌++◌, Some, None, refl, sym, ap, subst}
use Rattle.std.proofs.Common.{◌∙◌, append_assoc}
use Rattle.std.specs.Prelude.{if◌then◌else◌}
use Rattle.lambda_expr.specs.declared.parse.Pending.{Pending}
use Rattle.lambda_expr.specs.declared.parse.Pending.TheVariants as pending
use Rattle.lambda_expr.specs.declared.step.ParseStep.{ParseStep}
use Rattle.lambda_expr.specs.declared.step.ParseStep.TheVariants as step
use Rattle.lambda_expr.specs.declared.parse.Held.{Held}
use Rattle.lambda_expr.specs.declared.parse.Held.TheVariants.{Complete}
use Rattle.lambda_expr.specs.declared.step.Opening.{Opening}
use Rattle.lambda_expr.specs.declared.lexeme.ClassName.{ClassName as Class}
use Rattle.lambda_expr.specs.declared.lexeme.Lexeme.{Lexeme}
use Rattle.lambda_expr.specs.declared.lexeme.Lexeme.TheVariants as word
use Rattle.lambda_expr.specs.declared.lexeme.Name.{Name}
use Rattle.lambda_expr.specs.Grammar.{Shape, row, enclosed, postfix}
use Rattle.lambda_expr.specs.Signs.{level}
use Rattle.lambda_expr.specs.Reader.{Frame, Top, State, has, joins, joined, shuts, called, alone}
use Rattle.lambda_expr.specs.Codes.{reduced, shape_on, rest, apply, run, frames_of, coded, code_of, state_on, state_of}
use Rattle.lambda_expr.specs.Codes.{top_of, IsAt, IsCoded}

pub record IsJoining (goal : Top) (n : ℕ) (ps : List Pending) (ss : List ParseStep) : Type 0 where
  pub same : goal ≡ joins n (top_of ps ss)
  pub steps : IsCoded ps ss Complete

pub run_more : (vs : List Shape) (ss : List ParseStep) (x : ParseStep) → run vs (ss ++ x ∷ []) ≡ apply x (run vs ss)
run_more vs [] x = refl
run_more vs (s ∷ ss) x = run_more (apply s vs) ss x

-- what a step is made of is what was on top
pub record Reduces (n : ℕ) (p : Pending) (ps : List Pending) (vs : List Shape) (x : ParseStep) : Type 0 where
  pub same : joined n (frames_of (p ∷ ps) (rest vs)) (shape_on vs)
      ≡ joined n (frames_of ps (rest (apply x vs))) (shape_on (apply x vs))
  pub code : coded (frames_of ps (rest (apply x vs))) ++ postfix (shape_on (apply x vs))
      ≡ (coded (frames_of (p ∷ ps) (rest vs)) ++ postfix (shape_on vs)) ++ x ∷ []

left_reduces : (b : Bool) (n : ℕ) (p : Pending) (ps : List Pending) (vs : List Shape) (x y : ParseStep)
    → (b ≡ false → Reduces n p ps vs y) → (if b then None else Some y) ≡ Some x → Reduces n p ps vs x
left_reduces true n p ps vs x y r h = absurd cc
left_reduces false n p ps vs x y r h = let e : y ≡ x = cc in subst (Reduces n p ps vs) e (r refl)

pub reduces : (n : ℕ) (p : Pending) (ps : List Pending) (vs : List Shape) (x : ParseStep) → reduced n p ≡ Some x
    → Reduces n p ps vs x
reduces n (pending.Signed s) ps vs x h = let e : step.Prefix s ≡ x = cc in
    subst (Reduces n (pending.Signed s) ps vs) e (record { same = refl; code = simp append_assoc })
reduces n (pending.Left s) ps vs x h = left_reduces (nat_lt (level s) n) n (pending.Left s) ps vs x (step.Binary s)
    (λ b. record { same = rw b refl; code = simp append_assoc }) h
reduces n pending.Colon ps vs x h = left_reduces (nat_lt 1 n) n pending.Colon ps vs x step.Ternary
    (λ b. record { same = rw b refl; code = simp append_assoc }) h
reduces n y ps vs x h = absurd cc

-- the code is where its steps lead
at_run : (ps : List Pending) (ss : List ParseStep) (h : Held) (vs : List Shape) (s : State) → run [] ss ≡ vs
    → state_on ps vs h ≡ s → code_of s ≡ ss → IsAt ps ss h s
at_run ps ss h vs s r e code =
    let at : state_of ps ss h ≡ s = ap (λ v. state_on ps v h) r ∙ e in
    record { state = at; steps = ap code_of at ∙ code }

-- an operand of one step
pub leaf_at : (ps : List Pending) (ss new : List ParseStep) (x : ParseStep) (e : Shape) → new ≡ ss ++ x ∷ []
    → apply x (run [] ss) ≡ e ∷ run [] ss → postfix e ≡ x ∷ [] → coded (frames_of ps (run [] ss)) ≡ ss
    → IsAt ps new Complete (has (frames_of ps (run [] ss)) e)
leaf_at ps ss new x e n a p code = at_run ps new Complete (e ∷ run [] ss) (has (frames_of ps (run [] ss)) e)
    (ap (run []) n ∙ run_more [] ss x ∙ a) refl
    (ap (λ v. coded (frames_of ps (run [] ss)) ++ v) p ∙ ap (λ v. v ++ x ∷ []) code ∙ sym n)

pub closes_at : (t : Top) (ps qs : List Pending) (ss new : List ParseStep) (o : Opening) → t ≡ top_of ps ss
    → IsCoded ps ss Complete → ps ≡ pending.Opened o ∷ qs → new ≡ ss ++ step.Enclose o ∷ []
    → IsAt qs new Complete (shuts t)
closes_at t ps qs ss new o is code front n =
    let vs = run [] ss in
    let there : shuts (top_of (pending.Opened o ∷ qs) ss) ≡ shuts t =
    ap (λ ps. shuts (top_of ps ss)) (sym front) ∙ ap shuts (sym is) in
    let steps : coded (frames_of qs (rest vs)) ++ postfix (shape_on vs) ≡ ss =
    subst (λ ps. IsCoded ps ss Complete) front code in
    subst (IsAt qs new Complete) there (at_run qs new Complete (enclosed o (shape_on vs) ∷ rest vs)
    (has (frames_of qs (rest vs)) (enclosed o (shape_on vs))) (ap (run []) n ∙ run_more [] ss (step.Enclose o)) refl
    (sym (append_assoc (coded (frames_of qs (rest vs))) (postfix (shape_on vs)) (step.Enclose o ∷ []))
    ∙ ap (λ v. v ++ step.Enclose o ∷ []) steps ∙ sym n))

-- a name after an owner, and then no parenthesis
pub called_next : (fs : List Frame) (o : Class) (i : Name) (w : Lexeme) → (w ≡ word.Open → ⊥)
    → called fs o i w ≡ alone fs o i w
called_next fs o i word.Open n = absurd (n refl)
called_next fs o i x n = refl

-- one step more of what waits
pub joining_on : (goal : Top) (n : ℕ) (p : Pending) (ps qs : List Pending) (ss new : List ParseStep) (x : ParseStep)
    → reduced n p ≡ Some x → ps ≡ p ∷ qs → new ≡ ss ++ x ∷ [] → IsJoining goal n ps ss → IsJoining goal n qs new
joining_on goal n p ps qs ss new x is front more j =
    let r = reduces n p qs (run [] ss) x is in
    let after : run [] new ≡ apply x (run [] ss) = ap (run []) more ∙ run_more [] ss x in
    let before : coded (frames_of (p ∷ qs) (rest (run [] ss))) ++ postfix (shape_on (run [] ss)) ≡ ss =
    subst (λ ps. IsCoded ps ss Complete) front j.steps in
    record {
      same = j.same ∙ ap (λ ps. joins n (top_of ps ss)) front ∙ r.same
          ∙ ap (λ vs. joined n (frames_of qs (rest vs)) (shape_on vs)) (sym after);
      steps = ap (λ vs. coded (frames_of qs (rest vs)) ++ postfix (shape_on vs)) after ∙ r.code
          ∙ ap (λ v. v ++ x ∷ []) before ∙ sym more;
    }

abbrev top_in : State → Top
top_in (has fs e) = record { frames = fs; shape = e }
top_in s = record { frames = []; shape = row }

pub top_is : (ps : List Pending) (ss : List ParseStep) (fs : List Frame) (e : Shape) → IsAt ps ss Complete (has fs e)
    → top_of ps ss ≡ record { frames = fs; shape = e }
top_is ps ss fs e a = ap top_in a.state
