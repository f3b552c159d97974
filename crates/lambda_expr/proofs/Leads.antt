-- Each expression is read: where its words lead.
use Rattle.std.proofs.Common.{◌≡◌, ℕ, suc, ◌≤◌, List, [], ◌∷◌, ◌++◌, Some, refl, sym, ap, ◌∙◌, arith}
use Rattle.lambda_expr.specs.declared.lexeme.ClassName.TheVariants.{Long}
use Rattle.lambda_expr.specs.declared.step.Opening.{Opening}
use Rattle.lambda_expr.specs.declared.step.Opening.TheVariants.{Paren, Call}
use Rattle.lambda_expr.specs.declared.lexeme.Lexeme.{Lexeme}
use Rattle.lambda_expr.specs.declared.lexeme.Lexeme.TheVariants as word
use Rattle.lambda_expr.specs.Grammar.{Shape, name, number, truth, reference, cell, decimal_cell, row, constant, prefix}
use Rattle.lambda_expr.specs.Grammar.{binary, ternary, enclosed, opening, inside, spells, Binds, IsExpression}
use Rattle.lambda_expr.specs.Grammar.{Expression}
use Rattle.lambda_expr.specs.Signs.{level}
use Rattle.lambda_expr.specs.Stops.{Begins}
use Rattle.lambda_expr.specs.Reader.{Frame, opened, signed, left, question, colon, Top, joined, State, wants, has}
use Rattle.lambda_expr.specs.Reader.{calls, stuck, when, operates, asks, answers, shuts, follows, read, reads, settled}
use Rattle.lambda_expr.specs.Reader.{result_of, result_at, whole}
use Rattle.lambda_expr.proofs.JoinLemmas.{called_next}
use Rattle.lambda_expr.proofs.Frames.{wanted, binds_lower, level_high, stays, stays_at, takes_at, joins_left}
use Rattle.lambda_expr.proofs.Frames.{joins_colon}

pub reads_append : (s : State) (a b : List Lexeme) → reads s (a ++ b) ≡ reads (reads s a) b
reads_append s [] b = refl
reads_append s (w ∷ a) b = reads_append (read s w) a b

pub stuck_stays : (ws : List Lexeme) → reads stuck ws ≡ stuck
stuck_stays [] = refl
stuck_stays (w ∷ ws) = stuck_stays ws

abbrev pub at_top : List Frame → Shape → Top
at_top fs e = record { frames = fs; shape = e }

-- where the words of an expression lead
pub record Leads (fs : List Frame) (e : Shape) : Type 0 where
  pub state : State
  pub frames : List Frame
  pub shape : Shape
  pub run : reads (wants fs) (spells e) ≡ state
  pub settles : settled state ≡ has frames shape
  pub same : (k : ℕ) → k ≤ 12 → Binds k e → joined k frames shape ≡ joined k fs e

-- a word after it that is no parenthesis
goes : (s : State) (fs : List Frame) (e : Shape) (w : Lexeme) → settled s ≡ has fs e → (w ≡ word.Open → ⊥)
    → read s w ≡ follows (at_top fs e) w
goes (has gs f) fs e w h n = ap (λ s. read s w) h
goes (calls gs Long i) fs e w h n = called_next gs Long i w n ∙ ap (λ s. read s w) h
goes x fs e w h n = absurd cc

pub then_word : (fs : List Frame) (e : Shape) (l : Leads fs e) (w : Lexeme) (ws : List Lexeme) → (w ≡ word.Open → ⊥)
    → reads (wants fs) (spells e ++ w ∷ ws) ≡ reads (follows (at_top l.frames l.shape) w) ws
then_word fs e l w ws n = reads_append (wants fs) (spells e) (w ∷ ws) ∙ ap (λ s. reads (read s w) ws) l.run
    ∙ ap (λ s. reads s ws) (goes l.state l.frames l.shape w l.settles n)

opens : (o : Opening) (fs : List Frame) (ws : List Lexeme)
    → reads (wants fs) (opening o ++ ws) ≡ reads (wants (opened o ∷ fs)) ws
opens Paren fs ws = refl
opens (Call o i) fs ws = refl

pub leads : (e : Shape) (fs : List Frame) → Binds (wanted fs) e → Leads fs e
leads (name i) fs b = record {
  state = has fs (name i);
  frames = fs;
  shape = name i;
  run = refl;
  settles = refl;
  same = λ k h c. refl;
}
leads (number i) fs b = record {
  state = has fs (number i);
  frames = fs;
  shape = number i;
  run = refl;
  settles = refl;
  same = λ k h c. refl;
}
leads (truth i) fs b = record {
  state = has fs (truth i);
  frames = fs;
  shape = truth i;
  run = refl;
  settles = refl;
  same = λ k h c. refl;
}
leads (reference i) fs b = record {
  state = has fs (reference i);
  frames = fs;
  shape = reference i;
  run = refl;
  settles = refl;
  same = λ k h c. refl;
}
leads (cell i) fs b = record {
  state = has fs (cell i);
  frames = fs;
  shape = cell i;
  run = refl;
  settles = refl;
  same = λ k h c. refl;
}
leads (decimal_cell i p) fs b = record {
  state = has fs (decimal_cell i p);
  frames = fs;
  shape = decimal_cell i p;
  run = refl;
  settles = refl;
  same = λ k h c. refl;
}
leads row fs b = record {
  state = has fs row;
  frames = fs;
  shape = row;
  run = refl;
  settles = refl;
  same = λ k h c. refl;
}
leads (constant i) fs b = record {
  state = calls fs Long i;
  frames = fs;
  shape = constant i;
  run = refl;
  settles = refl;
  same = λ k h c. refl;
}
leads (prefix s a) fs b =
    let l = leads a (signed s ∷ fs) b.2 in
    record {
      state = l.state;
      frames = l.frames;
      shape = l.shape;
      run = ap (λ t. reads (when t (wants (signed s ∷ fs))) (spells a)) b.1 ∙ l.run;
      settles = l.settles;
      same = λ k h c. l.same k h (binds_lower a 12 k h b.2);
    }
leads (binary s a c) fs b =
    let high = level_high s in
    let l = leads a fs (binds_lower a (level s) (wanted fs) b.0 b.2) in
    let m = leads c (left a s ∷ fs) b.3 in
    let small : level s ≤ 12 = omega arith in
    let top : joined (level s) l.frames l.shape ≡ at_top fs a = l.same (level s) small b.2 ∙ stays_at s fs a b.1 b.0 in
    record {
      state = m.state;
      frames = m.frames;
      shape = m.shape;
      run = then_word fs a l (word.Sign s) (spells c) (λ e. cc)
          ∙ ap (λ t. reads (operates s t) (spells c)) top
          ∙ ap (λ t. reads (when t (wants (left a s ∷ fs))) (spells c)) (takes_at s fs b.1 b.0)
          ∙ m.run;
      settles = m.settles;
      same = λ k h d. m.same k h (let low : k ≤ suc (level s) = omega (arith, d.0) in
          binds_lower c (suc (level s)) k low b.3) ∙ joins_left k a s fs c d.0;
    }
leads (ternary c p q) fs b =
    let low : wanted fs ≤ 2 = omega (arith, b.0) in
    let l = leads c fs (binds_lower c 2 (wanted fs) low b.1) in
    let m = leads p (question c ∷ fs) b.2 in
    let n = leads q (colon c p ∷ fs) b.3 in
    let top : joined 2 l.frames l.shape ≡ at_top fs c =
    l.same 2 (omega arith) b.1 ∙ stays 2 fs c low (omega arith) (omega arith) in
    record {
      state = n.state;
      frames = n.frames;
      shape = n.shape;
      run = then_word fs c l word.Question (spells p ++ word.Colon ∷ spells q) (λ e. cc)
          ∙ ap (λ t. reads (asks t) (spells p ++ word.Colon ∷ spells q)) top
          ∙ then_word (question c ∷ fs) p m word.Colon (spells q) (λ e. cc)
          ∙ ap (λ t. reads (answers t) (spells q)) (m.same 0 (omega arith) (binds_lower p 1 0 (omega arith) b.2))
          ∙ n.run;
      settles = n.settles;
      same = λ k h d. n.same k h (binds_lower q 1 k d.0 b.3) ∙ joins_colon k c p fs q d.0;
    }
leads (enclosed o a) fs b =
    let l = leads a (opened o ∷ fs) b in
    record {
      state = has fs (enclosed o a);
      frames = fs;
      shape = enclosed o a;
      run = opens o fs (spells a ++ word.Close ∷ [])
          ∙ then_word (opened o ∷ fs) a l word.Close [] (λ e. cc)
          ∙ ap shuts (l.same 0 (omega arith) (binds_lower a (inside o) 0 (omega arith) b));
      settles = refl;
      same = λ k h c. refl;
    }

-- words lead back to the expression that they are
pub reads_back : (e : Shape) → Binds 1 e → result_of (reads (wants []) (spells e)) ≡ Some e
reads_back e b =
    let l = leads e [] b in
    ap result_of l.run ∙ ap result_at l.settles ∙ ap whole (l.same 0 (omega arith) (binds_lower e 1 0 (omega arith) b))

pub one_expression : (ws : List Lexeme) (e f : Shape) → IsExpression ws e → IsExpression ws f → e ≡ f
one_expression ws e f a b =
    let t : Some e ≡ Some f = sym (reads_back e a.binds)
    ∙ ap (λ w. result_of (reads (wants []) w)) (a.spelled ∙ sym b.spelled) ∙ reads_back f b.binds in
    cc

-- words that are stuck begin no expression
pub stuck_begins_none : (ws : List Lexeme) → reads (wants []) ws ≡ stuck → Begins Expression ws → ⊥
stuck_begins_none ws h b =
    let l = leads b.1.0 [] b.1.1.binds in
    let same : reads (wants []) (spells b.1.0) ≡ stuck =
    ap (reads (wants [])) b.1.1.spelled ∙ reads_append (wants []) ws b.0 ∙ ap (λ s. reads s b.0) h
    ∙ stuck_stays b.0 in
    let settles : settled stuck ≡ has l.frames l.shape = ap settled (sym same ∙ l.run) ∙ l.settles in
    cc
