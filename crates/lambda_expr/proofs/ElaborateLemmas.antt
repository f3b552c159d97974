-- The terms of operands on a stack, and the term of an expression from its steps.
use Rattle.std.proofs.Common.{◌≡◌, List, [], ◌∷◌, ◌++◌, refl, sym, ap, ◌∙◌, append_assoc}
use Rattle.lambda_expr.specs.declared.elaborate.TypedOperand.{TypedOperand}
use Rattle.lambda_expr.specs.declared.step.ParseStep.{ParseStep}
use Rattle.lambda_expr.specs.declared.step.ParseStep.TheVariants as step
use Rattle.lambda_expr.specs.declared.step.Opening.TheVariants.{Paren, Call}
use Rattle.lambda_expr.specs.Elaborating.{operands_of, typed_of, typed_step, typed_steps, top_typed}
use Rattle.lambda_expr.specs.Grammar.{Shape, prefix, binary, ternary, enclosed, postfix}
use Rattle.lambda_expr.specs.Lexemes.{Names}
use Rattle.lambda_expr.specs.Stacks.{below, stacked}
use Rattle.lambda_expr.specs.Typing.{Typed, typed, untyped}
use Rattle.lambda_expr.proofs.StackLemmas.{popped_rest, popped_top}

pub operands_of_append : (os : List TypedOperand) (o : TypedOperand)
    → operands_of (os ++ o ∷ []) ≡ operands_of os ++ typed_of o ∷ []
operands_of_append [] o = refl
operands_of_append (p ∷ os) o = ap (λ v. typed_of p ∷ v) (operands_of_append os o)

pub popped : (old new : List TypedOperand) (o : TypedOperand) (ts : List Typed) → old ≡ new ++ o ∷ []
    → operands_of old ≡ stacked ts → (typed_of o ≡ top_typed ts) × (operands_of new ≡ stacked (below ts))
popped old new o ts is h =
    let flat : operands_of new ++ typed_of o ∷ [] ≡ stacked ts =
    sym (operands_of_append new o) ∙ ap operands_of (sym is) ∙ h in
    (popped_top untyped (typed_of o) (operands_of new) ts flat, popped_rest (typed_of o) (operands_of new) ts flat)

pub typed_append : (h : Names) (ts : List Typed) (ss : List ParseStep) (s : ParseStep)
    → typed_steps h ts (ss ++ s ∷ []) ≡ typed_step h s (typed_steps h ts ss)
typed_append h ts [] s = refl
typed_append h ts (x ∷ ss) s = typed_append h (typed_step h x ts) ss s

pub by_steps : (h : Names) (e : Shape) (ts : List Typed) (ss : List ParseStep)
    → typed_steps h ts (postfix e ++ ss) ≡ typed_steps h (typed h e ∷ ts) ss
by_steps h (prefix s a) ts ss = ap (typed_steps h ts) (append_assoc (postfix a) (step.Prefix s ∷ []) ss)
    ∙ by_steps h a ts (step.Prefix s ∷ ss)
by_steps h (binary s a b) ts ss =
    ap (typed_steps h ts) (append_assoc (postfix a) (postfix b ++ step.Binary s ∷ []) ss
    ∙ ap (λ v. postfix a ++ v) (append_assoc (postfix b) (step.Binary s ∷ []) ss))
    ∙ by_steps h a ts (postfix b ++ step.Binary s ∷ ss)
    ∙ by_steps h b (typed h a ∷ ts) (step.Binary s ∷ ss)
by_steps h (ternary c p q) ts ss =
    ap (typed_steps h ts) (append_assoc (postfix c) (postfix p ++ (postfix q ++ step.Ternary ∷ [])) ss
    ∙ ap (λ v. postfix c ++ v) (append_assoc (postfix p) (postfix q ++ step.Ternary ∷ []) ss
    ∙ ap (λ v. postfix p ++ v) (append_assoc (postfix q) (step.Ternary ∷ []) ss)))
    ∙ by_steps h c ts (postfix p ++ (postfix q ++ step.Ternary ∷ ss))
    ∙ by_steps h p (typed h c ∷ ts) (postfix q ++ step.Ternary ∷ ss)
    ∙ by_steps h q (typed h p ∷ typed h c ∷ ts) (step.Ternary ∷ ss)
by_steps h (enclosed Paren a) ts ss = ap (typed_steps h ts) (append_assoc (postfix a) (step.Enclose Paren ∷ []) ss)
    ∙ by_steps h a ts (step.Enclose Paren ∷ ss)
by_steps h (enclosed (Call o n) a) ts ss =
    ap (typed_steps h ts) (append_assoc (postfix a) (step.Enclose (Call o n) ∷ []) ss)
    ∙ by_steps h a ts (step.Enclose (Call o n) ∷ ss)
by_steps h x ts ss = refl
