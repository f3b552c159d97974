-- Condition: the checks of an expression from its steps, with a stack of what they found in operands.
use Rattle.std.specs.Prelude.{ℕ, suc, max, min, nat_lt, true, ◌&&◌, if◌then◌else◌, List, [], ◌∷◌}
use Rattle.std.specs.Option.{is_some}
use Rattle.lambda_expr.specs.declared.check.Literals.TheVariants.{Number, Fit}
use Rattle.lambda_expr.specs.declared.check.Summary.{Summary}
use Rattle.lambda_expr.specs.declared.sign.Sign.{Sign}
use Rattle.lambda_expr.specs.declared.step.Opening.{Opening}
use Rattle.lambda_expr.specs.declared.step.ParseStep.{ParseStep}
use Rattle.lambda_expr.specs.declared.step.ParseStep.TheVariants as step
use Rattle.lambda_expr.specs.Checks.{depth, fit, is_comma, is_known, literals, names_known, signed}
use Rattle.lambda_expr.specs.declared.check.BodyForm.TheVariants.{Single}
use Rattle.lambda_values.specs.declared.lambda.PairForm.TheVariants.{Other}
use Rattle.lambda_expr.specs.Grammar.{Shape}
use Rattle.lambda_expr.specs.Lexemes.{value_in}
use Rattle.lambda_expr.specs.PairForms.{binary_form, enclosed_form, form, name_form}
use Rattle.lambda_expr.specs.Stacks.{below, top_or}
use Rattle.lambda_expr.specs.Typing.{constant_of}

-- what the checks find in an expression; a depth over 65 is 65
abbrev pub summary : ℕ → Shape → Summary
summary p e = record { literals = literals e; depth = min (depth e) 65; known = names_known p e; form = form e }

abbrev pub nothing : Summary
nothing = record { literals = Fit true; depth = 1; known = true; form = Single Other }

abbrev pub top_summary : List Summary → Summary
top_summary ss = top_or nothing ss

abbrev pub deeper : ℕ → ℕ
deeper n = min (suc n) 65

abbrev pub prefix_summary : Sign → Summary → Summary
prefix_summary s a =
    record { literals = signed s a.literals; depth = deeper a.depth; known = a.known; form = Single Other }

abbrev pub binary_summary : Sign → Summary → Summary → Summary
binary_summary s a b = record {
  literals = Fit (fit a.literals && fit b.literals);
  depth = if is_comma s then max a.depth b.depth else deeper (max a.depth b.depth);
  known = a.known && b.known;
  form = binary_form s a.form b.form;
}

abbrev pub ternary_summary : Summary → Summary → Summary → Summary
ternary_summary c p q = record {
  literals = Fit (fit c.literals && (fit p.literals && fit q.literals));
  depth = deeper (max c.depth (max p.depth q.depth));
  known = c.known && (p.known && q.known);
  form = Single Other;
}

abbrev pub enclosed_summary : Opening → Summary → Summary
enclosed_summary o a =
    record {
      literals = Fit (fit a.literals);
      depth = deeper a.depth;
      known = is_known o && a.known;
      form = enclosed_form o a.form;
    }

abbrev pub summary_step : ℕ → ParseStep → List Summary → List Summary
summary_step p (step.Name i) ss =
    record { literals = Fit true; depth = 1; known = nat_lt i.number p; form = name_form i.number } ∷ ss
summary_step p (step.Number n) ss =
    record { literals = Number (value_in n); depth = 1; known = true; form = Single Other } ∷ ss
summary_step p (step.Truth b) ss = nothing ∷ ss
summary_step p (step.Reference i) ss = nothing ∷ ss
summary_step p (step.Cell i) ss = nothing ∷ ss
summary_step p (step.DecimalCell i k) ss = nothing ∷ ss
summary_step p step.Row ss = nothing ∷ ss
summary_step p (step.Constant n) ss =
    record { literals = Fit true; depth = 1; known = is_some (constant_of n); form = Single Other } ∷ ss
summary_step p (step.Prefix s) ss = prefix_summary s (top_summary ss) ∷ below ss
summary_step p (step.Binary s) ss = binary_summary s (top_summary (below ss)) (top_summary ss) ∷ below (below ss)
summary_step p step.Ternary ss =
    ternary_summary (top_summary (below (below ss))) (top_summary (below ss)) (top_summary ss)
    ∷ below (below (below ss))
summary_step p (step.Enclose o) ss = enclosed_summary o (top_summary ss) ∷ below ss

abbrev pub summary_steps : ℕ → List Summary → List ParseStep → List Summary
summary_steps p ss [] = ss
summary_steps p ss (x ∷ xs) = summary_steps p (summary_step p x ss) xs
