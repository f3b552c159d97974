-- One stage more; terminals as ends of segments; and folds that keep the first value.
use Rattle.std.proofs.Common.{◌≡◌, ℕ, suc, ℤ, true, false, List, [], ◌∷◌, ◌++◌, length, Some, None, refl, sym, ap, ◌∙◌}
use Rattle.std.proofs.Common.{arith}
use Rattle.lambda_values.specs.Earlier.{Numbers}
use Rattle.lambda_values.specs.declared.item.Item.{Item}
use Rattle.trace.specs.declared.item.End.{End}
use Rattle.trace.specs.declared.item.End.TheVariants as end
use Rattle.trace.specs.declared.stage.Stage.{Stage}
use Rattle.trace.specs.Stages.{AbstractStage, pipe, stage_of, stages_of}
use Rattle.trace.specs.Trace.{Trace, trace}
use Rattle.trace.proofs.JoinLemmas.{pipe_ended}
use Rattle.reduce_ops.specs.declared.op.Op.TheVariants as op
use Rattle.reduce_ops.specs.Folds.{fold_from}
use Rattle.reduce_ops.specs.Operators.{value_of}
use Rattle.reduce_ops.proofs.FoldLemmas.{wrapped_sum, counted}
use Rattle.find_ops.specs.Finds.{find_of}
use Rattle.find_ops.specs.declared.terminal.FindTerminal.TheVariants as terminal
use Rattle.job_language.specs.Jobs.{AbstractTerminal, sum, count}
use Rattle.job_meaning.specs.declared.answer.Answer.TheVariants as answer
use Rattle.job_meaning.specs.Walks.{answer_of, unless_fault}
use Rattle.batch_eval.specs.Faultless.{AreFaultless}
use Rattle.job_routes.specs.declared.outcome.Outcome.TheVariants as outcome
use Rattle.job_routes.specs.Building.{IsClean}
use Rattle.job_routes.specs.Legs.{end_of, ended, finding, folding, given_answer}

-- the number of the stage that ends a segment
pub length-stages_of : (gs : List Stage) → length (stages_of gs) ≡ length gs
length-stages_of [] = refl
length-stages_of (g ∷ gs) = ap suc (length-stages_of gs)

-- one more of several
pub stages_more : (gs : List Stage) (g : Stage) → stages_of (gs ++ g ∷ []) ≡ stages_of gs ++ stage_of g ∷ []
stages_more [] g = refl
stages_more (f ∷ gs) g = ap (λ (hs : List AbstractStage). stage_of f ∷ hs) (stages_more gs g)

pub no_items : {A : Type 0} (xs : List A) → length xs ≡ 0 → xs ≡ []
no_items [] h = refl
no_items (x ∷ xs) h = absurd (omega arith)

-- ---- terminals

-- the end of the last segment is the terminal
pub terminal_ends : (d : AbstractTerminal) (n : ℕ) (env : Numbers) (t : Trace)
    → given_answer (ended (end_of d) n env t) ≡ answer_of n env d t
terminal_ends sum n env t = ap (λ z. unless_fault t.ending (answer.Number z)) (wrapped_sum t.items)
terminal_ends count n env t = ap (λ z. unless_fault t.ending (answer.Number z)) (counted t.items)
terminal_ends d n env t = refl

-- ---- folds that keep the first value, of walks that have no item before a fault

one_value : (a : ℤ) (xs : List Item) → fold_from (value_of op.First) a xs ≡ a
one_value a [] = refl
one_value a (x ∷ xs) = one_value a xs

pub first_answer : (n : ℕ) (env : Numbers) (xs : List Item) (e : End) → IsClean (trace xs e)
    → ended (finding (find_of terminal.First)) n env (trace xs e)
    ≡ ended (folding op.First None false) n env (trace xs e)
first_answer n env [] end.Done h = refl
first_answer n env [] (end.Fault f) h = refl
first_answer n env (x ∷ xs) end.Done h =
    ap (λ (v : ℤ). outcome.Answer (answer.Optional (Some v))) (sym (one_value x.value xs))
first_answer n env (x ∷ xs) (end.Fault f) h = absurd (let z : x ∷ xs ≡ [] = h f refl in cc)

-- stages that have no fault leave a walk without an item before a fault
pub pipe_clean : (m : ℕ) (gs : List AbstractStage) → AreFaultless true gs → (env : Numbers) (t : Trace) → IsClean t
    → IsClean (pipe m gs env t)
pipe_clean m gs calm env t clean = λ f e.
    let none : t.items ≡ [] = clean f (ap (λ (w : Trace). w.ending) (sym ((calm env).0 m env refl t.items t.ending))
    ∙ e) in
    ap (λ (xs : List Item). (pipe m gs env (trace xs t.ending)).items) none
    ∙ ap (λ (w : Trace). w.items) (pipe_ended m gs env t.ending)
