-- Which walks settle what ends make of them.
use Rattle.std.proofs.Common.{◌≡◌, ℕ, true, false, is_some, Option, Some, None, sym, refl, ap, ◌∙◌}
use Rattle.std.specs.Option.{option_or}
use Rattle.lambda_values.specs.Earlier.{Numbers}
use Rattle.trace.specs.declared.item.Fault.{Fault}
use Rattle.trace.specs.declared.item.End.{End}
use Rattle.trace.specs.declared.item.End.TheVariants as end
use Rattle.trace.specs.Trace.{Trace, append}
use Rattle.early_stop.specs.Leaving.{IsSettled}
use Rattle.early_stop.proofs.Settling.{fault_settles}
use Rattle.find_ops.specs.Finds.{Find, decision_of, find_answer, decided_or, answer_of_none}
use Rattle.find_ops.proofs.DecisionLemmas.{decision_joined}
use Rattle.job_plan.specs.Parts.{is_fault}

-- a part of an outcome settles it
pub settles_on : {A B : Type 0} (f : A → B) (close : Trace → A) (t : Trace) → IsSettled close t
    → IsSettled (λ u. f (close u)) t
settles_on f close t h a b c = ap f (h a b c)

pub the_fault : (e : End) → is_fault e ≡ true → (f : Fault) × (e ≡ end.Fault f)
the_fault end.Done h = absurd (let z : false ≡ true = h in cc)
the_fault (end.Fault f) h = (f, refl)

pub faults : {O : Type 0} (close : Trace → O) (t : Trace) → is_fault t.ending ≡ true → IsSettled close t
faults close t h = let f = the_fault t.ending h in fault_settles close t f.0 f.1

-- ---- finds

module _ (d : Find) (n : ℕ) (env : Numbers) where
  some_or : {A : Type 0} (u v : Option A) → is_some v ≡ true → is_some (option_or u v) ≡ true
  some_or None v h = h
  some_or (Some a) v h = refl

  kept_some : {A : Type 0} (u v : Option A) → is_some u ≡ true → option_or u v ≡ u
  kept_some (Some a) v h = refl
  kept_some None v h = absurd (let z : false ≡ true = h in cc)

  pub find_settles : (t : Trace) → is_some (decision_of d n env t) ≡ true → IsSettled (find_answer d n env) t
  find_settles t h a b c = ap (decided_or (answer_of_none d)) (same b ∙ sym (same c))
    where
      decided : is_some (decision_of d n env (append a t)) ≡ true
      decided = ap is_some (decision_joined d n env a t) ∙ some_or (decision_of d n env a) (decision_of d n env t) h

      same : (b : Trace) → decision_of d n env (append (append a t) b) ≡ decision_of d n env (append a t)
      same b = decision_joined d n env (append a t) b
          ∙ kept_some (decision_of d n env (append a t)) (decision_of d n env b) decided
