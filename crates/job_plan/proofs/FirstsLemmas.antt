-- Parts of firsts that go on, merge, and are settled: by a fault, or since there are enough.
use Rattle.std.proofs.Common.{◌≡◌, ℕ, Bool, true, false, ◌||◌, [], Option, refl, sym, ap, ◌∙◌}
use Rattle.lambda_values.specs.Earlier.{Numbers}
use Rattle.trace.specs.Trace.{Trace, append}
use Rattle.early_stop.specs.Leaving.{IsSettled}
use Rattle.sort_ops.specs.Firsts.{distinct_walk}
use Rattle.sort_ops.specs.Parts.{AbstractFirsts, AreFirsts, done_after}
use Rattle.sort_ops.proofs.KeptFirstsLemmas.{full_settles, stays_faulted, stays_full, faulted_whole}
use Rattle.job_plan.specs.declared.part.Part.TheVariants as part
use Rattle.job_plan.specs.Parts.{EndsFor, is_fault}
use Rattle.job_routes.specs.Legs.{AbstractEnd, keeping_firsts}
use Rattle.job_plan.proofs.SettleLemmas.{faults, the_fault}

either : {P : Type 0} (a b : Bool) → (a || b) ≡ true → (a ≡ true → P) → (b ≡ true → P) → P
either true b h f g = f refl
either false b h f g = g h

pub firsts_settled : (m : Option ℕ) (p : AbstractFirsts) (a b : Trace) → (is_fault p.kept.ending || p.full) ≡ true
    → AreFirsts m p a → AreFirsts m p (append a b)
firsts_settled m p a b h are = either (is_fault p.kept.ending) p.full h
    (λ k. let f = the_fault p.kept.ending k in stays_faulted m p a b f.0 f.1 are)
    (λ k. stays_full m p a b k are)

pub firsts_settle : (m : Option ℕ) (p : AbstractFirsts) (t : Trace) → (is_fault p.kept.ending || p.full) ≡ true
    → AreFirsts m p t → IsSettled (λ u. done_after m (distinct_walk [] u)) t
firsts_settle m p t h are = either (is_fault p.kept.ending) p.full h
    (λ k. let f = the_fault p.kept.ending k in
    faults (λ u. done_after m (distinct_walk [] u)) t (ap is_fault (faulted_whole m p t f.0 f.1 are)))
    (λ k a b c. full_settles m p t k are a b ∙ sym (full_settles m p t k are a c))

-- a part that goes on with a walk, and two parts side by side
pub firsts_go_on : (p q : AbstractFirsts) (u : Trace)
    → ((m : Option ℕ) (t : Trace) → AreFirsts m p t → AreFirsts m q (append t u))
    → (e : AbstractEnd) (n : ℕ) (env : Numbers) (t : Trace) → EndsFor e n env (part.Distinct p) t
    → EndsFor e n env (part.Distinct q) (append t u)
firsts_go_on p q u goes (keeping_firsts m) n env t s = goes m t s
firsts_go_on p q u goes e n env t s = s

pub firsts_merge : (p q r : AbstractFirsts)
    → ((m : Option ℕ) (t u : Trace) → AreFirsts m p t → AreFirsts m q u → AreFirsts m r (append t u))
    → (e : AbstractEnd) (n : ℕ) (env : Numbers) (a b : Trace) → EndsFor e n env (part.Distinct p) a
    → EndsFor e n env (part.Distinct q) b → EndsFor e n env (part.Distinct r) (append a b)
firsts_merge p q r merges (keeping_firsts m) n env a b s t = merges m a b s t
firsts_merge p q r merges e n env a b s t = s
