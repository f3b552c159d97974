-- A piece that ends in a fault: what the whole leg gives, and what the job answers.
use Rattle.std.proofs.Common.{◌≡◌, ◌≢◌, ℕ, ◌+◌, ◌-◌, ◌≤◌, ◌==◌, Bool, true, false, List, length, drop, Option, Some}
use Rattle.std.proofs.Common.{None, IfSome, if◌then◌else◌, ap, sym, subst, refl, ◌∙◌, arith}
use Rattle.std.proofs.lemmas.List.{length-drop, length-take}
use Rattle.lambda_values.specs.Earlier.{Numbers}
use Rattle.trace.specs.declared.item.Fault.{Fault}
use Rattle.lambda_values.specs.declared.item.Item.{Item}
use Rattle.trace.specs.declared.item.End.{End}
use Rattle.trace.specs.declared.item.End.TheVariants as end
use Rattle.trace.specs.Trace.{Trace, append, nothing, then_on}
use Rattle.trace.proofs.JoinLemmas.{append_faulted, append_nothing, pipe_append}
use Rattle.early_stop.specs.Decisive.{Decides}
use Rattle.early_stop.specs.Leaving.{IsEnough}
use Rattle.early_stop.proofs.Leaving.{enough_gives, enough_joined, enough_walked}
use Rattle.job_meaning.specs.declared.answer.Answer.{Answer}
use Rattle.job_meaning.specs.declared.answer.Answer.TheVariants as answer
use Rattle.job_routes.specs.declared.outcome.Outcome.TheVariants as outcome
use Rattle.job_plan.specs.declared.fold_part.FoldPart.{FoldPart}
use Rattle.job_plan.specs.declared.part.Part.{Part}
use Rattle.job_plan.specs.declared.part.Part.TheVariants as part
use Rattle.job_plan.specs.Parts.{EndsFor, end_fault, fold_fault}
use Rattle.job_routes.specs.Legs.{AbstractEnd, folding, finding, collecting, exactly, scanning, sorting, keeping_firsts}
use Rattle.job_routes.specs.Legs.{AbstractSegment, ended, folded, given_answer, last_stage, leg_at, legs_answer}
use Rattle.job_routes.specs.Legs.{walk_of}
use Rattle.job_plan.specs.Plans.{AbstractPlan}
use Rattle.prefix_walks.specs.Pieces.{piece_of}
use Rattle.job_meaning.specs.FileAnswers.{first_unusable}
use Rattle.prefix_walks.specs.Batches.{counted_as}
use Rattle.job_meaning.specs.Walks.{instead_of_fault, unless_fault}
use Rattle.prefix_walks.proofs.ScanLemmas.{pieces_joined, whole_piece}
use Rattle.job_runner.specs.Cuts.{HasFault}
use Rattle.job_table.specs.PlanLegs.{AbstractChain, IsCaught, PartStands, answer_of, chain_at, named_at, run_of}
use Rattle.job_table.specs.PlanLegs.{gives_at, piece_between, plan_at, size_at, last_leg, walk_at}
use Rattle.job_table.proofs.PlanParts.{answer_there, size_within}
use Rattle.job_table.proofs.PlannedAnswers.{legs_there, walked_answer}

-- the fold that ended in a fault
pub fold_of : (p : Part) (f : Fault) → fold_fault p ≡ Some f
    → (fold : FoldPart) × (p ≡ part.Fold fold) × (fold.partial.end ≡ end.Fault f)
fold_of (part.Fold p) f h = (p, refl, ended_so p.partial.end f h)
  where
    ended_so : (e : End) (f : Fault) → end_fault e ≡ Some f → e ≡ end.Fault f
    ended_so end.Done f h = absurd (let z : None ≡ Some f = h in cc)
    ended_so (end.Fault g) f h = (let z : Some g ≡ Some f = h in let k : g ≡ f = cc in ap end.Fault k)
fold_of (part.Find p) f h = absurd (let z : None ≡ Some f = h in cc)
fold_of (part.Array p) f h = absurd (let z : None ≡ Some f = h in cc)
fold_of (part.Prefix p) f h = absurd (let z : None ≡ Some f = h in cc)
fold_of (part.Exact p) f h = absurd (let z : None ≡ Some f = h in cc)
fold_of (part.Sorted p) f h = absurd (let z : None ≡ Some f = h in cc)
fold_of (part.Distinct p) f h = absurd (let z : None ≡ Some f = h in cc)

-- ---- a fold of a walk that ends in a fault

fold_gives : (e : AbstractEnd) (n : ℕ) (env : Numbers) (p : FoldPart) (t u : Trace) (f g : Fault)
    → EndsFor e n env (part.Fold p) t → u.ending ≡ end.Fault g → ended e n env u ≡ outcome.Answer (answer.Fault g)
fold_gives (folding op a c) n env p t u f g s h =
    ap (λ (e : End). outcome.Answer (unless_fault e (folded op a (counted_as c u.items)))) h
fold_gives (finding d) n env p t u f g s h = absurd s
fold_gives collecting n env p t u f g s h = absurd s
fold_gives exactly n env p t u f g s h = absurd s
fold_gives (scanning op r) n env p t u f g s h = absurd s
fold_gives (sorting m places) n env p t u f g s h = absurd s
fold_gives (keeping_firsts m) n env p t u f g s h = absurd s

fold_walk : (e : AbstractEnd) (n : ℕ) (env : Numbers) (p : FoldPart) (t : Trace) (f : Fault)
    → EndsFor e n env (part.Fold p) t → p.partial.end ≡ end.Fault f → t.ending ≡ end.Fault f
fold_walk (folding op a c) n env p t f s h = sym s.stands.ending ∙ h
fold_walk (finding d) n env p t f s h = absurd s
fold_walk collecting n env p t f s h = absurd s
fold_walk exactly n env p t f s h = absurd s
fold_walk (scanning op r) n env p t f s h = absurd s
fold_walk (sorting m places) n env p t f s h = absurd s
fold_walk (keeping_firsts m) n env p t f s h = absurd s

-- ---- a walk with a fault in its middle

faulted_after : (xs : List Item) (e : End) (b : Trace) (f : Fault) → b.ending ≡ end.Fault f
    → (g : Fault) × ((then_on xs e b).ending ≡ end.Fault g)
faulted_after xs end.Done b f h = (f, h)
faulted_after xs (end.Fault g) b f h = (g, refl)

faulted_inside : (s : AbstractSegment) (env : Numbers) (a t b : Trace) (f : Fault)
    → (walk_of s env t).ending ≡ end.Fault f
    → (g : Fault) × ((walk_of s env (append a (append t b))).ending ≡ end.Fault g)
faulted_inside s env a t b f h =
    let inner : walk_of s env (append t b) ≡ walk_of s env t =
    pipe_append s.first s.stages env t b ∙ append_faulted (walk_of s env t) (walk_of s env b) f h in
    let after = faulted_after (walk_of s env a).items (walk_of s env a).ending (walk_of s env (append t b)) f
    (ap (λ (u : Trace). u.ending) inner ∙ h) in
    (after.0, ap (λ (u : Trace). u.ending) (pipe_append s.first s.stages env a (append t b)) ∙ after.1)

-- what is right of a piece
abbrev right_of : (size to : ℕ) → Trace → Trace
right_of size to w = if to == size then nothing else piece_of to None w

right_joined : (w : Trace) (size from to : ℕ) → from ≤ to
    → append (piece_between size from to w) (right_of size to w) ≡ piece_of from None w
right_joined w size from to h = by (to == size)
  where
    by : (b : Bool) → append (piece_of from (if b then None else Some to) w) (if b then nothing else piece_of to None w)
        ≡ piece_of from None w
    by true = append_nothing (piece_of from None w)
    by false = pieces_joined w from to None h tt

left_long : (w : Trace) (m : ℕ) → m ≤ length w.items → 0 + length (piece_of 0 (Some m) w).items ≡ m
left_long w m h = let a = length-take (m - 0) (drop 0 w.items) in let d = length-drop 0 w.items in omega arith

-- a walk that describes all of it, if one describes a piece
whole_of : (decides : ℕ → Type 0) (w : Trace) (size from to : ℕ) (t : Trace) → from ≤ to → from ≤ length w.items
    → IsEnough decides from (piece_between size from to w) t
    → IsEnough decides 0 w (append (piece_of 0 (Some from) w) (append t (right_of size to w)))
whole_of decides w size from to t h low enough =
    let rest = right_of size to w in
    let left = piece_of 0 (Some from) w in
    let right : IsEnough decides from (piece_of from None w) (append t rest) =
    subst (λ (u : Trace). IsEnough decides from u (append t rest)) (right_joined w size from to h)
    (enough_joined decides from (piece_between size from to w) t rest rest enough
    (enough_walked decides (from + length (piece_between size from to w).items) rest)) in
    subst (λ (u : Trace). IsEnough decides 0 u (append left (append t rest)))
    (pieces_joined w 0 from None (omega arith) tt ∙ whole_piece w)
    (enough_joined decides 0 left left (piece_of from None w) (append t rest) (enough_walked decides 0 left)
    (subst (λ (n : ℕ). IsEnough decides n (piece_of from None w) (append t rest)) (sym (left_long w from low)) right))

-- so the leg gives a fault
pub leg_faults : (chain : AbstractChain) (leg from to : ℕ) (p : FoldPart) (f : Fault) → from ≤ to
    → to ≤ size_at chain leg → PartStands chain leg from to (part.Fold p) → p.partial.end ≡ end.Fault f
    → (g : Fault) × (gives_at chain leg (walk_at chain leg) ≡ outcome.Answer (answer.Fault g))
leg_faults chain leg from to p f h within (t, enough, is) faulted =
    let s = (leg_at leg chain.legs).last in
    let w = walk_at chain leg in
    let rest = right_of (size_at chain leg) to w in
    let left = piece_of 0 (Some from) w in
    let fits = size_within chain leg in
    let all = whole_of (Decides (gives_at chain leg) w) w (size_at chain leg) from to t h (omega arith) enough in
    let inside = faulted_inside s chain.numbers left t rest f
    (fold_walk s.ending (last_stage s) chain.numbers p (walk_of s chain.numbers t) f is faulted) in (
      inside.0,
      sym (enough_gives (gives_at chain leg) w (append left (append t rest)) all)
          ∙ fold_gives s.ending (last_stage s) chain.numbers p (walk_of s chain.numbers t)
          (walk_of s chain.numbers (append left (append t rest))) f inside.0 is inside.1,
    )

-- and the job answers what it gives in its place
pub caught_answer : (plans : List AbstractPlan) (job leg : ℕ) (f : Fault) (a : Answer)
    → (plan_at plans job).fallback ≡ Some a → HasFault (run_of plans) job leg f → a ≡ answer_of plans job
caught_answer plans job leg f a gives h =
    let chain = chain_at plans job in
    let fold = fold_of h.part f h.caught.fault in
    let faults = leg_faults chain leg h.from h.to fold.0 f h.piece.ordered h.piece.within
    (subst (PartStands chain leg h.from h.to) fold.1 h.stands) fold.2 in
    let answers : legs_answer chain.legs chain.numbers chain.source ≡ answer.Fault faults.0 =
    answer_there chain.numbers chain.legs chain.source
    ∙ ap (λ (k : ℕ). given_answer (gives_at chain k (walk_at chain k))) (sym h.caught.last)
    ∙ ap given_answer faults.1 in
    ap (λ (x : Answer). instead_of_fault (Some a) x) (sym answers)
    ∙ ap (λ (o : Option Answer). instead_of_fault o (legs_answer chain.legs chain.numbers chain.source)) (sym gives)
    ∙ walked_answer plans job h.piece.known h.caught.usable

pub nothing_caught : (plans : List AbstractPlan) (job leg : ℕ) (f : Fault) → (plan_at plans job).fallback ≡ None
    → HasFault (run_of plans) job leg f → ⊥
nothing_caught plans job leg f none h = let z : None ≡ Some h.caught.instead = sym none ∙ h.caught.gives in cc

pub some_of : {A : Type 0} (o : Option A) → (o ≡ None → ⊥) → (a : A) × (o ≡ Some a)
some_of None h = absurd (h refl)
some_of (Some a) h = (a, refl)

-- the fault of a part of a job that catches it
pub caught_there : (plans : List AbstractPlan) (job leg : ℕ) (p : AbstractPlan) (q : Part) (r : Option Fault)
    → first_unusable (named_at plans job) ≡ None → p ≡ plan_at plans job
    → p.fallback ≢ None → leg ≡ last_leg p.legs → r ≡ fold_fault q → IfSome r (λ f. IsCaught plans job leg q f)
caught_there plans job leg p q None usable same caught last h = tt
caught_there plans job leg p q (Some f) usable same caught last h =
    let b = some_of p.fallback caught in
    record {
      usable = usable;
      instead = b.0;
      gives = ap (λ (x : AbstractPlan). x.fallback) (sym same) ∙ b.1;
      last = last ∙ ap last_leg (sym (legs_there plans job p same));
      fault = sym h;
    }

-- a job with a fault that it catches gives an answer in its place, and so on
pub catches_it : (plans : List AbstractPlan) (job leg : ℕ) (q : Part) (f : Fault) (p : AbstractPlan)
    → p ≡ plan_at plans job → IsCaught plans job leg q f
    → (p.fallback ≢ None) × (leg ≡ last_leg p.legs)
catches_it plans job leg q f p same h = (
  λ e. (let z : None ≡ Some h.instead = sym e ∙ ap (λ (x : AbstractPlan). x.fallback) same ∙ h.gives in cc),
  h.last ∙ ap last_leg (legs_there plans job p same),
)
