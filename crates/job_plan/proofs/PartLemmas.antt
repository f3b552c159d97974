-- What is asked of each end of a segment: parts of no item, of one more item, of pieces side by side; what settles
-- them, and what they give.
use Rattle.std.proofs.Common.{◌≡◌, ℕ, zero, suc, ◌+◌, ◌-◌, ◌≤◌, ℤ, pos, Bool, true, false, if◌then◌else◌, is_some, List}
use Rattle.std.proofs.Common.{[], ◌∷◌, ◌++◌, length, take, map as each_of, Option, Some, Result, Ok, Err, OnOk, refl}
use Rattle.std.proofs.Common.{sym, ap, subst, ◌∙◌, append_assoc, arith}
use Rattle.lambda_values.specs.Earlier.{Numbers}
use Rattle.lambda_values.specs.declared.item.Item.{Item}
use Rattle.trace.specs.declared.item.Fault.{Fault}
use Rattle.trace.specs.declared.item.End.{End}
use Rattle.trace.specs.declared.item.End.TheVariants as end
use Rattle.trace.specs.Trace.{Trace, trace, nothing, then_on, append}
use Rattle.trace.proofs.JoinLemmas.{append_faulted, pipe_append, pipe_ended}
use Rattle.early_stop.specs.Decisive.{Decides}
use Rattle.early_stop.specs.Leaving.{IsSettled, IsSettledAfter}
use Rattle.early_stop.proofs.Settling.{enough_decides}
use Rattle.reduce_ops.specs.declared.op.Op.{Op}
use Rattle.reduce_ops.specs.declared.partial.Partial.{Partial}
use Rattle.reduce_ops.specs.ExactSums.{exact_sum as exactly_summed}
use Rattle.reduce_ops.specs.Folds.{ones, unless_faulted}
use Rattle.reduce_ops.specs.Parts.{StandsFor as FoldStands}
use Rattle.reduce_ops.proofs.SettledSums.{first_settles as first_sum_settles, sum_settled, sum_settles}
use Rattle.sort_ops.specs.Parts.{AbstractLeast, done_after, least_of}
use Rattle.sort_ops.specs.Runs.{with_places}
use Rattle.find_ops.specs.Finds.{find_answer}
use Rattle.find_ops.proofs.DecisionLemmas.{settled as find_settled}
use Rattle.job_plan.specs.Arrays.{AbstractArray, array, array_of, values_then, array_append}
use Rattle.job_plan.proofs.KeptLemmas.{with_ending}
use Rattle.job_plan.specs.Parts.{IsFold, EndsFor, StandsEnough, StandsFor, is_running, is_settled, is_fault, may_search}
use Rattle.job_plan.specs.Parts.{settles}
use Rattle.job_plan.specs.Plans.{plan_in, plans_in, AbstractPlan}
use Rattle.prefix_walks.specs.Scans.{AbstractScan, scan, scan_append}
use Rattle.job_meaning.specs.declared.answer.Answer.{Answer}
use Rattle.job_meaning.specs.declared.answer.Answer.TheVariants as answer
use Rattle.job_plan.specs.declared.fold_part.FoldPart.{FoldPart}
use Rattle.job_plan.specs.declared.part.Part.{Part}
use Rattle.job_plan.specs.declared.part.Part.TheVariants as part
use Rattle.job_routes.specs.declared.outcome.Outcome.TheVariants as outcome
use Rattle.job_plan.specs.declared.plan.JobPlan.{JobPlan}
use Rattle.prefix_walks.specs.Batches.{counted_as}
use Rattle.job_routes.specs.Legs.{AbstractEnd, folding, finding, collecting, exactly, scanning, sorting, keeping_firsts}
use Rattle.job_routes.specs.Legs.{AbstractSegment, ended, last_stage, outcome_of, walk_of}
use Rattle.prefix_walks.specs.Pieces.{piece_of}
use Rattle.job_meaning.specs.Walks.{exact_answer, found_answer, unless_fault}
use Rattle.sort_ops.specs.Firsts.{distinct_walk}
use Rattle.job_plan.proofs.FirstsLemmas.{firsts_settle, firsts_settled}
use Rattle.job_plan.proofs.SettleLemmas.{faults, find_settles, settles_on}

-- ---- folds

ones_joined : (xs ys : List Item) → ones (xs ++ ys) ≡ ones xs ++ ones ys
ones_joined [] ys = refl
ones_joined (x ∷ xs) ys = ap (λ (zs : List Item). record { origin = x.origin; value = pos 1 } ∷ zs) (ones_joined xs ys)

counted_joined : (c : Bool) (xs ys : List Item) → counted_as c (xs ++ ys) ≡ counted_as c xs ++ counted_as c ys
counted_joined false xs ys = refl
counted_joined true xs ys = ones_joined xs ys

-- a walk as a fold takes it
abbrev pub as_counted : Bool → Trace → Trace
as_counted c t = trace (counted_as c t.items) t.ending

counted_on : (c : Bool) (xs : List Item) (e : End) (u : Trace)
    → as_counted c (then_on xs e u) ≡ then_on (counted_as c xs) e (as_counted c u)
counted_on c xs end.Done u = ap (λ (zs : List Item). trace zs u.ending) (counted_joined c xs u.items)
counted_on c xs (end.Fault f) u = refl

pub counted_append : (c : Bool) (t u : Trace) → as_counted c (append t u) ≡ append (as_counted c t) (as_counted c u)
counted_append c t u = counted_on c t.items t.ending u

-- a fold goes on with another walk
pub fold_goes_on : (e : AbstractEnd) (n : ℕ) (env : Numbers) (p : FoldPart) (x : Partial) (t u : Trace)
    → x.op ≡ p.partial.op
    → (FoldStands p.partial (as_counted p.counts t)
    → FoldStands x (append (as_counted p.counts t) (as_counted p.counts u)))
    → EndsFor e n env (part.Fold p) t → EndsFor e n env
    (part.Fold (record { partial = x; start = p.start; counts = p.counts })) (append t u)
fold_goes_on (folding f a c) n env p x t u op later s = record {
  start = s.start;
  op = op ∙ s.op;
  counting = s.counting;
  stands = subst (λ (w : Trace). FoldStands x w) (sym (counted_append c t u))
      (subst (λ (k : Bool). FoldStands p.partial (as_counted k t)
      → FoldStands x (append (as_counted k t) (as_counted k u))) s.counting later s.stands);
}
fold_goes_on e n env p x t u op later s = s

-- the folds of pieces side by side
pub folds_merge : (e : AbstractEnd) (n : ℕ) (env : Numbers) (p q : FoldPart) (x : Partial) (t u : Trace)
    → x.op ≡ p.partial.op
    → (q.partial.op ≡ p.partial.op → FoldStands p.partial (as_counted p.counts t)
    → FoldStands q.partial (as_counted p.counts u)
    → FoldStands x (append (as_counted p.counts t) (as_counted p.counts u)))
    → EndsFor e n env (part.Fold p) t → EndsFor e n env (part.Fold q) u
    → EndsFor e n env (part.Fold (record { partial = x; start = p.start; counts = p.counts })) (append t u)
folds_merge (folding f a c) n env p q x t u op merged s o =
    fold_goes_on (folding f a c) n env p x t u op
    (λ h. merged (o.op ∙ sym s.op) h
    (subst (λ (k : Bool). FoldStands q.partial (as_counted k u)) (sym s.counting) o.stands)) s
folds_merge e n env p q x t u op merged s o = s

none_counted : (c : Bool) → counted_as c [] ≡ []
none_counted false = refl
none_counted true = refl

-- the fold of no item
pub fold_none : (f : Op) (a : Option ℤ) (c : Bool) (p : FoldPart) → p.start ≡ a → p.partial.op ≡ f → p.counts ≡ c
    → FoldStands p.partial nothing → IsFold f a c p nothing
fold_none f a c p start op counting s = record {
  start = start;
  op = op;
  counting = counting;
  stands = subst (λ (xs : List Item). FoldStands p.partial (trace xs end.Done)) (sym (none_counted c)) s;
}

-- the end of a walk, as a fold takes it
pub end_counted : (c : Bool) (e : End) → as_counted c (trace [] e) ≡ trace [] e
end_counted false e = refl
end_counted true e = refl

-- one item, as a fold takes it
pub one_counted : (c : Bool) (x y : Item) → y ∷ [] ≡ counted_as c (x ∷ [])
    → trace (y ∷ []) end.Done ≡ as_counted c (trace (x ∷ []) end.Done)
one_counted c x y e = ap (λ (zs : List Item). trace zs end.Done) e

-- what a fold answers
pub number_of : (e : End) (v n : ℤ) → Ok n ≡ unless_faulted e v → answer.Number n ≡ unless_fault e (answer.Number v)
number_of end.Done v n h = let k : n ≡ v = cc in ap answer.Number k
number_of (end.Fault f) v n h = cc

pub number_fault : (e : End) (v : ℤ) (f : Fault) (a : Answer) → Err f ≡ unless_faulted e v
    → answer.Fault f ≡ unless_fault e a
number_fault end.Done v f a h = cc
number_fault (end.Fault g) v f a h = let k : f ≡ g = cc in ap answer.Fault k

pub optional_of : (e : End) (v n : Option ℤ) → Ok n ≡ unless_faulted e v
    → answer.Optional n ≡ unless_fault e (answer.Optional v)
optional_of end.Done v n h = let k : n ≡ v = cc in ap answer.Optional k
optional_of (end.Fault f) v n h = cc

pub optional_fault : (e : End) (v : Option ℤ) (f : Fault) (a : Answer) → Err f ≡ unless_faulted e v
    → answer.Fault f ≡ unless_fault e a
optional_fault end.Done v f a h = cc
optional_fault (end.Fault g) v f a h = let k : f ≡ g = cc in ap answer.Fault k

-- ---- what settles a piece

the_fault : (e : End) → is_fault e ≡ true → (f : Fault) × (e ≡ end.Fault f)
the_fault end.Done h = absurd (let z : false ≡ true = h in cc)
the_fault (end.Fault f) h = (f, refl)

faulted_stays : (a b : Trace) → is_fault a.ending ≡ true → append a b ≡ a
faulted_stays a b h = let f = the_fault a.ending h in append_faulted a b f.0 f.1

-- after what settles a piece, nothing matters
pub settled : (e : AbstractEnd) (n : ℕ) (env : Numbers) (p : Part) (a b : Trace) → is_settled p ≡ true
    → EndsFor e n env p a → EndsFor e n env p (append a b)
settled (folding f i c) n env (part.Fold p) a b h s =
    subst (λ (t : Trace). IsFold f i c p t) (sym (faulted_stays a b (ap is_fault (sym s.stands.ending) ∙ h))) s
settled (finding d) n env (part.Find p) a b h s = find_settled d n env p a b h s
settled collecting n env (part.Array p) a b h s =
    s ∙ ap array_of (sym (faulted_stays a b (ap (λ (k : AbstractArray). is_fault k.ending) (sym s) ∙ h)))
settled (scanning f r) n env (part.Prefix p) a b h s =
    s ∙ ap (scan f r n) (sym (faulted_stays a b (ap (λ (k : AbstractScan). is_fault k.walk.ending) (sym s) ∙ h)))
settled exactly n env (part.Exact p) a b h s = sum_settled n p a b h s
settled (sorting m places) n env (part.Sorted p) a b h s =
    s ∙ ap (λ (t : Trace). least_of m (with_places places t))
    (sym (faulted_stays a b (ap is_fault (sym (with_ending places a))
    ∙ ap (λ (k : AbstractLeast). is_fault k.kept.ending) (sym s) ∙ h)))
settled (keeping_firsts m) n env (part.Distinct p) a b h s = firsts_settled m p a b h s
settled e n env p a b h s = s

-- ---- arrays

values_joined : (xs ys : List Item) → each_of (λ (x : Item). x.value) (xs ++ ys)
    ≡ each_of (λ (x : Item). x.value) xs ++ each_of (λ (x : Item). x.value) ys
values_joined [] ys = refl
values_joined (x ∷ xs) ys = ap (λ (vs : List ℤ). x.value ∷ vs) (values_joined xs ys)

array_on : (xs : List Item) (e : End) (u : Trace)
    → array_of (then_on xs e u) ≡ values_then (each_of (λ (x : Item). x.value) xs) e (array_of u)
array_on xs end.Done u = ap (λ (vs : List ℤ). array vs u.ending) (values_joined xs u.items)
array_on xs (end.Fault f) u = refl

-- the values of two walks
pub array_joined : (t u : Trace) → array_of (append t u) ≡ array_append (array_of t) (array_of u)
array_joined t u = array_on t.items t.ending u

-- ---- two parts

-- of a segment, from what holds of its end
pub on_walks : (s : AbstractSegment) (env : Numbers) (p q r : Part) (a b : Trace)
    → (EndsFor s.ending (last_stage s) env p (walk_of s env a) → EndsFor s.ending (last_stage s) env q (walk_of s env b)
    → EndsFor s.ending (last_stage s) env r (append (walk_of s env a) (walk_of s env b)))
    → StandsFor s env p a → StandsFor s env q b → StandsFor s env r (append a b)
on_walks s env p q r a b merged x y = subst (λ (t : Trace). EndsFor s.ending (last_stage s) env r t)
    (sym (pipe_append s.first s.stages env a b)) (merged x y)

-- of one kind side by side
pub arrays_merge : (e : AbstractEnd) (n : ℕ) (env : Numbers) (a b : Trace) (p q r : AbstractArray)
    → r ≡ array_append p q
    → EndsFor e n env (part.Array p) a → EndsFor e n env (part.Array q) b → EndsFor e n env (part.Array r) (append a b)
arrays_merge collecting n env a b p q r is s t = is ∙ (λ i. array_append (s i) (t i)) ∙ sym (array_joined a b)
arrays_merge e n env a b p q r is s t = s

-- values that are added after the others
pub array_goes_on : (e : AbstractEnd) (n : ℕ) (env : Numbers) (t : Trace) (xs : List Item) (vs : List ℤ)
    (p r : AbstractArray) → each_of (λ (x : Item). x.value) xs ≡ vs → p.ending ≡ end.Done
    → r ≡ array (p.values ++ vs) end.Done → EndsFor e n env (part.Array p) t
    → EndsFor e n env (part.Array r) (append t (trace xs end.Done))
array_goes_on collecting n env t xs vs p r values done is h =
    is ∙ sym (ap (λ (k : End). values_then p.values k (array vs end.Done)) done)
    ∙ (λ i. array_append (h i) (array (sym values i) end.Done))
    ∙ sym (array_joined t (trace xs end.Done))
array_goes_on e n env t xs vs p r values done is h = h

pub prefixes_merge : (e : AbstractEnd) (n : ℕ) (env : Numbers) (a b : Trace) (p q r : AbstractScan)
    → (q.op ≡ p.op → r ≡ scan_append p q.walk)
    → EndsFor e n env (part.Prefix p) a → EndsFor e n env (part.Prefix q) b
    → EndsFor e n env (part.Prefix r) (append a b)
prefixes_merge (scanning f g) n env a b p q r is s t =
    is (ap (λ (x : AbstractScan). x.op) t ∙ sym (ap (λ (x : AbstractScan). x.op) s))
    ∙ (λ i. scan_append (s i) (t i).walk)
prefixes_merge e n env a b p q r is s t = s

-- the part of no item
pub none_stands : (s : AbstractSegment) (env : Numbers) (p : Part) → EndsFor s.ending (last_stage s) env p nothing
    → StandsFor s env p nothing
none_stands s env p = subst (EndsFor s.ending (last_stage s) env p) (sym (pipe_ended s.first s.stages env end.Done))

plans_snoc : (js : List JobPlan) (j : JobPlan) → plans_in (js ++ j ∷ []) ≡ plans_in js ++ plan_in j ∷ []
plans_snoc [] j = refl
plans_snoc (k ∷ js) j = ap (λ (ks : List AbstractPlan). plan_in k ∷ ks) (plans_snoc js j)

pub plans_more : (new js : List JobPlan) (j : JobPlan) (rest : List AbstractPlan) → new ≡ js ++ j ∷ []
    → plans_in new ++ rest ≡ plans_in js ++ plan_in j ∷ rest
plans_more new js j rest e = ap (λ ks. plans_in ks ++ rest) e ∙ ap (λ ks. ks ++ rest) (plans_snoc js j)
    ∙ append_assoc (plans_in js) (plan_in j ∷ []) rest

-- what an array answers
pub array_ends : (e : AbstractEnd) (n : ℕ) (env : Numbers) (c : AbstractArray) (w : Trace) (a : Answer)
    → EndsFor e n env (part.Array c) w → a ≡ unless_fault c.ending (answer.Array c.values)
    → outcome.Answer a ≡ ended e n env w
array_ends collecting n env c w a s is =
    ap outcome.Answer (is ∙ ap (λ (k : AbstractArray). unless_fault k.ending (answer.Array k.values)) s)
array_ends e n env c w a s is = absurd s

-- ---- exact sums

-- parts of other ends never leave it open what a segment gives
pub other_ends : (e : AbstractEnd) (n : ℕ) (env : Numbers) (p : Part) (t : Trace) → (e ≡ exactly → ⊥)
    → EndsFor e n env p t → may_search p ≡ false
other_ends exactly n env (part.Exact p) t other s = absurd (other refl)
other_ends e n env (part.Exact p) t other s = absurd s
other_ends e n env p t other s = refl

-- what follows from a fact follows where the answer is Ok
pub on_ok_map : {A E P Q : Type 0} (r : Result A E) → (P → Q) → OnOk r P → OnOk r Q
on_ok_map (Ok a) f p = f p
on_ok_map (Err e) f p = p

-- ---- what settles a segment

pub part_settles : (e : AbstractEnd) (n : ℕ) (env : Numbers) (p : Part) (t : Trace) → is_settled p ≡ true
    → is_running p ≡ false → EndsFor e n env p t → IsSettled (ended e n env) t
part_settles (folding f i c) n env (part.Fold p) t h k s =
    faults (ended (folding f i c) n env) t (sym (ap is_fault s.stands.ending) ∙ h)
part_settles (finding d) n env (part.Find p) t h k s =
    settles_on (λ r. outcome.Answer (found_answer r)) (find_answer d n env) t
    (find_settles d n env t (sym (ap is_some s.decision) ∙ h))
part_settles collecting n env (part.Array p) t h k s =
    faults (ended collecting n env) t (sym (ap (λ (k : AbstractArray). is_fault k.ending) s) ∙ h)
part_settles (scanning f r) n env (part.Prefix p) t h k s =
    faults (ended (scanning f r) n env) t (sym (ap (λ (k : AbstractScan). is_fault k.walk.ending) s) ∙ h)
part_settles (sorting m places) n env (part.Sorted p) t h k s =
    faults (ended (sorting m places) n env) t
    (ap is_fault (sym (with_ending places t)) ∙ sym (ap (λ (k : AbstractLeast). is_fault k.kept.ending) s) ∙ h)
part_settles (keeping_firsts m) n env (part.Distinct p) t h k s =
    settles_on outcome.Source (λ u. done_after m (distinct_walk [] u)) t (firsts_settle m p t h s)
part_settles exactly n env (part.Exact p) t h k s =
    settles_on (λ r. outcome.Answer (exact_answer r)) (exactly_summed n) t (sum_settles n p t h k s)
part_settles e n env p t h k s = absurd s

pub first_settles : (e : AbstractEnd) (n : ℕ) (env : Numbers) (p : Part) (t : Trace) → is_settled p ≡ true
    → is_running p ≡ true → EndsFor e n env p t → (b c : Trace)
    → ended e n env (append t b) ≡ ended e n env (append t c)
first_settles exactly n env (part.Exact p) t h k s b c =
    ap (λ r. outcome.Answer (exact_answer r)) (first_sum_settles n p t h k s b c)
first_settles e n env (part.Exact p) t h k s b c = absurd s
first_settles e n env p t h k s b c = absurd (let z : false ≡ true = k in cc)

-- of a piece that begins at the first item, or whose part is no sum from there on
settles_after : (s : AbstractSegment) (env : Numbers) (p : Part) (w t : Trace) (from : ℕ) → is_settled p ≡ true
    → (is_running p ≡ true → from ≡ 0) → StandsFor s env p t
    → IsSettledAfter (ended s.ending (last_stage s) env) (walk_of s env (trace (take from w.items) end.Done))
    (walk_of s env t)
settles_after s env p w t from is first stands = by (is_running p) refl
  where
    Settled : Trace → Trace → Type 0
    Settled a u = IsSettledAfter (ended s.ending (last_stage s) env) a u

    by : (b : Bool) → is_running p ≡ b → Settled (walk_of s env (trace (take from w.items) end.Done)) (walk_of s env t)
    by false k = part_settles s.ending (last_stage s) env p (walk_of s env t) is k stands
        (walk_of s env (trace (take from w.items) end.Done))
    by true k =
        subst (λ (n : ℕ). Settled (walk_of s env (trace (take n w.items) end.Done)) (walk_of s env t)) (sym (first k))
        (subst (λ (u : Trace). (b c : Trace)
        → ended s.ending (last_stage s) env (append u b) ≡ ended s.ending (last_stage s) env (append u c))
        (pipe_append s.first s.stages env nothing t)
        (first_settles s.ending (last_stage s) env p (walk_of s env t) is k stands))

-- the end of a piece decides what the segment gives if its part settles it, also if some of the piece was left unwalked
pub settled_decides : (s : AbstractSegment) (env : Numbers) (p : Part) (w : Trace) (from to : ℕ) → from ≤ to
    → to ≤ length w.items → is_settled p ≡ true → (is_running p ≡ true → from ≡ 0)
    → StandsEnough (Decides (outcome_of s env) w) s env p from (piece_of from (Some to) w)
    → Decides (outcome_of s env) w to
settled_decides s env p w from to l h is first (t, enough, stands) =
    let e : from + (to - from) ≡ to = omega arith in
    subst (Decides (outcome_of s env) w) e
    (enough_decides (ended s.ending (last_stage s) env) (walk_of s env) (pipe_append s.first s.stages env) w from
    (to - from) t (omega arith) enough (settles_after s env p w t from is first stands))

-- ---- settled at a position

pub settles_first : (n : ℕ) (p : Part) → n ≡ 0 → settles n p ≡ is_settled p
settles_first zero p h = refl
settles_first (suc k) p h = absurd (omega arith)

pub settles_later : (n : ℕ) (p : Part) → (n ≡ 0 → ⊥) → settles n p ≡ (if is_running p then false else is_settled p)
settles_later zero p h = absurd (h refl)
settles_later (suc k) p h = refl

-- what a part that settles is
pub settled_there : (from : ℕ) (p : Part) → settles from p ≡ true
    → (is_settled p ≡ true) × (is_running p ≡ true → from ≡ 0)
settled_there zero p h = (h, λ k. refl)
settled_there (suc n) p h = by (is_running p) h
  where
    by : (b : Bool) → (if b then false else is_settled p) ≡ true → (is_settled p ≡ true) × (b ≡ true → suc n ≡ 0)
    by true h = absurd (let z : false ≡ true = h in cc)
    by false h = (h, λ k. absurd (let z : false ≡ true = k in cc))
