-- The names of earlier jobs, and their places.
use Rattle.std.proofs.Common.{◌≡◌, ℕ, suc, ◌+◌, Bool, true, false, not, List, [], ◌∷◌, ◌++◌, length, Option, Some, None}
use Rattle.std.proofs.Common.{refl, ap, ◌∙◌, arith}
use Rattle.std.specs.Prelude.{if◌then◌else◌, nat_lt, nat_eq, position}
use Rattle.std.specs.List.{position_or_len}
use Rattle.std.specs.Cmp.Lexicographic.{pointwise}
use Rattle.job_plan.specs.declared.plan.JobPlan.{JobPlan}
use Rattle.job_meaning.specs.Names.{one_later, place_of}
use Rattle.job_plan.specs.Plans.{plan_names}

-- the place at which a search ends
abbrev there : ℕ → ℕ → Option ℕ
there n l = if nat_lt n l then Some n else None

later : (b : Bool) (n m : ℕ) → m ≡ suc n → (if b then Some m else None) ≡ one_later (if b then Some n else None)
later true n m e = ap (λ (k : ℕ). Some k) e
later false n m e = refl

found_there : (b : Bool) (n l : ℕ) → there (if not b then 1 + n else 0) (suc l)
    ≡ (if b then Some 0 else one_later (there n l))
found_there true n l = ap (λ (b : Bool). if b then Some 0 else None)
    (let e : nat_lt 0 (suc l) ≡ true = grind arith in e)
found_there false n l =
    ap (λ (b : Bool). if b then Some (1 + n) else None) (let e : nat_lt (1 + n) (suc l) ≡ nat_lt n l = grind arith in e)
    ∙ later (nat_lt n l) n (1 + n) (let e : 1 + n ≡ suc n = omega arith in e)

pub placed_at : (js : List JobPlan) (name : List ℕ)
    → position (λ (j : JobPlan). pointwise nat_eq j.name name) js ≡ place_of (plan_names js) name
placed_at [] name = refl
placed_at (j ∷ js) name =
    let same = pointwise nat_eq j.name name in
    found_there same (position_or_len (λ (k : JobPlan). pointwise nat_eq k.name name) js) (length js)
    ∙ ap (λ (o : Option ℕ). if same then Some 0 else one_later o) (placed_at js name)

pub plan_names_more : (js : List JobPlan) (j : JobPlan) → plan_names (js ++ j ∷ []) ≡ plan_names js ++ j.name ∷ []
plan_names_more [] j = refl
plan_names_more (k ∷ js) j = ap (λ (names : List (List ℕ)). k.name ∷ names) (plan_names_more js j)
