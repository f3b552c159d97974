-- A route with a search before its first leg.
use Rattle.std.proofs.Common.{◌≡◌, ◌<◌, List, [], ◌∷◌, ◌++◌, length, take, drop, get_or, set, Option, Some}
use Rattle.std.proofs.Common.{None, IfSome, sym, ap, subst, ◌∙◌, arith}
use Rattle.lambda_values.specs.Earlier.{Numbers}
use Rattle.trace.specs.Trace.{Trace}
use Rattle.prefix_walks.proofs.Elements.{drop_none, take_none}
use Rattle.job_language.specs.Jobs.{AbstractPlainSource}
use Rattle.job_meaning.specs.Walks.{source_walk}
use Rattle.job_routes.specs.declared.leg.Leg.{Leg}
use Rattle.job_routes.specs.declared.outcome.Outcome.{Outcome}
use Rattle.job_routes.specs.declared.route.PlaceSide.{PlaceSide}
use Rattle.job_routes.specs.Legs.{given_answer, given_walk, leg_in, leg_outcome, legs_answer, legs_in, scanned}
use Rattle.job_routes.specs.Legs.{scanned_from, searched}

-- after a search a new leg gives over sources what the old one gives
abbrev pub Stands : Leg → Leg → Leg × PlaceSide → Type 0
Stands old new f = (env : Numbers) (ss : List AbstractPlainSource)
    → leg_outcome (leg_in new) env (searched f.1 (leg_in f.0) env (source_walk ss))
    ≡ leg_outcome (leg_in old) env (source_walk ss)

pub stands_there : (made found : Option (Leg × PlaceSide)) (old new : Leg) (f : Leg × PlaceSide) → made ≡ found
    → made ≡ Some f
    → IfSome found (Stands old new) → Stands old new f
stands_there made found old new f is there h =
    subst (λ (o : Option (Leg × PlaceSide)). IfSome o (Stands old new)) (sym is ∙ there) h

inserted_first : (xs ys : List Leg) (x : Leg) → ys ≡ take 0 xs ++ x ∷ drop 0 xs → ys ≡ x ∷ xs
inserted_first xs ys x e = e ∙ (λ i. take_none xs i ++ x ∷ drop_none xs i)

-- before the first of several legs
pub before_first : (legs made : List Leg) (last last' old new : Leg) (f : Leg × PlaceSide) → 0 < length legs
    → old ≡ get_or legs 0 old → made ≡ take 0 (set legs 0 new) ++ f.0 ∷ drop 0 (set legs 0 new) → last' ≡ last
    → Stands old new f → (env : Numbers) (ss : List AbstractPlainSource)
    → legs_answer (record { search = Some f.1; scans = legs_in made; last = leg_in last' }) env (source_walk ss)
    ≡ legs_answer (record { search = None; scans = legs_in legs; last = leg_in last }) env (source_walk ss)
before_first [] made last last' old new f some_there here put same h env ss = absurd (omega arith)
before_first (l ∷ legs) made last last' old new f some_there here put same h env ss =
    let t : Trace = source_walk ss in
    (λ i. given_answer (leg_outcome (leg_in (same i)) env
    (scanned_from (Some f.1) (legs_in (inserted_first (new ∷ legs) made f.0 put i)) env t)))
    ∙ ap (λ (o : Outcome). given_answer (leg_outcome (leg_in last) env (scanned (legs_in legs) env (given_walk o))))
    (h env ss ∙ ap (λ (k : Leg). leg_outcome (leg_in k) env t) here)

-- before the last one, if there is no other
pub before_last : (legs made : List Leg) (last last' : Leg) (f : Leg × PlaceSide) → length legs ≡ 0
    → made ≡ take 0 legs ++ f.0 ∷ drop 0 legs → Stands last last' f → (env : Numbers) (ss : List AbstractPlainSource)
    → legs_answer (record { search = Some f.1; scans = legs_in made; last = leg_in last' }) env (source_walk ss)
    ≡ legs_answer (record { search = None; scans = legs_in legs; last = leg_in last }) env (source_walk ss)
before_last [] made last last' f none put h env ss =
    (λ i. given_answer (leg_outcome (leg_in last') env
    (scanned_from (Some f.1) (legs_in (inserted_first [] made f.0 put i)) env (source_walk ss))))
    ∙ ap given_answer (h env ss)
before_last (l ∷ legs) made last last' f none put h env ss = absurd (omega (arith, none))
