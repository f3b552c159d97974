-- Routes that ask less of their last leg.
use Rattle.std.proofs.Common.{◌≡◌, ℕ, zero, suc, ◌+◌, ◌-◌, ◌<◌, nat_lt, if◌then◌else◌, Bool, true, false, List, [], ◌∷◌}
use Rattle.std.proofs.Common.{length, length-drop, take, drop, get_or, set, Option, Some, None, IfSome, refl, sym, ap}
use Rattle.std.proofs.Common.{◌∙◌, arith}
use Rattle.std.proofs.lemmas.Bool.{ltb-true, lt-ltb}
use Rattle.std.proofs.lemmas.List.{drop-take}
use Rattle.lambda_values.specs.Earlier.{Numbers}
use Rattle.lambda_values.specs.declared.item.Item.{Item}
use Rattle.trace.specs.declared.item.End.{End}
use Rattle.trace.specs.declared.item.End.TheVariants as end
use Rattle.trace.specs.Stages.{stages_of}
use Rattle.trace.specs.Trace.{Trace, trace}
use Rattle.slice_ops.specs.Slices.{limit, limited, sliced}
use Rattle.sort_ops.specs.Parts.{done_after}
use Rattle.find_ops.specs.Finds.{first}
use Rattle.job_meaning.specs.Walks.{source_walk}
use Rattle.job_routes.specs.declared.building.Begun.{Begun}
use Rattle.job_routes.specs.declared.leg.Leg.{Leg}
use Rattle.job_routes.specs.declared.numbered_stages.NumberedStages.{NumberedStages}
use Rattle.job_language.specs.Jobs.{AbstractPlainSource}
use Rattle.batch_eval.specs.Faultless.{AreMaps}
use Rattle.job_routes.specs.Building.{HasNext, begun_walk, walk_over}
use Rattle.job_routes.specs.Legs.{AbstractEnd, ended, finding, given_walk, leg_in, leg_outcome, legs_in, linked}
use Rattle.job_routes.specs.Legs.{links_in, number_after, scanned, walk_through, windowed}
use Rattle.job_routes.proofs.MapLemmas.{limit_before_maps, limited_end, limited_next, limited_none}

-- the last of several legs does something more
pub last_does : (does : Trace → Trace) (ls : List Leg) (i : ℕ) (x y : Leg) → suc i ≡ length ls → x ≡ get_or ls i x
    → ((env : Numbers) (t : Trace) → given_walk (leg_outcome (leg_in y) env t)
    ≡ does (given_walk (leg_outcome (leg_in x) env t)))
    → (env : Numbers) (t : Trace) → scanned (legs_in (set ls i y)) env t ≡ does (scanned (legs_in ls) env t)
last_does does [] i x y last here gives env t = absurd (omega (arith, last))
last_does does (z ∷ []) zero x y last here gives env t =
    gives env t ∙ ap (λ (l : Leg). does (given_walk (leg_outcome (leg_in l) env t))) here
last_does does (z ∷ []) (suc i) x y last here gives env t = absurd (omega (arith, last))
last_does does (z ∷ w ∷ ls) zero x y last here gives env t = absurd (omega (arith, last))
last_does does (z ∷ w ∷ ls) (suc i) x y last here gives env t =
    last_does does (w ∷ ls) i x y (omega (arith, last)) here gives env (given_walk (leg_outcome (leg_in z) env t))

-- a `limit` of `count` items after the first `from` ones needs `from + count` items
limit_given : (from count : ℕ) (d : Trace) → 0 < count
    → limited count (windowed from None d) ≡ windowed from None (done_after (Some (from + count)) d)
limit_given from count d some_there = by (nat_lt (length d.items) (from + count)) refl
  where
    long : length (drop from d.items) ≡ length d.items - from
    long = length-drop from d.items

    chosen : Bool → Trace
    chosen b = if b then windowed from None d else trace (take count (drop from d.items)) end.Done

    no_less : (b : Bool) → nat_lt (length (drop from d.items)) count ≡ b
        → nat_lt (length d.items) (from + count) ≡ false → b ≡ false
    no_less false k h = refl
    no_less true k h =
        let l = ltb-true (length (drop from d.items)) count k in
        absurd (let z : true ≡ false = sym (lt-ltb (length d.items) (from + count) (omega (arith, l, long))) ∙ h in cc)

    by : (b : Bool) → nat_lt (length d.items) (from + count) ≡ b
        → limited count (windowed from None d)
        ≡ windowed from None (if b then d else trace (take (from + count) d.items) end.Done)
    by true h = let l = ltb-true (length d.items) (from + count) h in
        ap chosen (lt-ltb (length (drop from d.items)) count (omega (arith, l, long, some_there)))
    by false h = ap chosen (no_less (nat_lt (length (drop from d.items)) count) refl h)
        ∙ ap (λ xs. trace xs end.Done) (sym (drop-take from count d.items))

-- a route with such legs
pub route_asked : (b : Begun) (legs : List Leg) (count enough : ℕ)
    → (b.links.items ≡ []) × (b.window.to ≡ None) × (0 < count) → AreMaps (stages_of b.stages.list.items)
    → enough ≡ b.window.from + count
    → ((env : Numbers) (t : Trace) → scanned (legs_in legs) env t
    ≡ done_after (Some enough) (scanned (legs_in b.scans.items) env t))
    → (env : Numbers) (ss : List AbstractPlainSource)
    → walk_through b.stages env (linked (links_in b.links.items) env
    (windowed b.window.from b.window.to (scanned (legs_in legs) env (source_walk ss))))
    ≡ limited count (begun_walk b env ss)
route_asked b legs count enough plain maps sum gives env ss =
    let d : Trace = scanned (legs_in b.scans.items) env (source_walk ss) in
    let from = b.window.from in
    (λ i. walk_through b.stages env (linked (links_in (plain.0 i)) env
    (windowed from (plain.1 i) (gives env (source_walk ss) i))))
    ∙ (λ i. walk_through b.stages env (windowed from None (done_after (Some (sum i)) d)))
    ∙ sym (ap (walk_through b.stages env) (limit_given from count d plain.2))
    ∙ sym (limit_before_maps b.stages.first (stages_of b.stages.list.items) maps count env (windowed from None d))
    ∙ sym (λ i. limited count (walk_through b.stages env
    (linked (links_in (plain.0 i)) env (windowed from (plain.1 i) d))))

-- the stage of a `limit` that was asked for, and one after a route with the same walk
pub asked_next : (b asked new : Begun) (count : ℕ)
    → ((env : Numbers) (ss : List AbstractPlainSource) → begun_walk asked env ss ≡ limited count (begun_walk b env ss))
    → (asked.links ≡ b.links) × (asked.stages ≡ b.stages) × (asked.window ≡ b.window)
    → (new.scans ≡ asked.scans) × (new.links ≡ asked.links) → new.window ≡ asked.window
    → ((env : Numbers) (t : Trace) → walk_through new.stages env t ≡ walk_through asked.stages env t)
    → number_after new.stages ≡ suc (number_after asked.stages) → HasNext b (sliced (limit count)) new
asked_next b asked new count gives kept selected window same number = record {
  walk = λ env ss.
      same env (walk_over new env ss)
      ∙ (λ i. walk_through asked.stages env
      (linked (links_in (selected.1 i).items) env
      (windowed (window i).from (window i).to (scanned (legs_in (selected.0 i).items) env (source_walk ss)))))
      ∙ gives env ss;
  number = number ∙ ap (λ (s : NumberedStages). suc (number_after s)) kept.1;
  few = let l = ap (λ v. length v.items) selected.1 in let m = ap (λ v. length v.items) kept.0 in omega (arith, l, m);
}

pub next_after : (b asked new : Begun) (does : ℕ → Numbers → Trace → Trace)
    → ((env : Numbers) (ss : List AbstractPlainSource) → begun_walk asked env ss ≡ begun_walk b env ss)
    → (asked.links ≡ b.links) × (asked.stages ≡ b.stages) × (asked.window ≡ b.window) → HasNext asked does new
    → HasNext b does new
next_after b asked new does same kept next = record {
  walk = λ env ss. next.walk env ss ∙ (λ i. does (number_after (kept.1 i)) env (same env ss i));
  number = next.number ∙ ap (λ (s : NumberedStages). suc (number_after s)) kept.1;
  few = let l = ap (λ v. length v.items) kept.0 in omega (arith, l, next.few);
}

-- nothing is walked before a `limit` of no item
pub forgotten_next : (b left new : Begun) (count : ℕ) → count ≡ 0 → number_after left.stages ≡ number_after b.stages
    → length left.links.items ≡ 0 → HasNext left (sliced (limit count)) new → HasNext b (sliced (limit count)) new
forgotten_next b left new count zero_is number none next = record {
  walk = λ env ss. next.walk env ss ∙ (λ i. limited (zero_is i) (begun_walk left env ss))
      ∙ limited_none (begun_walk left env ss)
      ∙ sym ((λ i. limited (zero_is i) (begun_walk b env ss)) ∙ limited_none (begun_walk b env ss));
  number = next.number ∙ ap suc number;
  few = omega (arith, none, next.few);
}

-- the first item of a walk is that of its first item
pub one_found : (n : ℕ) (env : Numbers) (t : Trace)
    → ended (finding first) n env (limited 1 t) ≡ ended (finding first) n env t
one_found n env t = by t.items t.ending
  where
    by : (xs : List Item) (e : End) → ended (finding first) n env (limited 1 (trace xs e))
        ≡ ended (finding first) n env (trace xs e)
    by [] e = ap (ended (finding first) n env) (limited_end 0 e)
    by (x ∷ xs) e = ap (ended (finding first) n env) (limited_next 0 x (trace xs e))

pub one_asked : (b new : Begun) (asked : Bool)
    → (asked ≡ true → (env : Numbers) (ss : List AbstractPlainSource)
    → begun_walk new env ss ≡ limited 1 (begun_walk b env ss))
    → (asked ≡ false → (env : Numbers) (ss : List AbstractPlainSource) → begun_walk new env ss ≡ begun_walk b env ss)
    → (e : AbstractEnd) → e ≡ finding first
    → (n : ℕ) (env : Numbers) (ss : List AbstractPlainSource)
    → ended e n env (begun_walk new env ss) ≡ ended e n env (begun_walk b env ss)
one_asked b new true some none e is n env ss =
    ap (λ (f : AbstractEnd). ended f n env (begun_walk new env ss)) is
    ∙ ap (ended (finding first) n env) (some refl env ss)
    ∙ one_found n env (begun_walk b env ss) ∙ sym (ap (λ (f : AbstractEnd). ended f n env (begun_walk b env ss)) is)
one_asked b new false some none e is n env ss = ap (ended e n env) (none refl env ss)

-- what holds, holds of any option
pub of_some : {A P : Type 0} (r : Option A) → P → IfSome r (λ x. P)
of_some (Some x) p = p
of_some None p = tt
