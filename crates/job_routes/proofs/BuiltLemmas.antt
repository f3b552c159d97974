-- What one stage more makes of a route.
use Rattle.std.proofs.Common.{◌≡◌, ◌+◌, ◌≤◌, ℕ, suc, Bool, true, false, if◌then◌else◌, List, [], ◌∷◌, ◌++◌, length}
use Rattle.std.proofs.Common.{length-append, Option, Some, None, Result, Ok, Err, IfSome, OnOk, sym, ap, ◌∙◌, arith}
use Rattle.lambda_values.specs.Earlier.{Numbers}
use Rattle.trace.specs.declared.stage.Stage.{Stage}
use Rattle.trace.specs.Stages.{AbstractStage, pipe, stage_of, stages_of, through}
use Rattle.trace.specs.Trace.{Trace}
use Rattle.slice_ops.specs.Slices.{AbstractSlice, limit, skip, limited, skipped, sliced}
use Rattle.job_language.specs.Jobs.{AbstractPlainSource}
use Rattle.job_meaning.specs.Walks.{source_walk}
use Rattle.prefix_walks.specs.declared.window.Window.{Window}
use Rattle.job_routes.specs.declared.building.Begun.{Begun}
use Rattle.job_routes.specs.declared.leg.Link.{Link}
use Rattle.batch_eval.specs.Faultless.{AreFaultless, AreMaps}
use Rattle.job_routes.specs.Building.{HasNext, IsClean, begun_walk, walk_over}
use Rattle.job_routes.specs.Legs.{legs_in, links_in, number_after, walk_through, ended, folding, finding, linked}
use Rattle.job_routes.specs.Legs.{scanned, windowed}
use Rattle.find_ops.specs.Finds.{find_of}
use Rattle.find_ops.specs.declared.terminal.FindTerminal.TheVariants as terminal
use Rattle.reduce_ops.specs.declared.op.Op.TheVariants as op
use Rattle.job_routes.proofs.RouteLemmas.{first_answer, pipe_clean}
use Rattle.job_routes.proofs.MapLemmas.{limit_before_maps, pipe_joined, skip_before_maps}
use Rattle.job_routes.proofs.RouteLemmas.{length-stages_of, stages_more}
use Rattle.job_routes.proofs.WindowLemmas.{clean_window}

-- one element more
pub pushed_length : {A : Type 0} (new xs : List A) (x : A) → new ≡ xs ++ x ∷ [] → length new ≡ suc (length xs)
pushed_length new xs x e = let l = length-append xs (x ∷ []) in let k = ap length e in omega (arith, l, k)

pub at_most_one : {A : Type 0} (pushed : Bool) (new xs : List A) (x : A) → new ≡ (if pushed then xs ++ x ∷ [] else xs)
    → length new ≤ suc (length xs)
at_most_one true new xs x e = let l = pushed_length new xs x e in omega (arith, l)
at_most_one false new xs x e = let l = ap length e in omega (arith, l)

-- one stage more
pub one_more : (n : ℕ) (gs hs : List Stage) (g : Stage) → hs ≡ gs ++ g ∷ [] → (env : Numbers) (t : Trace)
    → pipe n (stages_of hs) env t ≡ through (n + length (stages_of gs)) (stage_of g) env (pipe n (stages_of gs) env t)
one_more n gs hs g pushed env t = ap (λ (xs : List AbstractStage). pipe n xs env t)
    (ap stages_of pushed ∙ stages_more gs g) ∙ pipe_joined n (stages_of gs) (stage_of g ∷ []) env t

pub one_longer : (gs hs : List Stage) (g : Stage) → hs ≡ gs ++ g ∷ []
    → length (stages_of hs) ≡ suc (length (stages_of gs))
one_longer gs hs g pushed = length-stages_of hs ∙ pushed_length hs gs g pushed ∙ ap suc (sym (length-stages_of gs))

-- a slice after maps that selects positions of what they go over
pub limit_selects : (n : ℕ) (gs : List AbstractStage) (k : ℕ) → AreMaps gs → (t u : Trace) → limited k t ≡ u
    → (m : ℕ) (env : Numbers) → pipe n gs env u ≡ sliced (limit k) m env (pipe n gs env t)
limit_selects n gs k maps t u h m env = sym (limit_before_maps n gs maps k env t ∙ ap (pipe n gs env) h)

pub skip_selects : (n : ℕ) (gs : List AbstractStage) (k : ℕ) → AreMaps gs → AreFaultless true gs → (t u : Trace)
    → skipped k t ≡ u → (m : ℕ) (env : Numbers) → pipe n gs env u ≡ sliced (skip k) m env (pipe n gs env t)
skip_selects n gs k maps calm t u h m env = sym (skip_before_maps n gs maps calm k env t ∙ ap (pipe n gs env) h)

-- a slice that selects positions
pub window_next : (b new : Begun) (w : Window) (d : AbstractSlice) → b.links.items ≡ []
    → (new.scans ≡ b.scans) × (new.links ≡ b.links) → new.window ≡ w
    → ((env : Numbers) (t : Trace) → walk_through new.stages env t ≡ walk_through b.stages env t)
    → number_after new.stages ≡ suc (number_after b.stages)
    → ((m : ℕ) (env : Numbers) (ss : List AbstractPlainSource)
    → walk_through b.stages env (windowed w.from w.to (scanned (legs_in b.scans.items) env (source_walk ss)))
    ≡ sliced d m env (walk_through b.stages env
    (windowed b.window.from b.window.to (scanned (legs_in b.scans.items) env (source_walk ss)))))
    → HasNext b (sliced d) new
window_next b new w d none kept window same number selects = record {
  walk = λ env ss.
      let u : Trace = scanned (legs_in b.scans.items) env (source_walk ss) in
      same env (walk_over new env ss)
      ∙ (λ i. walk_through b.stages env (linked (links_in (kept.1 i).items) env
      (windowed (window i).from (window i).to (scanned (legs_in (kept.0 i).items) env (source_walk ss)))))
      ∙ ap (λ (ls : List Link). walk_through b.stages env (linked (links_in ls) env (windowed w.from w.to u))) none
      ∙ selects (number_after b.stages) env ss
      ∙ sym (ap (λ (ls : List Link). sliced d (number_after b.stages) env
      (walk_through b.stages env (linked (links_in ls) env (windowed b.window.from b.window.to u)))) none);
  number = number;
  few = let l = ap (λ v. length v.items) kept.1 in omega (arith, l);
}

-- a fold that keeps the first value finds it
pub first_found : (b : Begun) → b.links.items ≡ [] → AreFaultless true (stages_of b.stages.list.items)
    → ((env : Numbers) (ss : List AbstractPlainSource) → IsClean (scanned (legs_in b.scans.items) env (source_walk ss)))
    → (n : ℕ) (env : Numbers) (ss : List AbstractPlainSource)
    → ended (finding (find_of terminal.First)) n env (begun_walk b env ss)
    ≡ ended (folding op.First None false) n env (begun_walk b env ss)
first_found b links calm clean_legs n env ss =
    let u : Trace = windowed b.window.from b.window.to (scanned (legs_in b.scans.items) env (source_walk ss)) in
    let walk : begun_walk b env ss ≡ walk_through b.stages env u =
    ap (λ (ls : List Link). walk_through b.stages env (linked (links_in ls) env u)) links in
    let clean = clean_window b.window.from b.window.to _ (clean_legs env ss) in
    let w : Trace = walk_through b.stages env u in
    ap (ended (finding (find_of terminal.First)) n env) walk
    ∙ first_answer n env w.items w.ending (pipe_clean b.stages.first (stages_of b.stages.list.items) calm env u clean)
    ∙ sym (ap (ended (folding op.First None false) n env) walk)

pub some_map : {A : Type 0} {P Q : A → Type 0} (r : Option A) → ((w : A) → P w → Q w) → IfSome r P → IfSome r Q
some_map (Some w) f p = f w p
some_map None f p = p

pub ok_of_four : {A E P Q R S T : Type 0} (r : Result A E) → (P → Q → R → S → T) → OnOk r P → OnOk r Q → OnOk r R
    → OnOk r S → OnOk r T
ok_of_four (Ok a) f p q s u = f p q s u
ok_of_four (Err e) f p q s u = p
