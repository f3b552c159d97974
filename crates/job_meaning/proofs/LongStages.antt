-- Stages that look at one item at a time keep walks in 64 bits.
use Rattle.std.proofs.Common.{ℕ, ◌<◌, ◌^◌, ℤ, Bool, true, false, List, [], ◌∷◌, ◌++◌, Result, Ok, Err}
use Rattle.lambda_values.specs.declared.fault.FaultKind.{FaultKind}
use Rattle.lambda_values.specs.declared.item.Item.{Item}
use Rattle.lambda_values.specs.Earlier.{Numbers}
use Rattle.lambda_values.specs.Streams.{inner_value}
use Rattle.lambda_values.specs.Value.{long_value, truth_value}
use Rattle.trace.specs.declared.item.End.{End}
use Rattle.trace.specs.declared.item.End.TheVariants as end
use Rattle.trace.specs.Stages.{AbstractStage, map, filter, flat_map, at_place, flattened, image, of_item, passed}
use Rattle.trace.specs.Stages.{through}
use Rattle.trace.specs.Trace.{Trace, each, then_on}
use Rattle.job_meaning.specs.Longs.{AllFit, StageFits}
use Rattle.job_meaning.proofs.LongWalks.{EndFits, EnvFits, ItemFits, ItemsFit, ValueFits, ValuesFit, WalkFits}
use Rattle.job_meaning.proofs.LongValues.{long_fits, inner_fits}

pub both_fit : (xs ys : List Item) → ItemsFit xs → ItemsFit ys → ItemsFit (xs ++ ys)
both_fit [] ys f g = g
both_fit (x ∷ xs) ys f g = (f.0, both_fit xs ys f.1 g)

then_fits : (xs : List Item) (e : End) (b : Trace) → ItemsFit xs → EndFits e → WalkFits b → WalkFits (then_on xs e b)
then_fits xs end.Done b f g h = (both_fit xs b.items f h.0, h.1)
then_fits xs (end.Fault k) b f g h = (f, g)

image_fits : (n : ℕ) (x : Item) (r : Result ℤ FaultKind) → n < 2 ^ 64 → ItemFits x → ValueFits r
    → WalkFits (image n x r)
image_fits n x (Ok v) s i f = (((f, i.1), tt), tt)
image_fits n x (Err k) s i f = (tt, (s, i.1))

passed_fits : (n : ℕ) (x : Item) (r : Result Bool FaultKind) → n < 2 ^ 64 → ItemFits x → WalkFits (passed n x r)
passed_fits n x (Ok true) s i = ((i, tt), tt)
passed_fits n x (Ok false) s i = (tt, tt)
passed_fits n x (Err k) s i = (tt, (s, i.1))

at_place_fits : (o : ℕ) (vs : List ℤ) → o < 2 ^ 64 → AllFit vs → ItemsFit (at_place o vs)
at_place_fits o [] s f = tt
at_place_fits o (v ∷ vs) s f = ((f.0, s), at_place_fits o vs s f.1)

flattened_fits : (n : ℕ) (x : Item) (r : Result (List ℤ) FaultKind) → n < 2 ^ 64 → ItemFits x → ValuesFit r
    → WalkFits (flattened n x r)
flattened_fits n x (Ok vs) s i f = (at_place_fits x.origin vs i.1 f, tt)
flattened_fits n x (Err k) s i f = (tt, (s, i.1))

item_fits : (n : ℕ) (g : AbstractStage) (env : Numbers) (x : Item) → n < 2 ^ 64 → StageFits g → EnvFits env → ItemFits x
    → WalkFits (of_item n g env x)
item_fits n (map e) env x s f k i = image_fits n x (long_value e x env) s i (long_fits e x env f i.0 k)
item_fits n (filter p) env x s f k i = passed_fits n x (truth_value p x env) s i
item_fits n (flat_map g) env x s f k i = flattened_fits n x (inner_value g x env) s i (inner_fits g x env f i.0 k)

each_walk_fits : (f : Item → Trace) (xs : List Item) (e : End) → ((x : Item) → ItemFits x → WalkFits (f x))
    → ItemsFit xs → EndFits e → WalkFits (each f xs e)
each_walk_fits f [] e h i k = (tt, k)
each_walk_fits f (x ∷ xs) e h i k = let w = h x i.0 in
    then_fits (f x).items (f x).ending (each f xs e) w.0 w.1 (each_walk_fits f xs e h i.1 k)

pub through_fits : (n : ℕ) (g : AbstractStage) (env : Numbers) (t : Trace) → n < 2 ^ 64 → StageFits g → EnvFits env
    → WalkFits t → WalkFits (through n g env t)
through_fits n g env t s f k w = each_walk_fits (of_item n g env) t.items t.ending (λ x i. item_fits n g env x s f k i)
    w.0 w.1
