-- Walks that begin at a later place, walks over other tables, and places that lie within a number of rows.
use Rattle.std.proofs.Common.{◌≡◌, ℕ, suc, ◌+◌, ◌<◌, ◌≤◌, ◌^◌, ℤ, Bool, true, false, ◌&&◌, List, [], ◌∷◌, ◌++◌, length}
use Rattle.std.proofs.Common.{Option, Some, None, Result, Ok, Err, refl, sym, ap, ◌∙◌, append-nil, arith}
use Rattle.std.specs.List.{list_all}
use Rattle.lambda_values.specs.declared.fault.FaultKind.{FaultKind}
use Rattle.lambda_values.specs.Earlier.{Numbers}
use Rattle.lambda_values.specs.Streams.{inner_value}
use Rattle.lambda_values.specs.Value.{long_value, truth_value}
use Rattle.lambda_values.specs.declared.item.Item.{Item}
use Rattle.lambda_values.proofs.Placeless.{placeless_inner, placeless_long, placeless_truth}
use Rattle.trace.specs.declared.item.End.{End}
use Rattle.trace.specs.declared.item.End.TheVariants as end
use Rattle.trace.specs.Cover.{placed, cover, values as listed}
use Rattle.trace.specs.Stages.{AbstractStage, map, filter, flat_map, image, passed, at_place, flattened, of_item}
use Rattle.trace.specs.Stages.{through}
use Rattle.trace.specs.Trace.{Trace, trace, then_on, append, each}
use Rattle.trace.proofs.CoverLemmas.{cover_short}
use Rattle.trace.proofs.JoinLemmas.{each_append}
use Rattle.job_language.specs.Jobs.{AbstractPlainSource, AbstractJobStage, item, slice, prefix, sorted, distinct}
use Rattle.job_language.specs.Places.{stage_is_placeless}
use Rattle.job_meaning.specs.Walks.{after_stages, plain_values, source_walk}
use Rattle.report_merge.specs.Mergeable.{are_items}
use Rattle.report_merge.specs.Merging.{moved}

-- ---- a walk, k places later

abbrev pub later_item : ℕ → Item → Item
later_item k x = record { origin = k + x.origin; value = x.value }

abbrev pub later_items : ℕ → List Item → List Item
later_items k [] = []
later_items k (x ∷ xs) = later_item k x ∷ later_items k xs

abbrev pub later_end : ℕ → End → End
later_end k end.Done = end.Done
later_end k (end.Fault f) = end.Fault (moved k f)

abbrev pub later : ℕ → Trace → Trace
later k t = trace (later_items k t.items) (later_end k t.ending)

items_joined : (k : ℕ) (xs ys : List Item) → later_items k (xs ++ ys) ≡ later_items k xs ++ later_items k ys
items_joined k [] ys = refl
items_joined k (x ∷ xs) ys = ap (λ (zs : List Item). later_item k x ∷ zs) (items_joined k xs ys)

later_on : (k : ℕ) (xs : List Item) (e : End) (b : Trace)
    → later k (then_on xs e b) ≡ then_on (later_items k xs) (later_end k e) (later k b)
later_on k xs end.Done b = ap (λ (zs : List Item). trace zs (later_end k b.ending)) (items_joined k xs b.items)
later_on k xs (end.Fault f) b = refl

later_append : (k : ℕ) (a b : Trace) → later k (append a b) ≡ append (later k a) (later k b)
later_append k a b = later_on k a.items a.ending b

image_later : (k n : ℕ) (x : Item) (r : Result ℤ FaultKind) → image n (later_item k x) r ≡ later k (image n x r)
image_later k n x (Ok v) = refl
image_later k n x (Err f) = refl

passed_later : (k n : ℕ) (x : Item) (r : Result Bool FaultKind) → passed n (later_item k x) r ≡ later k (passed n x r)
passed_later k n x (Ok true) = refl
passed_later k n x (Ok false) = refl
passed_later k n x (Err f) = refl

place_later : (k i : ℕ) (vs : List ℤ) → at_place (k + i) vs ≡ later_items k (at_place i vs)
place_later k i [] = refl
place_later k i (v ∷ vs) = ap (λ (zs : List Item). record { origin = k + i; value = v } ∷ zs) (place_later k i vs)

flattened_later : (k n : ℕ) (x : Item) (r : Result (List ℤ) FaultKind)
    → flattened n (later_item k x) r ≡ later k (flattened n x r)
flattened_later k n x (Ok vs) = ap (λ (zs : List Item). trace zs end.Done) (place_later k x.origin vs)
flattened_later k n x (Err f) = refl

-- a stage without cells and rows sees the value of the item alone
abbrev pub IsPlaceless : AbstractStage → Type 0
IsPlaceless g = stage_is_placeless (item g) ≡ true

item_later : (k n : ℕ) (g : AbstractStage) (env : Numbers) (x : Item) → IsPlaceless g
    → of_item n g env (later_item k x) ≡ later k (of_item n g env x)
item_later k n (map e) env x p = ap (image n (later_item k x)) (placeless_long e (later_item k x) x env env refl refl p)
    ∙ image_later k n x (long_value e x env)
item_later k n (filter t) env x p = ap (passed n (later_item k x))
    (placeless_truth t (later_item k x) x env env refl refl p) ∙ passed_later k n x (truth_value t x env)
item_later k n (flat_map g) env x p = ap (flattened n (later_item k x))
    (placeless_inner g (later_item k x) x env env refl refl p) ∙ flattened_later k n x (inner_value g x env)

each_later : (k n : ℕ) (g : AbstractStage) (env : Numbers) (xs : List Item) (e : End) → IsPlaceless g
    → each (of_item n g env) (later_items k xs) (later_end k e) ≡ later k (each (of_item n g env) xs e)
each_later k n g env [] e p = refl
each_later k n g env (x ∷ xs) e p =
    ap (λ (t : Trace). append t (each (of_item n g env) (later_items k xs) (later_end k e))) (item_later k n g env x p)
    ∙ ap (append (later k (of_item n g env x))) (each_later k n g env xs e p)
    ∙ sym (later_append k (of_item n g env x) (each (of_item n g env) xs e))

-- of several stages the first one, and then the others
pub first_placeless : (g : AbstractJobStage) (gs : List AbstractJobStage) → list_all stage_is_placeless (g ∷ gs) ≡ true
    → (stage_is_placeless g ≡ true) × (list_all stage_is_placeless gs ≡ true)
first_placeless g gs h = both (stage_is_placeless g) (list_all stage_is_placeless gs) h
  where
    both : (a b : Bool) → (a && b) ≡ true → (a ≡ true) × (b ≡ true)
    both true b h = (refl, h)
    both false b h = absurd (let z : false ≡ true = h in cc)

no_slice : {A : Type 0} → false ≡ true → A
no_slice h = absurd (let z : false ≡ true = h in cc)

-- stages that look at one item at a time, without cells and rows, don't look at its place
pub stages_later : (k n : ℕ) (gs : List AbstractJobStage) (env : Numbers) (t : Trace) → are_items gs ≡ true
    → list_all stage_is_placeless gs ≡ true → after_stages n gs env (later k t) ≡ later k (after_stages n gs env t)
stages_later k n [] env t good p = refl
stages_later k n (item g ∷ gs) env t good p =
    let parts = first_placeless (item g) gs p in
    ap (after_stages (suc n) gs env) (each_later k n g env t.items t.ending parts.0)
    ∙ stages_later k (suc n) gs env (through n g env t) good parts.1
stages_later k n (slice d ∷ gs) env t good p = no_slice good
stages_later k n (prefix r f ∷ gs) env t good p = no_slice good
stages_later k n (sorted ∷ gs) env t good p = no_slice good
stages_later k n (distinct seen ∷ gs) env t good p = no_slice good

-- ---- over another table

module _ (a b : Numbers) (same : a.earlier ≡ b.earlier) where
  item_over : (n : ℕ) (g : AbstractStage) (x : Item) → IsPlaceless g → of_item n g a x ≡ of_item n g b x
  item_over n (map e) x p = ap (image n x) (placeless_long e x x a b refl same p)
  item_over n (filter t) x p = ap (passed n x) (placeless_truth t x x a b refl same p)
  item_over n (flat_map g) x p = ap (flattened n x) (placeless_inner g x x a b refl same p)

  each_over : (n : ℕ) (g : AbstractStage) (xs : List Item) (e : End) → IsPlaceless g
      → each (of_item n g a) xs e ≡ each (of_item n g b) xs e
  each_over n g [] e p = refl
  each_over n g (x ∷ xs) e p = λ i. append (item_over n g x p i) (each_over n g xs e p i)

  -- nor do they look at the table
  pub stages_over : (n : ℕ) (gs : List AbstractJobStage) (t : Trace) → are_items gs ≡ true
      → list_all stage_is_placeless gs ≡ true → after_stages n gs a t ≡ after_stages n gs b t
  stages_over n [] t good p = refl
  stages_over n (item g ∷ gs) t good p =
      let parts = first_placeless (item g) gs p in
      ap (after_stages (suc n) gs a) (each_over n g t.items t.ending parts.0)
      ∙ stages_over (suc n) gs (through n g b t) good parts.1
  stages_over n (slice d ∷ gs) t good p = no_slice good
  stages_over n (prefix r f ∷ gs) t good p = no_slice good
  stages_over n (sorted ∷ gs) t good p = no_slice good
  stages_over n (distinct seen ∷ gs) t good p = no_slice good

-- they keep walks joined
pub stages_joined : (n : ℕ) (gs : List AbstractJobStage) (env : Numbers) (a b : Trace) → are_items gs ≡ true
    → after_stages n gs env (append a b) ≡ append (after_stages n gs env a) (after_stages n gs env b)
stages_joined n [] env a b good = refl
stages_joined n (item g ∷ gs) env a b good =
    ap (after_stages (suc n) gs env) (each_append (of_item n g env) a b)
    ∙ stages_joined (suc n) gs env (through n g env a) (through n g env b) good
stages_joined n (slice d ∷ gs) env a b good = no_slice good
stages_joined n (prefix r f ∷ gs) env a b good = no_slice good
stages_joined n (sorted ∷ gs) env a b good = no_slice good
stages_joined n (distinct seen ∷ gs) env a b good = no_slice good

-- ---- places within m rows

abbrev pub PlaceWithin : ℕ → Option ℕ → Type 0
PlaceWithin m None = Unit {0}
PlaceWithin m (Some i) = i < m

abbrev pub EndWithin : ℕ → End → Type 0
EndWithin m end.Done = Unit {0}
EndWithin m (end.Fault f) = PlaceWithin m f.origin

abbrev pub ItemsWithin : ℕ → List Item → Type 0
ItemsWithin m [] = Unit {0}
ItemsWithin m (x ∷ xs) = (x.origin < m) × ItemsWithin m xs

pub record Within (m : ℕ) (t : Trace) : Type 0 where
  pub items : ItemsWithin m t.items
  pub ending : EndWithin m t.ending

items_within : (m : ℕ) (xs ys : List Item) → ItemsWithin m xs → ItemsWithin m ys → ItemsWithin m (xs ++ ys)
items_within m [] ys h k = k
items_within m (x ∷ xs) ys h k = (h.0, items_within m xs ys h.1 k)

on_within : (m : ℕ) (xs : List Item) (e : End) (b : Trace) → ItemsWithin m xs → EndWithin m e → Within m b
    → Within m (then_on xs e b)
on_within m xs end.Done b h k w = record { items = items_within m xs b.items h w.items; ending = w.ending }
on_within m xs (end.Fault f) b h k w = record { items = h; ending = k }

append_within : (m : ℕ) (a b : Trace) → Within m a → Within m b → Within m (append a b)
append_within m a b v w = on_within m a.items a.ending b v.items v.ending w

image_within : (m n : ℕ) (x : Item) (r : Result ℤ FaultKind) → x.origin < m → Within m (image n x r)
image_within m n x (Ok v) h = record { items = (h, tt); ending = tt }
image_within m n x (Err f) h = record { items = tt; ending = h }

passed_within : (m n : ℕ) (x : Item) (r : Result Bool FaultKind) → x.origin < m → Within m (passed n x r)
passed_within m n x (Ok true) h = record { items = (h, tt); ending = tt }
passed_within m n x (Ok false) h = record { items = tt; ending = tt }
passed_within m n x (Err f) h = record { items = tt; ending = h }

place_within : (m i : ℕ) (vs : List ℤ) → i < m → ItemsWithin m (at_place i vs)
place_within m i [] h = tt
place_within m i (v ∷ vs) h = (h, place_within m i vs h)

flattened_within : (m n : ℕ) (x : Item) (r : Result (List ℤ) FaultKind) → x.origin < m → Within m (flattened n x r)
flattened_within m n x (Ok vs) h = record { items = place_within m x.origin vs h; ending = tt }
flattened_within m n x (Err f) h = record { items = tt; ending = h }

item_within : (m n : ℕ) (g : AbstractStage) (env : Numbers) (x : Item) → x.origin < m → Within m (of_item n g env x)
item_within m n (map e) env x h = image_within m n x (long_value e x env) h
item_within m n (filter p) env x h = passed_within m n x (truth_value p x env) h
item_within m n (flat_map g) env x h = flattened_within m n x (inner_value g x env) h

each_within : (m n : ℕ) (g : AbstractStage) (env : Numbers) (xs : List Item) (e : End) → ItemsWithin m xs
    → EndWithin m e → Within m (each (of_item n g env) xs e)
each_within m n g env [] e h k = record { items = tt; ending = k }
each_within m n g env (x ∷ xs) e h k = append_within m (of_item n g env x) (each (of_item n g env) xs e)
    (item_within m n g env x h.0) (each_within m n g env xs e h.1 k)

pub stages_within : (m n : ℕ) (gs : List AbstractJobStage) (env : Numbers) (t : Trace) → are_items gs ≡ true
    → Within m t → Within m (after_stages n gs env t)
stages_within m n [] env t good w = w
stages_within m n (item g ∷ gs) env t good w =
    stages_within m (suc n) gs env (through n g env t) good (each_within m n g env t.items t.ending w.items w.ending)
stages_within m n (slice d ∷ gs) env t good w = no_slice good
stages_within m n (prefix r f ∷ gs) env t good w = no_slice good
stages_within m n (sorted ∷ gs) env t good w = no_slice good
stages_within m n (distinct seen ∷ gs) env t good w = no_slice good

-- ---- the walk over values

abbrev pub walk_over : List ℤ → Trace
walk_over vs = trace (placed 0 vs) end.Done

placed_later : (k i : ℕ) (vs : List ℤ) → placed (k + i) vs ≡ later_items k (placed i vs)
placed_later k i [] = refl
placed_later k i (v ∷ vs) =
    let e : suc (k + i) ≡ k + suc i = omega arith in
    ap (λ (zs : List Item). record { origin = k + i; value = v } ∷ zs)
    (ap (λ (j : ℕ). placed j vs) e ∙ placed_later k (suc i) vs)

placed_joined : (i : ℕ) (vs ws : List ℤ) → placed i (vs ++ ws) ≡ placed i vs ++ placed (i + length vs) ws
placed_joined i [] ws = let e : i ≡ i + 0 = omega arith in ap (λ (j : ℕ). placed j ws) e
placed_joined i (v ∷ vs) ws =
    let e : suc i + length vs ≡ i + suc (length vs) = omega arith in
    ap (λ (zs : List Item). record { origin = i; value = v } ∷ zs)
    (placed_joined (suc i) vs ws ∙ ap (λ (j : ℕ). placed (suc i) vs ++ placed j ws) e)

-- the walk over values and others is the walk over the first ones, and then the walk over the others, so much later
pub walk_joined : (vs ws : List ℤ) → walk_over (vs ++ ws) ≡ append (walk_over vs) (later (length vs) (walk_over ws))
walk_joined vs ws =
    let e : 0 + length vs ≡ length vs + 0 = omega arith in
    ap (λ (zs : List Item). trace zs end.Done)
    (placed_joined 0 vs ws ∙ ap (λ (zs : List Item). placed 0 vs ++ zs)
    (ap (λ (j : ℕ). placed j ws) e ∙ placed_later (length vs) 0 ws))

placed_within : (m i : ℕ) (vs : List ℤ) → i + length vs ≤ m → ItemsWithin m (placed i vs)
placed_within m i [] h = tt
placed_within m i (v ∷ vs) h =
    let here : i < m = omega (arith, h) in
    let more : suc i + length vs ≤ m = omega (arith, h) in
    (here, placed_within m (suc i) vs more)

pub walk_within : (vs : List ℤ) → Within (length vs) (walk_over vs)
walk_within vs = let e : 0 + length vs ≤ length vs = omega arith in
    record { items = placed_within (length vs) 0 vs e; ending = tt }

-- the walk over one source that isn't too long
pub one_source : (s : AbstractPlainSource) (vs : List ℤ) → plain_values s ≡ vs → length vs ≤ 2 ^ 62
    → source_walk (s ∷ []) ≡ walk_over vs
one_source s vs is fits =
    let same : plain_values s ++ [] ≡ vs = append-nil (plain_values s) ∙ is in
    ap (λ (us : List ℤ). cover (listed us)) same ∙ cover_short (listed vs) fits
