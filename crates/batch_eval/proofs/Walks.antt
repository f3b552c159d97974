-- What a stage makes of the lanes of a batch, lane by lane.
use Rattle.std.proofs.Common.{◌≡◌, ℕ, zero, suc, ◌<◌, ◌≤◌, ℤ, pos, negsuc, Bool, true, false, List, [], ◌∷◌, ◌++◌}
use Rattle.std.proofs.Common.{length, get_or, Option, Some, None, Result, Ok, Err, if◌then◌else◌, refl, sym, ap, subst}
use Rattle.std.proofs.Common.{◌∙◌, append_assoc, arith, length-append}
use Rattle.std.proofs.lemmas.List.{append-nil, get_or_append_left, get_or_at}
use mathlib.Core.Logic.{dite}
use native.Mathlib.Decide.{ℕ_discrete}
use Rattle.lambda_values.specs.declared.fault.FaultKind.{FaultKind}
use Rattle.lambda_values.specs.Earlier.{Numbers}
use Rattle.lambda_values.specs.Term.{Long, Truth}
use Rattle.lambda_values.specs.Value.{long_value, truth_value}
use Rattle.lambda_values.specs.declared.item.Item.{Item}
use Rattle.trace.specs.declared.item.Fault.{Fault}
use Rattle.trace.specs.declared.item.End.{End}
use Rattle.trace.specs.declared.item.End.TheVariants as end
use Rattle.trace.specs.Trace.{Trace, trace, append, each}
use Rattle.trace.specs.Stages.{map, filter, image, passed, of_item}
use Rattle.trace.proofs.JoinLemmas.{each_append}
use Rattle.batch_eval.specs.declared.reached.Reached.{Reached}
use Rattle.batch_eval.specs.Lanes.{at, flagged, is_set, StopsAt, Reaches}
use Rattle.batch_eval.specs.Batches.{gathered, lanes, picked, end_after, origin_at, item_at}

-- equal lists, lane by lane
pub gathered_same : (n : ℕ) (f g : ℕ → List Item) → ((k : ℕ) → k < n → f k ≡ g k) → gathered n f ≡ gathered n g
gathered_same zero f g same = refl
gathered_same (suc n) f g same = let a = gathered_same n f g (λ k below. same k (omega arith)) in
    let b = same n (omega arith) in cc

pub lanes_same : (n : ℕ) (f g : ℕ → Item) → ((k : ℕ) → k < n → f k ≡ g k) → lanes n f ≡ lanes n g
lanes_same n f g same = gathered_same n (λ k. f k ∷ []) (λ k. g k ∷ [])
    (λ k below. ap (λ (x : Item). x ∷ []) (same k below))

-- what comes after the first n lanes
pub later : (n m : ℕ) (g : ℕ → List Item) → n ≤ m → (rest : List Item) × (gathered m g ≡ gathered n g ++ rest)
later n zero g within = let none_left : n ≡ 0 = omega arith in
    ([], subst (λ (k : ℕ). gathered zero g ≡ gathered k g ++ []) (sym none_left) refl)
later n (suc m) g within =
    dite (ℕ_discrete n (suc m))
    (λ whole. (
      [],
      subst (λ (k : ℕ). gathered (suc m) g ≡ gathered k g ++ []) (sym whole)
          (sym (append-nil (gathered (suc m) g))),
    ))
    (λ part.
    let before = later n m g (omega arith) in
    (before.0 ++ g m, ap (λ (xs : List Item). xs ++ g m) before.1 ∙ append_assoc (gathered n g) before.0 (g m)))

-- lists of items that give items, and no fault
pub each_gathered : (f : Item → Trace) (ins outs : ℕ → List Item) (n : ℕ)
    → ((k : ℕ) → k < n → (e : End) → each f (ins k) e ≡ trace (outs k) e) → (e : End)
    → each f (gathered n ins) e ≡ trace (gathered n outs) e
each_gathered f ins outs zero gives e = refl
each_gathered f ins outs (suc n) gives e =
    let before = each_gathered f ins outs n (λ k below. gives k (omega arith)) end.Done in
    let here = gives n (omega arith) e in
    each_append f (trace (gathered n ins) end.Done) (trace (ins n) e) ∙ rw (before, here) refl

module _ (f : Item → Trace) (g : ℕ → Item) (outs : ℕ → List Item) where
  -- lanes that give items, and no fault
  pub each_lane : (n : ℕ) → ((k : ℕ) → k < n → f (g k) ≡ trace (outs k) end.Done) → (e : End)
      → each f (lanes n g) e ≡ trace (gathered n outs) e
  each_lane n gives e = each_gathered f (λ k. g k ∷ []) outs n
      (λ k below e. let here = gives k below in rw (here, append-nil) refl) e

  -- and then one that has a fault
  pub each_stop : (n m : ℕ) → n < m → ((k : ℕ) → k < n → f (g k) ≡ trace (outs k) end.Done) → (fault : Fault)
      → f (g n) ≡ trace [] (end.Fault fault) → (e : End)
      → each f (lanes m g) e ≡ trace (gathered n outs) (end.Fault fault)
  each_stop n m below gives fault here e =
      let all = later (suc n) m (λ k. g k ∷ []) (omega arith) in
      let before = each_lane n gives end.Done in
      let first : each f (lanes (suc n) g) end.Done ≡ trace (gathered n outs) (end.Fault fault) =
      each_append f (trace (lanes n g) end.Done) (trace (g n ∷ []) end.Done) ∙ rw (before, here, append-nil) refl in
      ap (λ (xs : List Item). each f xs e) all.1 ∙ each_append f (trace (lanes (suc n) g) end.Done) (trace all.0 e)
      ∙ ap (λ (t : Trace). append t (each f all.0 e)) first

  -- lanes up to a stop
  pub each_reached : (value : ℕ → Result ℤ FaultKind) (column : ℕ → ℤ) (stage n : ℕ) (r : Reached) (e : End)
      → Reaches value column n r → ((k : ℕ) → value k ≡ Ok (column k) → f (g k) ≡ trace (outs k) end.Done)
      → ((k : ℕ) (kind : FaultKind) → value k ≡ Err kind
      → f (g k) ≡ trace [] (end.Fault (record { kind = kind; stage = stage; origin = Some (g k).origin })))
      → each f (lanes n g) e ≡ trace (gathered r.live outs) (end_after e stage (g r.live).origin r.fault)
  each_reached value column stage n r e h gives faults = stopped r.live r.fault h.values h.stop where
    stopped : (live : ℕ) (fault : Option FaultKind) → ((k : ℕ) → k < live → value k ≡ Ok (column k))
        → StopsAt value n live fault → each f (lanes n g) e
        ≡ trace (gathered live outs) (end_after e stage (g live).origin fault)
    stopped live None values stop = subst (λ (m : ℕ). each f (lanes m g) e ≡ trace (gathered live outs) e) stop
        (each_lane live (λ k below. gives k (values k below)) e)
    stopped live (Some kind) values stop =
        each_stop live n stop.0 (λ k below. gives k (values k below))
        (record { kind = kind; stage = stage; origin = Some (g live).origin }) (faults live kind stop.1) e

-- the images of lanes
pub each_mapped : (expr : Long) (env : Numbers) (stage n : ℕ) (g : ℕ → Item) (column : ℕ → ℤ) (r : Reached) (e : End)
    → Reaches (λ k. long_value expr (g k) env) column n r
    → each (of_item stage (map expr) env) (lanes n g) e
    ≡ trace (lanes r.live (λ k. record { origin = (g k).origin; value = column k }))
    (end_after e stage (g r.live).origin r.fault)
each_mapped expr env stage n g column r e h =
    each_reached (of_item stage (map expr) env) g (λ k. record { origin = (g k).origin; value = column k } ∷ [])
    (λ k. long_value expr (g k) env) column stage n r e h
    (λ k is. ap (image stage (g k)) is)
    (λ k kind is. ap (image stage (g k)) is)

abbrev pub kept_if : Bool → Item → List Item
kept_if b x = if b then x ∷ [] else []

pub passed_flag : (stage : ℕ) (x : Item) (r : Result Bool FaultKind) (z : ℤ) → flagged r ≡ Ok z
    → passed stage x r ≡ trace (kept_if (is_set z) x) end.Done
passed_flag stage x (Ok true) z is = let same : negsuc 0 ≡ z = cc in
    subst (λ (z : ℤ). passed stage x (Ok true) ≡ trace (kept_if (is_set z) x) end.Done) same refl
passed_flag stage x (Ok false) z is = let same : pos 0 ≡ z = cc in
    subst (λ (z : ℤ). passed stage x (Ok false) ≡ trace (kept_if (is_set z) x) end.Done) same refl
passed_flag stage x (Err kind) z is = cc

passed_fault : (stage : ℕ) (x : Item) (r : Result Bool FaultKind) (kind : FaultKind) → flagged r ≡ Err kind
    → passed stage x r ≡ passed stage x (Err kind)
passed_fault stage x (Ok b) kind is = cc
passed_fault stage x (Err other) kind is = let same : other ≡ kind = cc in
    ap (λ (k : FaultKind). passed stage x (Err k)) same

-- the lanes that pass
pub each_filtered : (test : Truth) (env : Numbers) (stage n : ℕ) (g : ℕ → Item) (column : ℕ → ℤ) (r : Reached) (e : End)
    → Reaches (λ k. flagged (truth_value test (g k) env)) column n r
    → each (of_item stage (filter test) env) (lanes n g) e
    ≡ trace (gathered r.live (λ k. kept_if (is_set (column k)) (g k))) (end_after e stage (g r.live).origin r.fault)
each_filtered test env stage n g column r e h =
    each_reached (of_item stage (filter test) env) g (λ k. kept_if (is_set (column k)) (g k))
    (λ k. flagged (truth_value test (g k) env)) column stage n r e h
    (λ k is. passed_flag stage (g k) (truth_value test (g k) env) (column k) is)
    (λ k kind is. passed_fault stage (g k) (truth_value test (g k) env) kind is)

abbrev picked_if : Bool → ℕ → List ℕ
picked_if b n = if b then n ∷ [] else []

-- lanes that pass, one after the other, are the lanes of a shorter batch
pub gathered_picked : (p : ℕ → Bool) (g : ℕ → Item) (n : ℕ)
    → lanes (length (picked p n)) (λ j. g (get_or (picked p n) j 0)) ≡ gathered n (λ k. kept_if (p k) (g k))
gathered_picked p g zero = refl
gathered_picked p g (suc n) = by_case (p n) (gathered_picked p g n) where
  by_case : (b : Bool) → lanes (length (picked p n)) (λ j. g (get_or (picked p n) j 0))
      ≡ gathered n (λ k. kept_if (p k) (g k))
      → lanes (length (picked p n ++ picked_if b n)) (λ j. g (get_or (picked p n ++ picked_if b n) j 0))
      ≡ gathered n (λ k. kept_if (p k) (g k)) ++ kept_if b (g n)
  by_case true so_far =
      let xs = picked p n in
      let h : ℕ → Item = λ j. g (get_or (xs ++ n ∷ []) j 0) in
      let longer : length (xs ++ n ∷ []) ≡ suc (length xs) = omega (arith, length-append xs (n ∷ [])) in
      let before = lanes_same (length xs) h (λ j. g (get_or xs j 0))
      (λ j below. ap g (get_or_append_left xs (n ∷ []) 0 j below)) ∙ so_far in
      let last : h (length xs) ≡ g n = ap g (get_or_at xs n [] 0 (length xs) refl) in
      ap (λ (m : ℕ). lanes m h) longer ∙ rw (before, last) refl
  by_case false so_far = rw (append-nil, append-nil) so_far

module _ (env : Numbers) (stage live : ℕ) (start : Option ℕ) (origins : List ℕ) (values : List ℤ) (e : End) (t : Trace)
    (r : Reached) (out : List ℤ) where
  -- the batch after `map`
  pub batch_mapped : (expr : Long) (new_values : List ℤ) (old_origins : List ℕ) (new_end : End)
      → Reaches (λ k. long_value expr (item_at start origins values k) env) (at out) live r → new_values ≡ out
      → old_origins ≡ origins → new_end ≡ end_after e stage (origin_at start old_origins r.live) r.fault
      → trace (lanes live (item_at start origins values)) e ≡ t
      → trace (lanes r.live (item_at start origins new_values)) new_end
      ≡ each (of_item stage (map expr) env) t.items t.ending
  batch_mapped expr new_values old_origins new_end h ws os es seen =
      let one = each_mapped expr env stage live (item_at start origins values) (at out) r e h in
      subst (λ (t : Trace). trace (lanes r.live (item_at start origins new_values)) new_end
      ≡ each (of_item stage (map expr) env) t.items t.ending) seen (rw (ws, es, os) (sym one))
