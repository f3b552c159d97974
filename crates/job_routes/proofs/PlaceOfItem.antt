-- The place of an item that comes through stages, and what comes through before it and from it on.
use Rattle.std.proofs.Common.{◌≡◌, ◌≤◌, ◌<◌, ℕ, zero, suc, ◌+◌, ◌-◌, ◌^◌, ℤ, Bool, true, false, if◌then◌else◌, nat_lt}
use Rattle.std.proofs.Common.{List, [], ◌∷◌, length, take, drop, Option, Some, None, Result, Ok, Err, refl, sym}
use Rattle.std.proofs.Common.{ap, subst, ◌∙◌, arith}
use Rattle.std.proofs.lemmas.Bool.{ltb-false}
use Rattle.std.proofs.lemmas.List.{length-drop, length-take}
use Rattle.lambda_values.specs.Earlier.{Numbers}
use Rattle.lambda_values.specs.Value.{long_value, truth_value}
use Rattle.lambda_values.specs.declared.fault.FaultKind.{FaultKind}
use Rattle.lambda_values.specs.declared.item.Item.{Item}
use Rattle.trace.specs.Cover.{placed, too_long}
use Rattle.trace.specs.declared.item.Fault.{Fault}
use Rattle.trace.specs.declared.item.End.{End}
use Rattle.trace.specs.declared.item.End.TheVariants as end
use Rattle.trace.specs.Stages.{AbstractStage, map, filter, flat_map, image, passed, pipe}
use Rattle.trace.specs.Trace.{Trace, trace, nothing, append}
use Rattle.trace.proofs.JoinLemmas.{pipe_ended, pipe_more}
use Rattle.prefix_walks.specs.Pieces.{elements}
use Rattle.prefix_walks.proofs.Elements.{drop_none, elements_none, take_none}
use Rattle.job_language.specs.Jobs.{AbstractPlainSource}
use Rattle.job_meaning.specs.Walks.{source_walk, values_of}
use Rattle.job_routes.specs.Legs.{windowed}
use Rattle.job_routes.specs.Searches.{keep_places}

-- what stages that keep places make of an item at this place: nothing, an item at that place, or a fault
data Kept (place : ℕ) : Type 0 where
  gone : Kept place
  left : (y : Item) → y.origin ≡ place → Kept place
  failed : Fault → Kept place

abbrev walk_kept : {place : ℕ} → Kept place → Trace
walk_kept gone = nothing
walk_kept (left y o) = trace (y ∷ []) end.Done
walk_kept (failed f) = trace [] (end.Fault f)

one_kept : (n : ℕ) (gs : List AbstractStage) (env : Numbers) (x : Item) → keep_places gs ≡ true
    → (k : Kept x.origin) × (pipe n gs env (trace (x ∷ []) end.Done) ≡ walk_kept k)
one_kept n [] env x h = (left x refl, refl)
one_kept n (map e ∷ gs) env x h =
    by (λ v. one_kept (suc n) gs env (record { origin = x.origin; value = v }) h) (long_value e x env)
  where
    by : ((v : ℤ) → (k : Kept x.origin)
        × (pipe (suc n) gs env (trace (record { origin = x.origin; value = v } ∷ []) end.Done) ≡ walk_kept k))
        → (r : Result ℤ FaultKind)
        → (k : Kept x.origin) × (pipe (suc n) gs env (append (image n x r) nothing) ≡ walk_kept k)
    by later (Ok v) = later v
    by later (Err k) = (failed _, pipe_ended (suc n) gs env _)
one_kept n (filter p ∷ gs) env x h = by (one_kept (suc n) gs env x h) (truth_value p x env)
  where
    by : (k : Kept x.origin) × (pipe (suc n) gs env (trace (x ∷ []) end.Done) ≡ walk_kept k)
        → (r : Result Bool FaultKind)
        → (k : Kept x.origin) × (pipe (suc n) gs env (append (passed n x r) nothing) ≡ walk_kept k)
    by later (Ok true) = later
    by later (Ok false) = (gone, pipe_ended (suc n) gs env end.Done)
    by later (Err k) = (failed _, pipe_ended (suc n) gs env _)
one_kept n (flat_map g ∷ gs) env x h = absurd (let z : false ≡ true = h in cc)

none_after : {A : Type 0} (k : ℕ) (ys : List A) (x : A) (rest : List A) → drop k ys ≡ x ∷ rest → ys ≡ [] → ⊥
none_after k ys x rest h none =
    let l = length-drop k ys in let m = ap length h in let z = ap length none in omega (arith, l, m, z)

module _ (n : ℕ) (gs : List AbstractStage) (env : Numbers) (keeps : keep_places gs ≡ true) where
  abbrev pub walk : List Item → Trace
  walk xs = pipe n gs env (trace xs end.Done)

  -- the item at position k of a walk came from this place: the walks before and from it
  pub record CameFrom (i : ℕ) (xs : List Item) (k q : ℕ) : Type 0 where
    pub low : i ≤ q
    pub high : q < i + length xs
    pub from_on : walk (drop (q - i) xs) ≡ trace (drop k (walk xs).items) (walk xs).ending
    pub before : walk (take (q - i) xs) ≡ trace (take k (walk xs).items) end.Done

  first_walked : (b : Item) (xs : List Item) → walk (b ∷ xs) ≡ append (walk (b ∷ [])) (walk xs)
  first_walked b xs = pipe_more n gs env (b ∷ []) xs end.Done

  pub came_from : (i : ℕ) (vs : List ℤ) (k : ℕ) (x : Item) (rest : List Item)
      → drop k (walk (placed i vs)).items ≡ x ∷ rest → CameFrom i (placed i vs) k x.origin
  came_from i [] k x rest h = absurd (none_after k (walk []).items x rest h
      (ap (λ (t : Trace). t.items) (pipe_ended n gs env end.Done)))
  came_from i (v ∷ vs) k x rest h =
      let one = one_kept n gs env (record { origin = i; value = v }) keeps in
      by (λ k. came_from (suc i) vs k x rest) one.0 one.1 k h
    where
      b : Item
      b = record { origin = i; value = v }

      xs : List Item
      xs = placed (suc i) vs

      by : ((k : ℕ) → drop k (walk xs).items ≡ x ∷ rest → CameFrom (suc i) xs k x.origin)
          → (one : Kept i) → walk (b ∷ []) ≡ walk_kept one → (k : ℕ) → drop k (walk (b ∷ xs)).items ≡ x ∷ rest
          → CameFrom i (b ∷ xs) k x.origin
      by later gone one k h =
          let joined : walk (b ∷ xs) ≡ walk xs =
          first_walked b xs ∙ ap (λ (t : Trace). append t (walk xs)) one in
          let ih = later k (ap (λ (t : Trace). drop k t.items) (sym joined) ∙ h) in
          let q = x.origin in
          let e : q - i ≡ suc (q - suc i) = let l = ih.low in omega (arith, l) in
          record {
            low = (let l = ih.low in omega (arith, l));
            high = (let l = ih.high in omega (arith, l));
            from_on = ap (λ j. walk (drop j (b ∷ xs))) e ∙ ih.from_on
                ∙ ap (λ (t : Trace). trace (drop k t.items) t.ending) (sym joined);
            before = ap (λ j. walk (take j (b ∷ xs))) e ∙ first_walked b (take (q - suc i) xs)
                ∙ ap (λ (t : Trace). append t (walk (take (q - suc i) xs))) one ∙ ih.before
                ∙ ap (λ (t : Trace). trace (take k t.items) end.Done) (sym joined);
          }
      by later (left y o) one zero h =
          let joined : walk (b ∷ xs) ≡ append (trace (y ∷ []) end.Done) (walk xs) =
          first_walked b xs ∙ ap (λ (t : Trace). append t (walk xs)) one in
          let here : y ∷ (walk xs).items ≡ x ∷ rest =
          ap (λ (t : Trace). t.items) (sym joined) ∙ sym (drop_none (walk (b ∷ xs)).items) ∙ h in
          let same : y ≡ x = cc in
          let at : x.origin ≡ i = ap (λ (z : Item). z.origin) (sym same) ∙ o in
          let e : x.origin - i ≡ 0 = omega (arith, at) in
          record {
            low = omega (arith, at);
            high = omega (arith, at);
            from_on = ap (λ j. walk (drop j (b ∷ xs))) e ∙ ap walk (drop_none (b ∷ xs))
                ∙ ap (λ zs. trace zs (walk (b ∷ xs)).ending) (sym (drop_none (walk (b ∷ xs)).items));
            before = ap (λ j. walk (take j (b ∷ xs))) e ∙ ap walk (take_none (b ∷ xs))
                ∙ pipe_ended n gs env end.Done
                ∙ ap (λ zs. trace zs end.Done) (sym (take_none (walk (b ∷ xs)).items));
          }
      by later (left y o) one (suc k) h =
          let joined : walk (b ∷ xs) ≡ append (trace (y ∷ []) end.Done) (walk xs) =
          first_walked b xs ∙ ap (λ (t : Trace). append t (walk xs)) one in
          let ih = later k (ap (λ (t : Trace). drop (suc k) t.items) (sym joined) ∙ h) in
          let q = x.origin in
          let e : q - i ≡ suc (q - suc i) = let l = ih.low in omega (arith, l) in
          record {
            low = (let l = ih.low in omega (arith, l));
            high = (let l = ih.high in omega (arith, l));
            from_on = ap (λ j. walk (drop j (b ∷ xs))) e ∙ ih.from_on
                ∙ ap (λ (t : Trace). trace (drop (suc k) t.items) t.ending) (sym joined);
            before = ap (λ j. walk (take j (b ∷ xs))) e ∙ first_walked b (take (q - suc i) xs)
                ∙ (λ j. append (one j) (ih.before j))
                ∙ ap (λ (t : Trace). trace (take (suc k) t.items) end.Done) (sym joined);
          }
      by later (failed f) one k h =
          let joined : walk (b ∷ xs) ≡ trace [] (end.Fault f) =
          first_walked b xs ∙ ap (λ (t : Trace). append t (walk xs)) one in
          absurd (none_after k (walk (b ∷ xs)).items x rest h (ap (λ (t : Trace). t.items) joined))

-- ---- positions of sources

drop_placed : (k i : ℕ) (vs : List ℤ) → drop k (placed i vs) ≡ placed (i + k) (drop k vs)
drop_placed zero i vs = let e : i ≡ i + 0 = omega arith in
    drop_none (placed i vs) ∙ (λ j. placed (e j) (sym (drop_none vs) j))
drop_placed (suc k) i [] = refl
drop_placed (suc k) i (v ∷ vs) = let e : suc i + k ≡ i + suc k = omega arith in
    drop_placed k (suc i) vs ∙ ap (λ j. placed j (drop k vs)) e

take_placed : (k i : ℕ) (vs : List ℤ) → take k (placed i vs) ≡ placed i (take k vs)
take_placed zero i vs = take_none (placed i vs) ∙ ap (placed i) (sym (take_none vs))
take_placed (suc k) i [] = refl
take_placed (suc k) i (v ∷ vs) = ap (λ (xs : List Item). record { origin = i; value = v } ∷ xs)
    (take_placed k (suc i) vs)

dropped_placed : (k : ℕ) (vs : List ℤ) → drop k (placed 0 vs) ≡ placed k (drop k vs)
dropped_placed k vs = let e : 0 + k ≡ k = omega arith in drop_placed k 0 vs ∙ ap (λ j. placed j (drop k vs)) e

elements_placed : (from : ℕ) (to : Option ℕ) (vs : List ℤ)
    → elements from to (placed 0 vs) ≡ placed from (elements from to vs)
elements_placed from None vs = dropped_placed from vs
elements_placed from (Some to) vs = ap (take (to - from)) (dropped_placed from vs)
    ∙ take_placed (to - from) from (drop from vs)

few_elements : (from : ℕ) (to : Option ℕ) (vs : List ℤ) → length vs ≤ 2 ^ 62
    → 0 < length (elements from to vs) → from + length (elements from to vs) ≤ 2 ^ 62
few_elements from None vs few some_there = let l = length-drop from vs in omega (arith, l, few, some_there)
few_elements from (Some to) vs few some_there =
    let l = length-drop from vs in let m = length-take (to - from) (drop from vs) in
    omega (arith, l, m, few, some_there)

-- what holds of an ended walk, and of values at places that count up, holds of positions of sources
pub of_window : (P : Trace → Type 0) (from : ℕ) (to : Option ℕ) (ss : List AbstractPlainSource)
    → ((e : End) → P (trace [] e))
    → ((us : List ℤ) → (0 < length us → from + length us ≤ 2 ^ 62) → P (trace (placed from us) end.Done))
    → P (windowed from to (source_walk ss))
of_window P from to ss ended some_placed = by (nat_lt (2 ^ 62) (length vs)) refl
  where
    vs : List ℤ
    vs = values_of ss

    by : (b : Bool) → nat_lt (2 ^ 62) (length vs) ≡ b
        → P (windowed from to (if b then too_long else trace (placed 0 vs) end.Done))
    by true h = subst (λ (xs : List Item). P (trace xs too_long.ending)) (sym (elements_none from to))
        (ended too_long.ending)
    by false h = subst (λ (xs : List Item). P (trace xs end.Done)) (sym (elements_placed from to vs))
        (some_placed (elements from to vs)
        (few_elements from to vs (let l = ltb-false (2 ^ 62) (length vs) h in omega (arith, l))))
