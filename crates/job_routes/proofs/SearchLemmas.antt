-- What a search finds, and what the leg after it makes of the positions that are left.
use Rattle.std.proofs.Common.{◌≡◌, ◌≤◌, ◌<◌, ℕ, suc, ◌+◌, ◌-◌, ◌^◌, ℤ, pos, unsigned_abs, Bool, true, false, not}
use Rattle.std.proofs.Common.{List, [], ◌∷◌, length, take, drop, Option, Some, None, Result, Ok, Err, refl, sym}
use Rattle.std.proofs.Common.{ap, ◌∙◌, arith}
use Rattle.std.specs.Int.{w64}
use Rattle.std.proofs.lemmas.Int.{int_wrap_fits}
use Rattle.lambda_values.specs.Earlier.{Numbers}
use Rattle.lambda_values.specs.Term.{Truth, opposite, row}
use Rattle.lambda_values.specs.Operators.{on}
use Rattle.lambda_values.specs.Value.{truth_value}
use Rattle.lambda_values.specs.Wrap.{wrap}
use Rattle.lambda_values.specs.declared.fault.FaultKind.{FaultKind}
use Rattle.lambda_values.specs.declared.item.Item.{Item}
use Rattle.trace.specs.Cover.{placed}
use Rattle.trace.specs.declared.item.End.{End}
use Rattle.trace.specs.declared.item.End.TheVariants as end
use Rattle.trace.specs.Stages.{map, AbstractStage, filter, passed, pipe, through}
use Rattle.trace.specs.Stops.{kept_before, kept_from, shift, stop_at, stop_or}
use Rattle.trace.specs.Trace.{Trace, trace, append}
use Rattle.trace.proofs.JoinLemmas.{pipe_ended}
use Rattle.trace.proofs.Ranges.{small}
use Rattle.trace.proofs.Sources.{length-placed}
use Rattle.slice_ops.specs.Slices.{dropped, end_by, front_ends, skipped, taken}
use Rattle.prefix_walks.proofs.Elements.{drop_none, take_none}
use Rattle.job_meaning.specs.declared.answer.Answer.{Answer}
use Rattle.job_meaning.specs.declared.answer.Answer.TheVariants as answer
use Rattle.job_routes.specs.declared.outcome.Outcome.TheVariants as outcome
use Rattle.job_routes.specs.declared.route.PlaceSide.TheVariants as side
use Rattle.job_routes.specs.Legs.{left_by_search, windowed}
use Rattle.job_routes.specs.Searches.{keep_places, place_found}
use Rattle.job_routes.proofs.PlaceOfItem.{came_from, walk}

-- ---- the place of the first item of a walk, as an answer

abbrev first_place : List Item → End → Answer
first_place [] end.Done = answer.Optional None
first_place [] (end.Fault f) = answer.Fault f
first_place (x ∷ xs) e = answer.Optional (Some (wrap (pos x.origin)))

abbrev pub place_in : Trace → Answer
place_in t = first_place t.items t.ending

pub finds_place : (n : ℕ) (env : Numbers) (t : Trace) → place_found n env t ≡ outcome.Answer (place_in t)
finds_place n env t = by t.items t.ending
  where
    by : (xs : List Item) (e : End) → place_found n env (trace xs e) ≡ outcome.Answer (first_place xs e)
    by [] end.Done = refl
    by [] (end.Fault f) = refl
    by (x ∷ xs) e = refl

-- a search without a place
pub without_item : (i : ℕ) (e : End) (t : Trace) → left_by_search side.From i (place_in (trace [] e)) t ≡ trace [] e
without_item i end.Done t = refl
without_item i (end.Fault f) t = refl

pub without_stop : (i : ℕ) (e : End) (t : Trace) → left_by_search side.Before i (place_in (trace [] e)) t ≡ t
without_stop i end.Done t = refl
without_stop i (end.Fault f) t = refl

-- ---- a test that is not true at an item

module _ (m : ℕ) (p : Truth) (env : Numbers) where
  abbrev pub bad : List Item → End → Trace
  bad xs e = through m (filter (opposite p)) env (trace xs e)

  abbrev pub good : List Item → End → Trace
  good xs e = through m (filter p) env (trace xs e)

  -- what a filter by the opposite leaves, if the first item at which the test isn't true stands there
  abbrev FailsAt : ℕ → End → List Item → Trace → Type 0
  FailsAt k end.Done xs t = (x : Item) × (rest : List Item) × (drop k xs ≡ x ∷ rest)
      × (place_in t ≡ answer.Optional (Some (wrap (pos x.origin))))
  FailsAt k (end.Fault f) xs t = t ≡ trace [] (end.Fault f)

  abbrev Fails : Option (ℕ × End) → List Item → End → Trace → Type 0
  Fails None xs e t = t ≡ trace [] e
  Fails (Some s) xs e t = FailsAt s.0 s.1 xs t

  fails_later : (o : Option (ℕ × End)) (x : Item) (xs : List Item) (e : End) (t : Trace) → Fails o xs e t
      → Fails (shift 1 o) (x ∷ xs) e t
  fails_later None x xs e t h = h
  fails_later (Some (k, end.Done)) x xs e t h =
      let s : 1 + k ≡ suc k = omega arith in (h.0, h.1, ap (λ j. drop j (x ∷ xs)) s ∙ h.2, h.3)
  fails_later (Some (k, end.Fault f)) x xs e t h = h

  fails : (xs : List Item) (e : End) → Fails (stop_at (front_ends p m env) xs) xs e (bad xs e)
  fails [] e = refl
  fails (x ∷ xs) e = by (fails xs e) (truth_value p x env)
    where
      by : Fails (stop_at (front_ends p m env) xs) xs e (bad xs e) → (r : Result Bool FaultKind)
          → Fails (stop_or (end_by m x r) (shift 1 (stop_at (front_ends p m env) xs))) (x ∷ xs) e
          (append (passed m x (on r (λ b. Ok (not b)))) (bad xs e))
      by later (Ok true) = fails_later (stop_at (front_ends p m env) xs) x xs e (bad xs e) later
      by later (Ok false) = (x, xs, drop_none (x ∷ xs), refl)
      by later (Err k) = refl

  -- what a filter by the test leaves of what comes before that item
  abbrev PassesAt : ℕ → End → List Item → End → Type 0
  PassesAt k end.Done xs e = good (take k xs) end.Done ≡ trace (take k xs) end.Done
  PassesAt k (end.Fault f) xs e = good xs e ≡ trace (take k xs) (end.Fault f)

  abbrev Passes : Option (ℕ × End) → List Item → End → Type 0
  Passes None xs e = good xs e ≡ trace xs e
  Passes (Some s) xs e = PassesAt s.0 s.1 xs e

  passes_later : (o : Option (ℕ × End)) (x : Item) (xs : List Item) (e : End) → truth_value p x env ≡ Ok true
      → Passes o xs e → Passes (shift 1 o) (x ∷ xs) e
  passes_later None x xs e one h = λ i. append (passed m x (one i)) (h i)
  passes_later (Some (k, end.Done)) x xs e one h =
      let s : 1 + k ≡ suc k = omega arith in
      ap (λ j. good (take j (x ∷ xs)) end.Done) s ∙ (λ i. append (passed m x (one i)) (h i))
      ∙ ap (λ j. trace (take j (x ∷ xs)) end.Done) (sym s)
  passes_later (Some (k, end.Fault f)) x xs e one h =
      let s : 1 + k ≡ suc k = omega arith in
      (λ i. append (passed m x (one i)) (h i)) ∙ ap (λ j. trace (take j (x ∷ xs)) (end.Fault f)) (sym s)

  passes : (xs : List Item) (e : End) → Passes (stop_at (front_ends p m env) xs) xs e
  passes [] e = refl
  passes (x ∷ xs) e = by (passes xs e) (truth_value p x env) refl
    where
      by : Passes (stop_at (front_ends p m env) xs) xs e → (r : Result Bool FaultKind) → truth_value p x env ≡ r
          → Passes (stop_or (end_by m x r) (shift 1 (stop_at (front_ends p m env) xs))) (x ∷ xs) e
      by later (Ok true) one = passes_later (stop_at (front_ends p m env) xs) x xs e one later
      by later (Ok false) one = ap (λ ys. good ys end.Done) (take_none (x ∷ xs))
          ∙ ap (λ ys. trace ys end.Done) (sym (take_none (x ∷ xs)))
      by later (Err k) one = ap (λ r. append (passed m x r) (good xs e)) one
          ∙ ap (λ ys. trace ys (end.Fault (record { kind = k; stage = m; origin = Some x.origin })))
          (sym (take_none (x ∷ xs)))

-- ---- positions that are left

-- a place as a number of 64 bits, and back
place_back : (q : ℕ) → q < 2 ^ 62 → unsigned_abs (wrap (pos q)) ≡ q
place_back q low = ap unsigned_abs (int_wrap_fits w64 (pos q) (small q (2 ^ 62) low (omega arith)))

module _ (n : ℕ) (gs : List AbstractStage) (env : Numbers) (keeps : keep_places gs ≡ true) where
  abbrev walks : Trace → Trace
  walks t = pipe n gs env t

  module _ (i : ℕ) (us : List ℤ) (few : 0 < length us → i + length us ≤ 2 ^ 62) where
    abbrev xs : List Item
    xs = placed i us

    abbrev w : Trace
    w = walk n gs env keeps xs

    there : (k : ℕ) (x : Item) (rest : List Item) → drop k w.items ≡ x ∷ rest
        → unsigned_abs (wrap (pos x.origin)) ≡ x.origin
    there k x rest h =
        let c = came_from n gs env keeps i us k x rest h in
        let a = c.low in let b = c.high in let l = length-placed i us in
        let all = few (omega (arith, a, b, l)) in
        place_back x.origin (omega (arith, a, b, l, all))

    -- the positions from the place of an item on
    pub from_item : (k : ℕ) (x : Item) (rest : List Item) → drop k w.items ≡ x ∷ rest
        → walks (left_by_search side.From i (answer.Optional (Some (wrap (pos x.origin)))) (trace xs end.Done))
        ≡ trace (drop k w.items) w.ending
    from_item k x rest h =
        ap (λ q. walks (windowed (q - i) None (trace xs end.Done))) (there k x rest h)
        ∙ (came_from n gs env keeps i us k x rest h).from_on

    -- the positions before it
    pub before_item : (k : ℕ) (x : Item) (rest : List Item) → drop k w.items ≡ x ∷ rest
        → walks (left_by_search side.Before i (answer.Optional (Some (wrap (pos x.origin)))) (trace xs end.Done))
        ≡ trace (take k w.items) end.Done
    before_item k x rest h =
        let e : (x.origin - i) - 0 ≡ x.origin - i = omega arith in
        ap (λ q. walks (windowed 0 (Some (q - i)) (trace xs end.Done))) (there k x rest h)
        ∙ (λ j. walks (trace (take (e j) (drop_none xs j)) end.Done))
        ∙ (came_from n gs env keeps i us k x rest h).before

    pub skip_left : (k : ℕ) → walks (left_by_search side.From i (place_in (skipped k w)) (trace xs end.Done))
        ≡ skipped k w
    skip_left k = by (drop k w.items) refl
      where
        by : (ys : List Item) → drop k w.items ≡ ys
            → walks (left_by_search side.From i (first_place ys w.ending) (trace xs end.Done)) ≡ trace ys w.ending
        by [] h = ap walks (without_item i w.ending (trace xs end.Done)) ∙ pipe_ended n gs env w.ending
        by (x ∷ rest) h = from_item k x rest h ∙ ap (λ ys. trace ys w.ending) h

    module _ (m : ℕ) (p : Truth) where
      pub drop_left : walks (left_by_search side.From i (place_in (bad m p env w.items w.ending)) (trace xs end.Done))
          ≡ dropped p m env w
      drop_left = by (stop_at (front_ends p m env) w.items) (fails m p env w.items w.ending)
        where
          by : (o : Option (ℕ × End)) → Fails m p env o w.items w.ending (bad m p env w.items w.ending)
              → walks (left_by_search side.From i (place_in (bad m p env w.items w.ending)) (trace xs end.Done))
              ≡ kept_from o w
          by None h = ap (λ (t : Trace). walks (left_by_search side.From i (place_in t) (trace xs end.Done))) h
              ∙ ap walks (without_item i w.ending (trace xs end.Done)) ∙ pipe_ended n gs env w.ending
          by (Some (k, end.Done)) h =
              ap (λ (a : Answer). walks (left_by_search side.From i a (trace xs end.Done))) h.3
              ∙ from_item k h.0 h.1 h.2
          by (Some (k, end.Fault f)) h =
              ap (λ (t : Trace). walks (left_by_search side.From i (place_in t) (trace xs end.Done))) h
              ∙ pipe_ended n gs env (end.Fault f)

      pub take_left : through m (filter p) env
          (walks (left_by_search side.Before i (place_in (bad m p env w.items w.ending)) (trace xs end.Done)))
          ≡ taken p m env w
      take_left = by (stop_at (front_ends p m env) w.items) (fails m p env w.items w.ending)
          (passes m p env w.items w.ending)
        where
          by : (o : Option (ℕ × End)) → Fails m p env o w.items w.ending (bad m p env w.items w.ending)
              → Passes m p env o w.items w.ending
              → through m (filter p) env
              (walks (left_by_search side.Before i (place_in (bad m p env w.items w.ending)) (trace xs end.Done)))
              ≡ kept_before o w
          by None h pass =
              ap (λ (t : Trace). through m (filter p) env
              (walks (left_by_search side.Before i (place_in t) (trace xs end.Done)))) h
              ∙ ap (λ (t : Trace). through m (filter p) env (walks t)) (without_stop i w.ending (trace xs end.Done))
              ∙ pass
          by (Some (k, end.Done)) h pass =
              ap (λ (a : Answer). through m (filter p) env
              (walks (left_by_search side.Before i a (trace xs end.Done)))) h.3
              ∙ ap (through m (filter p) env) (before_item k h.0 h.1 h.2) ∙ pass
          by (Some (k, end.Fault f)) h pass =
              ap (λ (t : Trace). through m (filter p) env
              (walks (left_by_search side.Before i (place_in t) (trace xs end.Done)))) h
              ∙ pass

      -- and without the filter, where nothing has a fault
      pub take_calm : (through (suc m) (map row) env (bad m p env w.items w.ending)).ending ≡ end.Done
          → walks (left_by_search side.Before i (place_in (bad m p env w.items w.ending)) (trace xs end.Done))
          ≡ taken p m env w
      take_calm calm = by (stop_at (front_ends p m env) w.items) (fails m p env w.items w.ending)
        where
          by : (o : Option (ℕ × End)) → Fails m p env o w.items w.ending (bad m p env w.items w.ending)
              → walks (left_by_search side.Before i (place_in (bad m p env w.items w.ending)) (trace xs end.Done))
              ≡ kept_before o w
          by None h = ap (λ (t : Trace). walks (left_by_search side.Before i (place_in t) (trace xs end.Done))) h
              ∙ ap walks (without_stop i w.ending (trace xs end.Done))
          by (Some (k, end.Done)) h =
              ap (λ (a : Answer). walks (left_by_search side.Before i a (trace xs end.Done))) h.3
              ∙ before_item k h.0 h.1 h.2
          by (Some (k, end.Fault f)) h = absurd (let z : end.Done ≡ end.Fault f =
              sym calm ∙ ap (λ (t : Trace). (through (suc m) (map row) env t).ending) h in cc)
