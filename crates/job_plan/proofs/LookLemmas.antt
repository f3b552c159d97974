-- A sink that may leave a walk.
use Rattle.std.proofs.Common.{◌≡◌, ℕ, ◌≤◌, Bool, true, false, List, ◌++◌, take, Result, Ok, Err, OnErr, refl}
use Rattle.std.proofs.Common.{true≢false, sym, subst}
use Rattle.std.specs.declared.alloc.AllocError.{AllocError}
use Rattle.lambda_values.specs.declared.item.Item.{Item}
use Rattle.trace.specs.declared.feeding.Fed.{Fed}
use Rattle.trace.specs.declared.feeding.Fed.TheVariants as fed
use Rattle.trace.specs.declared.sink.Flow.{Flow}
use Rattle.trace.specs.declared.sink.Flow.TheVariants as flow
use Rattle.trace.specs.Sinks.{IsFed}
use Rattle.trace.specs.Trace.{Trace}
use Rattle.job_plan.specs.Stretches.{IsDecided, UnlessLeft, flow_unless}

-- a sink that wants an item hasn't left
pub not_left : (b : Bool) (f : Flow) → flow_unless b f ≡ flow.More → b ≡ false
not_left false f h = refl
not_left true f h = cc

-- and the sink that it gives items to wants one
pub inner_wants : (b : Bool) (f : Flow) → flow_unless b f ≡ flow.More → f ≡ flow.More
inner_wants false f h = h
inner_wants true f h = cc

pub inner_flow : (b : Bool) (f : Flow) → b ≡ false → flow_unless b f ≡ f
inner_flow false f h = refl
inner_flow true f h = absurd (true≢false h)

module _ (decides : ℕ → Type 0) (from : ℕ) (P : Type 0) where
  pub still_taken : (b : Bool) → b ≡ false → UnlessLeft b decides from P → P
  still_taken false h p = p
  still_taken true h p = absurd (true≢false h)

  pub left_decided : (b : Bool) → b ≡ true → UnlessLeft b decides from P → IsDecided decides from
  left_decided false h p = absurd (true≢false (sym h))
  left_decided true h p = p

  pub unless_left : (b : Bool) → (b ≡ true → IsDecided decides from) → P → UnlessLeft b decides from P
  unless_left false h p = p
  unless_left true h p = h refl

-- a place that was seen decides also as it was named first
pub as_named : {W : Type 0} (places : W → ℕ → Type 0) (decides : ℕ → Type 0) (from start : ℕ) (w : W) → start ≡ from
    → ((c : ℕ) → places w c → decides c) → IsDecided (places w) start → IsDecided decides from
as_named places decides from start w is to seen = (seen.0, to seen.0 seen.1, subst (λ (n : ℕ). seen.0 ≤ n) is seen.2)

-- some items were taken, whatever became of the others
pub some_taken : {S : Type 0} (h : S → List Item → Type 0) (xs : List Item) (t : Trace) (r : Result Fed AllocError)
    (s : S) → IsFed h xs t r s → (ys : List Item) × h s ys
some_taken h xs t (Ok fed.More) s p = (xs ++ t.items, p.0)
some_taken h xs t (Ok (fed.Fault f)) s p = (xs ++ t.items, p.0)
some_taken h xs t (Ok fed.Enough) s p = (xs ++ take p.0 t.items, p.2)
some_taken h xs t (Err e) s p = (xs ++ take p.0 t.items, p.2)

pub on_err_map : {A E P Q : Type 0} (r : Result A E) → (P → Q) → OnErr r P → OnErr r Q
on_err_map (Ok a) f p = p
on_err_map (Err e) f p = f p
