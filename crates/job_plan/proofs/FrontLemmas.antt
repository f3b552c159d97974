-- Items that come before the first one that an end's test decides at.
use Rattle.std.proofs.Common.{◌≡◌, ◌≢◌, ℕ, zero, suc, ◌+◌, ◌<◌, ◌≤◌, ℤ, pos, Bool, true, false, List, [], ◌∷◌, length}
use Rattle.std.proofs.Common.{take, get_or, Option, Some, None, Result, Ok, Err, refl, sym, ap, ◌∙◌, arith}
use Rattle.std.proofs.lemmas.Option.{get_or_from_slice_get}
use Rattle.std.specs.Option.{option_or}
use Rattle.batch_eval.specs.Batches.{item_at, laid_items}
use Rattle.batch_eval.proofs.Items.{lane_at}
use Rattle.lambda_values.specs.Earlier.{Numbers}
use Rattle.lambda_values.specs.Term.{Truth}
use Rattle.lambda_values.specs.Value.{truth_value}
use Rattle.lambda_values.specs.declared.fault.FaultKind.{FaultKind}
use Rattle.lambda_values.specs.declared.item.Item.{Item}
use Rattle.trace.specs.declared.item.End.{End}
use Rattle.trace.specs.Stops.{shift, stop_or, stop_at}
use Rattle.find_ops.specs.declared.find_part.Found.TheVariants as found
use Rattle.find_ops.specs.Finds.{Find, any_match, all_match, none_match, decision, first_decision, if_true, if_false}
use Rattle.find_ops.specs.Finds.{tested}
use Rattle.slice_ops.specs.Slices.{front_ends, end_by}
use Rattle.slice_ops.specs.Rests.{before_stop}

-- helper: for a place that no item has
abbrev pub no_item : Item
no_item = record { origin = 0; value = pos 0 }

-- the test has this value at the first k items
abbrev pub Passes : Truth → Numbers → Bool → List Item → ℕ → Type 0
Passes p env b xs k = (j : ℕ) → j < k → truth_value p (get_or xs j no_item) env ≡ Ok b

-- ---- items that lie in lanes

module _ (start : Option ℕ) (places : List ℕ) (values : List ℤ) where
  laid_at : (j : ℕ) → j < length values → get_or (laid_items start places values) j no_item
      ≡ item_at start places values j
  laid_at j below = get_or_from_slice_get (laid_items start places values) j (item_at start places values j) no_item
      (lane_at (length values) j (item_at start places values) below)

  pub laid_pass : (p : Truth) (env : Numbers) (b : Bool) (k : ℕ) → k ≤ length values
      → ((j : ℕ) → j < k → truth_value p (item_at start places values j) env ≡ Ok b)
      → Passes p env b (laid_items start places values) k
  laid_pass p env b k few h j below = ap (λ (x : Item). truth_value p x env) (laid_at j (omega (arith, few, below)))
      ∙ h j below

  pub laid_stop : (p : Truth) (env : Numbers) (k : ℕ)
      → (k < length values → truth_value p (item_at start places values k) env ≢ Ok true)
      → k < length values → truth_value p (get_or (laid_items start places values) k no_item) env ≢ Ok true
  laid_stop p env k h below yes_true = h below
      (sym (ap (λ (x : Item). truth_value p x env) (laid_at k below)) ∙ yes_true)

-- ---- finds

module _ (p : Truth) (n : ℕ) (env : Numbers) where
  pub any_undecided : (x : Item) → truth_value p x env ≡ Ok false → decision (any_match p) n env x ≡ None
  any_undecided x h = ap (tested n x (if_true (found.Truth true))) h

  pub all_undecided : (x : Item) → truth_value p x env ≡ Ok true → decision (all_match p) n env x ≡ None
  all_undecided x h = ap (tested n x (if_false (found.Truth false))) h

  pub none_undecided : (x : Item) → truth_value p x env ≡ Ok false → decision (none_match p) n env x ≡ None
  none_undecided x h = ap (tested n x (if_true (found.Truth false))) h

  module _ (d : Find) (b : Bool) (one : (x : Item) → truth_value p x env ≡ Ok b → decision d n env x ≡ None) where
    pub none_decides : (xs : List Item) (k : ℕ) → Passes p env b xs k → first_decision d n env (take k xs) ≡ None
    none_decides [] zero h = refl
    none_decides [] (suc k) h = refl
    none_decides (x ∷ xs) zero h = refl
    none_decides (x ∷ xs) (suc k) h =
        ap (λ o. option_or o (first_decision d n env (take k xs))) (one x (h 0 (omega arith)))
        ∙ none_decides xs k (λ j below. h (suc j) (omega (arith, below)))

-- ---- takeWhile

module _ (p : Truth) (n : ℕ) (env : Numbers) where
  goes_on : (x : Item) → truth_value p x env ≡ Ok true → front_ends p n env x ≡ None
  goes_on x h = ap (end_by n x) h

  ends : (x : Item) → truth_value p x env ≢ Ok true → (e : End) × (front_ends p n env x ≡ Some e)
  ends x h = by (truth_value p x env) refl
    where
      by : (r : Result Bool FaultKind) → truth_value p x env ≡ r → (e : End) × (front_ends p n env x ≡ Some e)
      by (Ok true) e = absurd (h e)
      by (Ok false) e = (_, ap (end_by n x) e)
      by (Err k) e = (_, ap (end_by n x) e)

  next_stop : (x : Item) (xs : List Item) (o : Option (ℕ × End))
      → before_stop (shift 1 o) (x ∷ xs) ≡ suc (before_stop o xs)
  next_stop x xs None = refl
  next_stop x xs (Some q) = let k : 1 + q.0 ≡ suc q.0 = omega arith in k

  pub is_front : (xs : List Item) (k : ℕ) → k ≤ length xs → Passes p env true xs k
      → (k < length xs → truth_value p (get_or xs k no_item) env ≢ Ok true)
      → k ≡ before_stop (stop_at (front_ends p n env) xs) xs
  is_front [] k few h stop = omega (arith, few)
  is_front (x ∷ xs) zero few h stop =
      let e = ends x (stop (omega arith)) in
      sym (ap (λ o. before_stop (stop_or o (shift 1 (stop_at (front_ends p n env) xs))) (x ∷ xs)) e.1)
  is_front (x ∷ xs) (suc k) few h stop =
      let later = is_front xs k (omega (arith, few)) (λ j below. h (suc j) (omega (arith, below)))
      (λ below. stop (omega (arith, below))) in
      ap suc later ∙ sym (next_stop x xs (stop_at (front_ends p n env) xs))
      ∙ sym (ap (λ o. before_stop (stop_or o (shift 1 (stop_at (front_ends p n env) xs))) (x ∷ xs))
      (goes_on x (h 0 (omega arith))))
