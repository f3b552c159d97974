-- The items of lanes whose places are known.
use Rattle.std.proofs.Common.{◌≡◌, ℕ, ◌+◌, ◌<◌, ◌≤◌, ◌^◌, ℤ, pos, List, Option, Some, None, Result, length, refl, ap}
use Rattle.std.proofs.Common.{◌∙◌, subst, arith}
use Rattle.std.proofs.lemmas.Option.{get_or_from_slice_get}
use Rattle.lambda_values.specs.declared.fault.FaultKind.{FaultKind}
use Rattle.lambda_values.specs.declared.item.Item.{Item}
use Rattle.batch_eval.specs.declared.reached.Reached.{Reached}
use Rattle.batch_eval.specs.declared.rows.Rows.{Rows}
use Rattle.batch_eval.specs.declared.rows.Rows.TheVariants as rows
use Rattle.lambda_values.specs.Earlier.{Numbers}
use Rattle.lambda_values.specs.Streams.{Inner, inner_value}
use Rattle.batch_eval.specs.Batches.{CountsUp, item_at, laid_items, origin_at}
use Rattle.batch_eval.specs.InnerColumns.{HaveOperands, given}
use Rattle.batch_eval.specs.Lanes.{Reaches, at}
use Rattle.batch_eval.specs.Rows.{HasRows, row_at}
use Rattle.batch_eval.proofs.Items.{lane_at}
use Rattle.batch_eval.proofs.Steps.{Reaches_same}

module _ (start : Option ℕ) (origins places : List ℕ) (values xs : List ℤ) (rows : Rows)
    (place : (k : ℕ) → row_at rows k ≡ origin_at start places k) (same_places : places ≡ origins)
    (same_values : xs ≡ values) where
  pub lane_is : (k : ℕ) → record { origin = row_at rows k; value = at xs k } ≡ item_at start origins values k
  lane_is k =
      ap (λ (i : ℕ). record { origin = i; value = at xs k })
      (place k ∙ ap (λ (os : List ℕ). origin_at start os k) same_places)
      ∙ ap (λ (vs : List ℤ). record { origin = origin_at start origins k; value = at vs k }) same_values

  -- what an expression gives at the items
  pub reaches_lanes : (f : Item → Result ℤ FaultKind) (column : ℕ → ℤ) (n : ℕ) (r : Reached)
      → Reaches (λ k. f (record { origin = row_at rows k; value = at xs k })) column n r
      → Reaches (λ k. f (item_at start origins values k)) column n r
  reaches_lanes f column n r h = Reaches_same (λ k. f (record { origin = row_at rows k; value = at xs k }))
      (λ k. f (item_at start origins values k)) column n r (λ k below. ap f (lane_is k)) h

-- there are places for fewer lanes
pub fewer_rows : (places : Rows) (m n : ℕ) → m ≤ n → HasRows places n → HasRows places m
fewer_rows (rows.From first) m n less has = omega (arith, less, has)
fewer_rows (rows.Listed listed) m n less has = omega (arith, less, has)
fewer_rows (rows.Moved register) m n less has = omega (arith, less, has)

-- places that count up stay below 2^64
pub counts_of : (start : Option ℕ) (n : ℕ) → ((first : ℕ) → start ≡ Some first → first + n < 2 ^ 64) → CountsUp start n
counts_of None n counts = tt
counts_of (Some first) n counts = counts first refl

-- the operands at items that lie in lanes
pub operands_laid : (inner : Inner) (env : Numbers) (start : Option ℕ) (places : List ℕ) (values : List ℤ) (n : ℕ)
    (registers : List ℤ) (items : List Item) → laid_items start places values ≡ items → n ≤ length values
    → ((k : ℕ) → k < n → inner_value inner (item_at start places values k) env ≡ given inner registers k)
    → HaveOperands inner env items n registers
operands_laid inner env start places values n registers items same within operands =
    let lane : ℕ → Item = item_at start places values in
    subst (λ (xs : List Item). HaveOperands inner env xs n registers) same
    (λ k below. ap (λ (x : Item). inner_value inner x env)
    (get_or_from_slice_get (laid_items start places values) k (lane k) (record { origin = 0; value = pos 0 })
    (lane_at (length values) k lane (omega arith))) ∙ operands k below)
