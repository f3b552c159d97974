-- One stretch of a walk after the others.
use Rattle.std.proofs.Common.{◌≡◌, ℕ, ◌≤◌, ◌-◌, List, [], take, drop, Option, Some, None, IfSome, Ok, sym, ap, ◌∙◌}
use Rattle.std.proofs.Common.{arith}
use Rattle.lambda_values.specs.declared.item.Item.{Item}
use Rattle.trace.specs.declared.item.End.TheVariants as end
use Rattle.trace.specs.declared.feeding.Fed.{Fed}
use Rattle.trace.specs.declared.feeding.Fed.TheVariants as fed
use Rattle.trace.specs.Trace.{Trace, trace}
use Rattle.batch_eval.specs.declared.pipeline.Pipeline.{Pipeline}
use Rattle.batch_eval.specs.Pipelines.{piped}
use Rattle.prefix_walks.specs.Pieces.{IsNotAfter, elements}
use Rattle.job_plan.specs.Stretches.{IsWalked}
use Rattle.prefix_walks.proofs.Elements.{elements_join, take_none}
use Rattle.prefix_walks.proofs.FeedLemmas.{fed_both, fed_stopped, fed_none}

pub in_order : (end p : ℕ) (to : Option ℕ) → IfSome to (λ t. end ≤ t) → p ≤ end → IsNotAfter p to
in_order end p None h l = tt
in_order end p (Some t) h l = omega (arith, h, l)

module _ {S : Type 0} (h : S → List Item → Type 0) (line : Pipeline) (items : List Item) (from : ℕ) where
  abbrev walk : List Item → Trace
  walk ys = piped line (trace ys end.Done)

  -- before the first one
  pub none_walked : (s : S) → IsWalked h walk (elements from (Some from) items) s fed.More s
  none_walked s xs took = fed_none h line xs (elements from (Some from) items) s none took
    where
      none : elements from (Some from) items ≡ []
      none = let z : from - from ≡ 0 = omega arith in ap (λ n. take n (drop from items)) z ∙ take_none (drop from items)

  -- one more
  pub more_walked : (p : ℕ) (to : Option ℕ) (r : Fed) (s t u : S) → from ≤ p → IsNotAfter p to
      → IsWalked h walk (elements from (Some p) items) s fed.More t → IsWalked h walk (elements p to items) t r u
      → IsWalked h walk (elements from to items) s r u
  more_walked p to r s t u low high before next xs took =
      fed_both h line xs (elements from (Some p) items) (elements p to items) (elements from to items) (Ok r) t u
      (sym (elements_join from p to items low high)) (before xs took) next

  -- the walk ended before the end of the piece
  pub ended_walked : (p : ℕ) (to : Option ℕ) (r : Fed) (s u : S) → from ≤ p → IsNotAfter p to → (r ≡ fed.More → ⊥)
      → IsWalked h walk (elements from (Some p) items) s r u → IsWalked h walk (elements from to items) s r u
  ended_walked p to r s u low high other before xs took =
      fed_stopped h line xs (elements from (Some p) items) (elements p to items) (elements from to items) (Ok r) u
      (sym (elements_join from p to items low high)) (λ e. other (let k : r ≡ fed.More = cc in k)) (before xs took)
