-- The nodes of a view that was split or joined.
use Rattle.std.proofs.Common.{List, ℕ, ◌≤◌, arith}
use mathlib.Core.Logic.{dite}
use native.Mathlib.Decide.{ℕ_discrete}
use Rattle.completion_core.specs.Graph.{copies}
use Rattle.completion_core.specs.Legal.{count}
use Rattle.pending_count.specs.declared.view.View.{View}
use Rattle.pending_count.specs.Views.{InRange, joined_view, rest_view, part_view}
use Rattle.pending_count.proofs.SumLemmas.{one_at, total-append, total-minus}
use Rattle.pending_count.proofs.RecordLemmas.{copies_fit}

module _ {T : Type 0} (n node k c : ℕ) (l : List ℕ) (v : View T) (have : k ≤ count node v.held)
    (low : InRange n v) where
  pub rest_ranged : InRange n (rest_view node k c l v)
  rest_ranged i h = low i (let a = total-minus (one_at i) (copies k node) v.held (copies_fit node k v.held have) in
      omega arith)

  pub part_ranged : InRange n (part_view node k c l v)
  part_ranged i h = low i (let a = copies_fit node k v.held have i in omega arith)

pub joined_ranged : {T : Type 0} (n : ℕ) (v u : View T) → InRange n v → InRange n u → InRange n (joined_view v u)
joined_ranged n v u low low' i h = let a = total-append (one_at i) v.held u.held in
    dite (ℕ_discrete (count i u.held) 0) (λ e. low i (omega arith)) (λ m. low' i (omega arith))
