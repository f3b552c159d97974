-- Pieces that take items.
use Rattle.std.proofs.Common.{◌≡◌, false, ℕ, zero, suc, ◌+◌, All, List, [], ◌∷◌, ◌++◌, append_assoc, take, drop, sym}
use Rattle.std.proofs.Common.{ap, subst, ◌∙◌, arith}
use Rattle.std.proofs.lemmas.List.Elements.{All-append}
use Rattle.std.proofs.Math.Seq.{take-add}
use Rattle.lambda_values.specs.declared.item.Item.{Item}
use Rattle.trace.specs.Stages.{AbstractStage}
use Rattle.prefix_walks.specs.declared.folded_piece.FoldedPiece.{FoldedPiece}
use Rattle.batch_eval.specs.Faultless.{AreFaultless, left_by}
use Rattle.batch_eval.proofs.FaultlessLemmas.{left_both}

-- what stages leave of some items more
pub lent_next : (gs : List AbstractStage) → AreFaultless false gs
    → (xs old before next new : List Item) (taken count : ℕ) → new ≡ before ++ next
    → next ≡ left_by gs (take count (drop taken xs))
    → before ≡ old ++ left_by gs (take taken xs) → new ≡ old ++ left_by gs (take (taken + count) xs)
lent_next gs cheap xs old before next new taken count is here so_far =
    is ∙ (λ j. so_far j ++ here j) ∙ append_assoc old (left_by gs (take taken xs))
    (left_by gs (take count (drop taken xs)))
    ∙ ap (λ (ys : List Item). old ++ ys)
    (sym (ap (left_by gs) (take-add taken count xs)
    ∙ left_both gs cheap (take taken xs) (take count (drop taken xs))))

pub all_pushed : (P : FoldedPiece → Type 0) (ps : List FoldedPiece) (p : FoldedPiece) (new : List FoldedPiece)
    → new ≡ ps ++ p ∷ [] → All P ps → P p → All P new
all_pushed P ps p new is all one = subst (λ qs. All P qs) (sym is) (All-append P ps (p ∷ []) all (single p one))
  where
    single : (p : FoldedPiece) → P p → All P (p ∷ [])
    single p h zero d k = h
    single p h (suc n) d k = absurd (omega (arith, k))
