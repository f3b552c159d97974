-- Parts and faults as they are handed in, and where they go.
use Rattle.std.proofs.Common.{◌≡◌, ◌≢◌, ℕ, Bool, Option, Some, None, Result, Ok, Err, subst, sym, refl, ◌∙◌}
use Rattle.trace.specs.declared.item.Fault.{Fault}
use Rattle.pending_count.specs.declared.place.Side.{Side}
use Rattle.pending_count.specs.declared.place.Side.TheVariants.{Left, Right, Whole}
use Rattle.completer_tree.specs.declared.part.Failure.{Failure}
use Rattle.completer_tree.specs.declared.part.Failure.TheVariants as failure
use Rattle.completer_tree.specs.Places.{Goes, IsLeftmost}
use Rattle.job_runner.specs.declared.cut.CutPiece.{CutPiece}
use Rattle.job_runner.specs.declared.cut.Merged.{Merged}
use Rattle.job_runner.specs.declared.cut.Merged.TheVariants.{Part, Caught}
use Rattle.job_runner.specs.Cuts.{Fits, HandedIn, HasFault, IfMerged, StandsWhole, begins, ends_at}
use Rattle.job_runner.specs.Runs.{RunSpec}

-- a fact by other names for job, leg and positions
pub moved : (P : ℕ → ℕ → ℕ → ℕ → Type 0) {j j' k k' a a' b b' : ℕ} → j ≡ j' → k ≡ k' → a ≡ a' → b ≡ b' → P j k a b
    → P j' k' a' b'
moved P {j} {j'} {k} {k'} {a} {a'} {b} {b'} ej ek ea eb h =
    subst (λ z. P z k' a' b') ej (subst (λ z. P j z a' b') ek
    (subst (λ z. P j k z b') ea (subst (λ z. P j k a z) eb h)))

module _ {O P S A G X : Type 0} (run : RunSpec O P S A G) (found : X → Merged P) where
  -- at a side of a cut
  pub side_handed : (cut : CutPiece) (side : Side) (v : Result X Failure) → side ≢ Whole → Fits run found cut side v
      → HandedIn run found cut.job cut.leg (begins cut side) (ends_at cut side) v
  side_handed cut Left v some h = h
  side_handed cut Right v some h = h
  side_handed cut Whole v some h = absurd (some refl)

  pub handed_fault : (job leg from to : ℕ) (v : Result X Failure) (f : Fault) → v ≡ Err (failure.Fault f)
      → HandedIn run found job leg from to v → HasFault run job leg f
  handed_fault job leg from to v f is h = subst (HandedIn run found job leg from to) is h

  pub handed_part : (job leg from to : ℕ) (v : Result X Failure) (x : X) (p : P) → v ≡ Ok x → found x ≡ Part p
      → HandedIn run found job leg from to v → run.stands_for job leg from to p
  handed_part job leg from to v x p is part h =
      subst (IfMerged (run.stands_for job leg from to) ⊥) part (subst (HandedIn run found job leg from to) is h)

  -- of a whole leg
  pub whole_part : (job leg : ℕ) (v : Result X Failure) (x : X) (p : P) → v ≡ Ok x → found x ≡ Part p
      → StandsWhole run found job leg v → run.stands_for job leg 0 (run.size job leg) p
  whole_part job leg v x p is part h = subst
      (IfMerged (run.stands_for job leg 0 (run.size job leg)) ((f : Fault) × HasFault run job leg f)) part
      (subst (StandsWhole run found job leg) is h)

  pub whole_caught : (job leg : ℕ) (v : Result X Failure) (x : X) → v ≡ Ok x → found x ≡ Caught
      → StandsWhole run found job leg v → (f : Fault) × HasFault run job leg f
  whole_caught job leg v x is caught h =
      subst (IfMerged (run.stands_for job leg 0 (run.size job leg)) ((f : Fault) × HasFault run job leg f)) caught
      (subst (StandsWhole run found job leg) is h)

  -- ---- where the answer of a node goes

  -- at the top, a caught fault
  pub caught_goes : (cut : CutPiece) (parent : Option (CutPiece × Bool)) (x : X) → found x ≡ Caught → parent ≡ None
      → (f : Fault) × HasFault run cut.job cut.leg f
      → Goes {T = CutPiece} {V = X} {F = Failure} (λ c side v. Fits run found c side v) cut parent (Ok x)
  caught_goes cut parent x caught top h =
      subst (λ (o : Option (CutPiece × Bool)). Goes {T = CutPiece} {V = X} {F = Failure}
      (λ c side v. Fits run found c side v) cut o (Ok x)) (sym top)
      (subst (IfMerged (run.stands_for cut.job cut.leg cut.from cut.to) ((f : Fault) × HasFault run cut.job cut.leg f))
      (sym caught) h)

  -- ---- the leftmost fault of two sides

  some_same : (e f : Failure) → Some e ≡ Some f → e ≡ f
  some_same e f h = cc

  pub leftmost_fault : (cut : CutPiece) (e : Failure) (f : Fault) → e ≡ failure.Fault f
      → IsLeftmost {T = CutPiece} {V = X} {F = Failure} (λ c side v. Fits run found c side v) cut e
      → HasFault run cut.job cut.leg f
  leftmost_fault cut e f is (Err d, r, first, l, k) =
      handed_fault cut.job cut.leg cut.from cut.middle (Err d) f (λ i. Err ((some_same d e first ∙ is) i)) l
  leftmost_fault cut e f is (Ok a, Err d, first, l, k) =
      handed_fault cut.job cut.leg cut.middle cut.to (Err d) f (λ i. Err ((some_same d e first ∙ is) i)) k
  leftmost_fault cut e f is (Ok a, Ok b, first, l, k) = absurd (let z : None ≡ Some e = first in cc)
