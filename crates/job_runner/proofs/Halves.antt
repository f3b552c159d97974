-- The positions of the two sides of a cut.
use Rattle.std.proofs.Common.{◌≡◌, ℕ, ◌<◌, Bool, true, false, sym, subst, arith}
use Rattle.pending_count.specs.declared.place.Place.{Place}
use Rattle.completer_tree.specs.Places.{place_at}
use Rattle.job_runner.specs.declared.cut.CutPiece.{CutPiece}
use Rattle.job_runner.specs.Cuts.{IsPiece, begins, ends_at}

module _ {jobs : ℕ} {last : ℕ → ℕ} {size : ℕ → ℕ → ℕ} where
  -- a piece by other names for job, leg and positions
  pub piece_as : {j j' k k' a a' b b' : ℕ} → j' ≡ j → k' ≡ k → a' ≡ a → b' ≡ b → IsPiece jobs last size j k a b
      → IsPiece jobs last size j' k' a' b'
  piece_as {j} {j'} {k} {k'} {a} {a'} {b} {b'} ej ek ea eb h =
      subst (λ z. IsPiece jobs last size z k' a' b') (sym ej)
      (subst (λ z. IsPiece jobs last size j z a' b') (sym ek)
      (subst (λ z. IsPiece jobs last size j k z b') (sym ea)
      (subst (λ z. IsPiece jobs last size j k a z) (sym eb) h)))

  -- each side of a cut of a piece is a piece
  pub half_piece : (cut : CutPiece) (node root : ℕ) (b : Bool) (p : Place CutPiece) → p ≡ place_at node root (cut, b)
      → (cut.from < cut.middle) × (cut.middle < cut.to) → IsPiece jobs last size cut.job cut.leg cut.from cut.to
      → IsPiece jobs last size p.tag.job p.tag.leg (begins p.tag p.side) (ends_at p.tag p.side)
  half_piece cut node root true p e w h =
      subst (λ (q : Place CutPiece). IsPiece jobs last size q.tag.job q.tag.leg (begins q.tag q.side)
      (ends_at q.tag q.side)) (sym e)
      (record {
        known = h.known;
        chained = h.chained;
        ordered = (let a = w.0 in omega arith);
        within = (let a = w.1 in let b = h.within in omega arith);
      })
  half_piece cut node root false p e w h =
      subst (λ (q : Place CutPiece). IsPiece jobs last size q.tag.job q.tag.leg (begins q.tag q.side)
      (ends_at q.tag q.side)) (sym e)
      (record { known = h.known; chained = h.chained; ordered = (let a = w.1 in omega arith); within = h.within })
