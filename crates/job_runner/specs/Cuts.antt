-- Condition: which pieces a run has, which positions belong to a side of a cut, and what is handed in for them.
use Rattle.std.specs.Prelude.{◌≡◌, ℕ, ◌-◌, ◌<◌, ◌≤◌, Bool, Result, Ok, Err, ⊤}
use Rattle.std.proofs.Common.{subst}
use Rattle.trace.specs.declared.item.Fault.{Fault}
use Rattle.completer_tree.specs.declared.part.Failure.{Failure}
use Rattle.completer_tree.specs.declared.part.Failure.TheVariants as failure
use Rattle.pending_count.specs.declared.place.Side.{Side}
use Rattle.pending_count.specs.declared.place.Side.TheVariants.{Left, Right, Whole}
use Rattle.pending_count.specs.declared.place.Place.{Place}
use Rattle.pending_count.specs.Pairs.{side_of}
use Rattle.job_runner.specs.declared.cut.CutPiece.{CutPiece}
use Rattle.job_runner.specs.declared.cut.Merged.{Merged}
use Rattle.job_runner.specs.declared.cut.Merged.TheVariants.{Part, Caught}
use Rattle.job_runner.specs.declared.piece.Piece.{Piece}
use Rattle.job_runner.specs.Runs.{RunSpec}

-- where the positions of a side begin and end
abbrev pub begins : CutPiece → Side → ℕ
begins c Left = c.from
begins c Right = c.middle
begins c Whole = c.from

abbrev pub ends_at : CutPiece → Side → ℕ
ends_at c Left = c.middle
ends_at c Right = c.to
ends_at c Whole = c.to

-- how many positions the side of a place has
abbrev pub positions_at : Place CutPiece → ℕ
positions_at p = ends_at p.tag p.side - begins p.tag p.side

-- the cut is of the positions of this side of the parent
abbrev pub IsSideOf : CutPiece → CutPiece × Bool → Type 0
IsSideOf cut p = (p.0.job ≡ cut.job) × (p.0.leg ≡ cut.leg) × (begins p.0 (side_of p.1) ≡ cut.from)
    × (ends_at p.0 (side_of p.1) ≡ cut.to)

-- a leg of a job of the run, and positions of its source, from one up to, not with, another
pub record IsPiece (jobs : ℕ) (last : ℕ → ℕ) (size : ℕ → ℕ → ℕ) (job leg from to : ℕ) : Type 0 where
  pub known : job < jobs
  pub chained : leg ≤ last job
  pub ordered : from ≤ to
  pub within : to ≤ size job leg

-- of what comes of pieces: this holds if it is a part, and this if a fault was caught
abbrev pub IfMerged : {P : Type 0} → (P → Type 0) → Type 0 → Merged P → Type 0
IfMerged stands caught (Part p) = stands p
IfMerged stands caught Caught = caught

-- of what is handed in: this holds if it is a value, and this if it is a fault; a refused allocation says nothing
abbrev pub IfHanded : {X : Type 0} → (X → Type 0) → (Fault → Type 0) → Result X Failure → Type 0
IfHanded value faults (Ok x) = value x
IfHanded value faults (Err (failure.Fault f)) = faults f
IfHanded value faults (Err failure.NoMemory) = ⊤

module _ {O P S A G : Type 0} (run : RunSpec O P S A G) where
  -- a piece of the run, and its part
  abbrev pub IsPieceOf : Piece → Type 0
  IsPieceOf p = IsPiece run.jobs run.last run.size p.job p.leg p.from p.to

  abbrev pub Stands : Piece → P → Type 0
  Stands p part = run.stands_for p.job p.leg p.from p.to part

  -- the part of a piece of this leg ends in this fault, and the job gives an answer in its place
  pub record HasFault (job leg : ℕ) (fault : Fault) : Type 0 where
    pub from : ℕ
    pub to : ℕ
    pub piece : IsPiece run.jobs run.last run.size job leg from to
    pub part : P
    pub stands : run.stands_for job leg from to part
    pub caught : run.is_caught job leg part fault

module _ {O P S A G X : Type 0} (run : RunSpec O P S A G) (found : X → Merged P) where
  -- what is handed in at a side of a cut: the part of these positions, a fault that the job catches, or nothing
  abbrev pub HandedIn : ℕ → ℕ → ℕ → ℕ → Result X Failure → Type 0
  HandedIn job leg from to v = IfHanded (λ x. IfMerged (run.stands_for job leg from to) ⊥ (found x))
      (HasFault run job leg) v

  -- what comes of all pieces between these positions: their part, a caught fault, or nothing; no fault goes on
  abbrev pub ComesOf : ℕ → ℕ → ℕ → ℕ → Result X Failure → Type 0
  ComesOf job leg from to v = IfHanded (λ x. IfMerged (run.stands_for job leg from to)
      ((f : Fault) × HasFault run job leg f) (found x)) (λ f. ⊥) v

  -- what is handed in at a side of a cut, or comes of both sides
  abbrev pub Fits : CutPiece → Side → Result X Failure → Type 0
  Fits cut Left v = HandedIn cut.job cut.leg cut.from cut.middle v
  Fits cut Right v = HandedIn cut.job cut.leg cut.middle cut.to v
  Fits cut Whole v = ComesOf cut.job cut.leg cut.from cut.to v

  -- what comes of a whole leg: its part, a caught fault, or nothing
  abbrev pub StandsWhole : ℕ → ℕ → Result X Failure → Type 0
  StandsWhole job leg v = ComesOf job leg 0 (run.size job leg) v

  -- laws of these that the continuations of a tree need: what comes of a whole leg by other names for job and leg, and
  -- what comes of all positions
  pub stands_moved : (v : Result X Failure) {j j' k k' : ℕ} → j ≡ j' → k ≡ k' → StandsWhole j k v → StandsWhole j' k' v
  stands_moved v {j} {j'} {k} {k'} ej ek h = subst (λ z. StandsWhole z k' v) ej (subst (λ z. StandsWhole j z v) ek h)

  pub stands_whole : (v : Result X Failure) (j k : ℕ) {a b : ℕ} → a ≡ 0 → b ≡ run.size j k → ComesOf j k a b v
      → StandsWhole j k v
  stands_whole v j k {a} {b} ea eb h = subst (λ z. ComesOf j k 0 z v) eb (subst (λ z. ComesOf j k z b v) ea h)
