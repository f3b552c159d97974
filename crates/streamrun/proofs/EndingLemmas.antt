-- The answer of a run over a reader of columns that is there, or isn't.
use Rattle.std.proofs.Common.{◌≡◌, ◌⊎◌, ℕ, List, Option, Some, None, Result, Ok, Err, subst}
use Rattle.std.specs.Prelude.{OnOk, IfErr}
use Rattle.std.specs.Borrow.{MutBor}
use Rattle.columns.specs.declared.fault.ColumnFault.TheVariants as column_fault
use Rattle.engine.specs.declared.fault.EngineFault.{EngineFault}
use Rattle.engine.specs.declared.fault.EngineFault.TheVariants as fault
use Rattle.engine.specs.Given.{HasRisenThere, IsAnswered, IsAtEndThere, IsGiven, IsWhole}
use Rattle.engine.specs.Run.{Input}
use Rattle.run_settings.specs.Asked.{Asked}

-- what an optional reader is as a call leaves it
abbrev Left : Type 0 → Type 0
Left C = Unit {0} ⊎ ((MutBor C × Unit {0}) ⊎ ⊥)

module _ {C : Type 0} (remaining : C → Option (List ℕ)) (jobs : Option (List ℕ)) (asked : Asked) where
  given_again : (a b : MutBor C) (input : Input) → a.now ≡ b.now → IsGiven remaining (Some a) jobs asked input
      → IsGiven remaining (Some b) jobs asked input
  given_again a b input same given =
      let file = given.columns_file in
      record {
        columns_file = (file.0, file.1, subst (λ (c : C). IsWhole (remaining c) file.0) same file.2);
        jobs_file = given.jobs_file;
        asked_for = given.asked_for;
      }

  -- only what a reader has left counts, not which borrow it is
  pub answered_again : {X : Type 0} (before after : Option (List ℕ)) (a b : MutBor C) (answer : Result X EngineFault)
      → a.now ≡ b.now → IsAnswered remaining (Some a) jobs asked before after answer
      → IsAnswered remaining (Some b) jobs asked before after answer
  answered_again before after a b (Ok x) same h = ((h.0.0, given_again a b h.0.0 same h.0.1, h.0.2), tt)
  answered_again before after a b (Err f) same h = (tt, (h.1.0, given_again a b h.1.0 same h.1.1, h.1.2))

pub none_at_end : {C X : Type 0} (remaining : C → Option (List ℕ)) (columns : Option (MutBor C)) (left : Left C)
    (answer : Result X EngineFault) → columns ≡ None → OnOk answer (IsAtEndThere remaining columns left)
none_at_end remaining None left (Ok x) is = tt
none_at_end remaining None left (Err f) is = tt
none_at_end remaining (Some reader) left answer is = absurd cc

pub none_failed : {C X : Type 0} (failures : C → ℕ) (columns : Option (MutBor C)) (left other : Left C)
    (answer : Result X EngineFault) → columns ≡ None
    → IfErr answer (λ f. f ≡ fault.Columns column_fault.Read → HasRisenThere failures columns left)
    → IfErr answer (λ f. f ≡ fault.Columns column_fault.Read → HasRisenThere failures columns other)
none_failed failures None left other (Ok x) is h = tt
none_failed failures None left other (Err f) is h = h
none_failed failures (Some reader) left other answer is h = absurd cc
