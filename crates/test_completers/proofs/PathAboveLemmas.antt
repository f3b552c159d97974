-- A node that was armed above a path.
use Rattle.std.proofs.Common.{◌≡◌, ℕ, ◌+◌, ◌<◌, List, [], ◌∷◌, ◌++◌, sym, ap, ◌∙◌, arith, Some, refl, take}
use mathlib.Core.Logic.{dite}
use native.Mathlib.Decide.{ℕ_discrete}
use Rattle.completion_core.specs.Graph.{copies}
use Rattle.completion_core.specs.Legal.{count}
use Rattle.pending_count.specs.declared.view.View.{View}
use Rattle.pending_count.specs.Views.{left_slot, right_slot, note_of, minus, IsPlainAt}
use Rattle.pending_count.specs.Steps.{IsClaimed, IsArmed, drawn_node}
use Rattle.pending_count.proofs.SumLemmas.{one_at, total-append, at_here, at_else}
use Rattle.pending_count.proofs.RecordLemmas.{fresh-count, fresh_here}
use Rattle.pending_count.proofs.CallerLemmas.{drawn_is, claim_noted, claim_sides, claim_side_notes, claim_larger}
use Rattle.pending_count.proofs.CallerLemmas.{arm_sides, arm_note, arm_note_else, arm_side_note, arm_side_note_else}
use Rattle.completer_tree.specs.Paths.{KeepsNext, IsPath}

module _ {S T : Type 0} {nodes k1 k2 : ℕ} (v0 v1 v2 : View T) (n node pending : ℕ) (onward : List ℕ)
    (claim : IsClaimed S nodes k1 v0 n v1) (drew : drawn_node nodes n ≡ Some node)
    (armed : IsArmed S nodes k2 node pending onward v1 v2)
    (plain : (k : ℕ) → count k v0.sides ≡ 0) where
  plain1 : (k : ℕ) → count k v1.sides ≡ 0
  plain1 k = ap (count k) (claim_sides n node claim drew) ∙ plain k

  pub plain2 : (k : ℕ) → count k v2.sides ≡ 0
  plain2 = arm_sides node pending onward armed plain1

  pub above : 0 < node
  above = let d = (drawn_is nodes n node drew).0 in omega arith

  pub larger : (i : ℕ) → 0 < count i v0.held → i < node
  larger = claim_larger n node claim drew

  holds : 0 < count node v2.held
  holds =
      let e : count node v2.held ≡ count node (copies (pending + 1) node ++ minus onward v1.held) =
      ap (λ (u : View T). count node u.held) armed.view in
      let a = total-append (one_at node) (copies (pending + 1) node) (minus onward v1.held) in
      let f = fresh-count node (pending + 1) node in
      let h = fresh_here node (pending + 1) in
      omega arith

  -- a note that was there is of another node, and still there
  still : (i : ℕ) (given : List ℕ) → note_of i v0.noted ≡ Some given → note_of i v2.noted ≡ Some given
  still i given e =
      let d = (drawn_is nodes n node drew).0 in
      arm_note_else node pending onward armed i (λ z. let l = claim.unnoted i given e in absurd (omega arith))
      ∙ ap (note_of i) (claim_noted n node claim drew) ∙ e

  still_sides : (i : ℕ) (given : List ℕ) → note_of i v0.noted_sides ≡ Some given → note_of i v2.noted_sides ≡ Some given
  still_sides i given e =
      let d = (drawn_is nodes n node drew).0 in
      arm_side_note_else node pending onward armed i
      (λ z. let l = claim.unnoted_sides i given e in absurd (omega arith))
      ∙ ap (note_of i) (claim_side_notes n node claim drew) ∙ e

  keeps_still : (i : ℕ) (path : List ℕ) → KeepsNext i path v0 → KeepsNext i path v2
  keeps_still i [] k = tt
  keeps_still i (j ∷ path) k =
      let a = k.0 in (
        record {
          given = a.given;
          noted = still i a.given a.noted;
          some = a.some;
          sides = a.sides;
          noted_sides = still_sides i a.sides a.noted_sides;
          plain = a.plain;
        },
        keeps_still j path k.1,
      )

  plain_at : (k : ℕ) → 0 < k → (0 < k) × IsPlainAt k v2
  plain_at k h = (h, (plain2 (left_slot k), plain2 (right_slot k)))

  pub path_above : (path : List ℕ) → onward ≡ take 1 path → IsPath path v0 → IsPath (node ∷ path) v2
  path_above [] is p = (
    holds,
    (λ k h. plain_at k
        (dite (ℕ_discrete k node) (λ e. let a = above in omega arith)
        (λ m. let z = at_else k node (λ e. m (sym e)) in absurd (omega arith)))),
    tt,
  )
  path_above (j ∷ path) is p = (
    holds,
    (λ k h. plain_at k (dite (ℕ_discrete k node) (λ e. let a = above in omega arith)
        (λ m. let z = at_else k node (λ e. m (sym e)) in (p.1 k (omega arith)).0))),
    (
      record {
        given = onward;
        noted = arm_note node pending onward armed;
        some = (let e = ap (count j) is in let h = at_here j in omega arith);
        sides = [];
        noted_sides = arm_side_note node pending onward armed plain1;
        plain = λ k h. (refl, refl);
      },
      keeps_still j path p.2,
    ),
  )
