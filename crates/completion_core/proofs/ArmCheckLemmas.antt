-- What a book says of the graph that it means, as the checks of an arming need it.
use Rattle.std.proofs.Common.{◌≡◌, ℕ, ◌<◌, ◌≤◌, ◌^◌, false, List, length, ap, ◌∙◌, sym, arith}
use Rattle.std.specs.List.{All}
use Rattle.completion_core.specs.declared.node_state.NodeState.{NodeState}
use Rattle.completion_core.specs.declared.action.Action.TheVariants.{Arm}
use Rattle.completion_core.specs.declared.action.Illegal.{Illegal}
use Rattle.completion_core.specs.declared.action.Illegal.TheVariants.{NoSuchNode, NotClaimedHere, AlreadyArmed, NotHeld}
use Rattle.completion_core.specs.declared.action.Illegal.TheVariants.{NotFinisher, OnwardNotEarlier, TooMany, NoMemory}
use Rattle.completion_core.specs.Graph.{Held, amount, Graph, IsDrawn}
use Rattle.completion_core.specs.Legal.{Legal, count}
use Rattle.completion_core.specs.Refusals.{rank, Meets, IsRefusal}
use Rattle.completion_core.specs.Book.{Book, StandsFor, state_of, held_in}
use Rattle.completion_core.proofs.BagLemmas.{all_counted, counted_all}

module _ (b : Book) (g : Graph) (r : StandsFor b g) (a node pending : ℕ) (onward : List ℕ) (state : NodeState)
    (there : (0 < node) × (node < length b.states) × (state ≡ state_of b.states node) × (state.owed ≤ 2 ^ 62))
    (mine : state.claimer ≡ a) (unarmed : state.armed ≡ false)
    (have : (i : ℕ) → count i onward ≤ held_in b.holdings a i) where
  is_drawn : IsDrawn g node
  is_drawn = let d = r.drawn in let t = there.1 in (there.0, omega arith)

  is_mine : g.claimer node ≡ a
  is_mine = r.claimer node ∙ ap (λ (s : NodeState). s.claimer) (sym there.2) ∙ mine

  is_unarmed : g.armed node ≡ false
  is_unarmed = r.armed node ∙ ap (λ (s : NodeState). s.armed) (sym there.2) ∙ unarmed

  is_held : (i : ℕ) → count i onward ≤ amount (Held a) (g.arrivals i)
  is_held i = let h = have i in let e = r.held a i in omega arith

  demands : (demand : Illegal) → rank demand < 6 → Meets demand (Arm a node pending onward) g
  demands NoSuchNode lt = is_drawn
  demands NotClaimedHere lt = is_mine
  demands AlreadyArmed lt = is_unarmed
  demands NotHeld lt = is_held
  demands NotFinisher lt = tt
  demands OnwardNotEarlier lt = absurd (omega arith)
  demands TooMany lt = absurd (omega arith)
  demands NoMemory lt = absurd (omega arith)

  pub not_earlier : (All (λ item. item < node) onward → ⊥) → IsRefusal OnwardNotEarlier (Arm a node pending onward) g
  not_earlier no_all = (demands, λ lower. no_all (counted_all (λ item. item < node) onward lower))

  pub may_arm : pending < 2 ^ 32 → All (λ item. item < node) onward
      → Legal (Arm a node pending onward) g × Meets TooMany (Arm a node pending onward) g
  may_arm small lower =
      let none_yet : length (g.arrivals node) ≡ 0 = ap length (r.bare node there.0 is_unarmed) in
      ((is_drawn, is_mine, is_unarmed, is_held, all_counted (λ item. item < node) onward lower), omega arith)
