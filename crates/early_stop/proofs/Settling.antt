-- Which walks settle an outcome, and so which places are decisive.
use Rattle.std.proofs.Common.{◌≡◌, ℕ, zero, suc, ◌+◌, ◌-◌, ◌≤◌, List, [], ◌∷◌, ◌++◌, length, take, drop, sym, refl, ap}
use Rattle.std.proofs.Common.{◌∙◌, subst, ⊎_elim, arith}
use Rattle.std.proofs.lemmas.List.{take-append-drop, length-take}
use mathlib.Core.Logic.{dite}
use native.Mathlib.Decide.{dec_le}
use Rattle.lambda_values.specs.declared.item.Item.{Item}
use Rattle.trace.specs.declared.item.Fault.{Fault}
use Rattle.trace.specs.declared.item.End.TheVariants as end
use Rattle.trace.specs.Trace.{Trace, trace, append}
use Rattle.trace.proofs.JoinLemmas.{append_grouped, append_faulted}
use Rattle.early_stop.specs.Decisive.{BeginsAs, Decides}
use Rattle.early_stop.specs.Leaving.{IsSettled, IsSettledAfter, IsEnough}
use Rattle.early_stop.proofs.Leaving.{begins_less}

-- a place after a decisive one is decisive
pub later_decides : {O : Type 0} (outcome : Trace → O) (s : Trace) (c d : ℕ) → c ≤ d → Decides outcome s c
    → Decides outcome s d
later_decides outcome s c d h ok t b = ok t (begins_less c d s t h b)

module _ {O : Type 0} (close : Trace → O) where
  -- a fault settles every outcome
  pub fault_settles : (t : Trace) (f : Fault) → t.ending ≡ end.Fault f → IsSettled close t
  fault_settles t f h a b c = ap close (same b ∙ sym (same c))
    where
      same : (b : Trace) → append (append a t) b ≡ append a t
      same b = append_grouped a t b ∙ ap (append a) (append_faulted t b f h)

take_both : (i m : ℕ) (xs : List Item) → take (i + m) xs ≡ take i xs ++ take m (drop i xs)
take_both zero m xs = let e : 0 + m ≡ m = omega arith in ap (λ k. take k xs) e
take_both (suc i) zero [] = let e : suc i + 0 ≡ suc i = omega arith in ap (λ k. take k []) e
take_both (suc i) (suc m) [] = let e : suc i + suc m ≡ suc (i + suc m) = omega arith in ap (λ k. take k []) e
take_both (suc i) m (x ∷ xs) = let e : suc i + m ≡ suc (i + m) = omega arith in
    ap (λ k. take k (x ∷ xs)) e ∙ ap (λ (l : List Item). x ∷ l) (take_both i m xs)

-- what is made of walks, the stages of a segment for example, that are joined as they are
module _ {O : Type 0} (close : Trace → O) (g : Trace → Trace)
    (joins : (a b : Trace) → g (append a b) ≡ append (g a) (g b)) (s : Trace) (i m : ℕ) where
  abbrev before : Trace
  before = trace (take i s.items) end.Done

  abbrev piece : Trace
  piece = trace (take m (drop i s.items)) end.Done

  abbrev rest : Trace → Trace
  rest t = trace (drop (i + m) t.items) t.ending

  cuts : (t : Trace) → take (i + m) t.items ≡ take (i + m) s.items
      → g t ≡ append (append (g before) (g piece)) (g (rest t))
  cuts t e =
      ap (λ (l : List Item). g (trace l t.ending)) (sym (take-append-drop (i + m) t.items))
      ∙ joins (trace (take (i + m) t.items) end.Done) (rest t)
      ∙ ap (λ (l : List Item). append (g (trace l end.Done)) (g (rest t))) (e ∙ take_both i m s.items)
      ∙ ap (λ (u : Trace). append u (g (rest t))) (joins before piece)

  -- the end of a piece is a decisive place if its walk settles the outcome
  pub settled_decides : i + m ≤ length s.items → IsSettledAfter close (g before) (g piece)
      → Decides (λ t. close (g t)) s (i + m)
  settled_decides low settles t (b, w) =
      ap close (cuts t (b low)) ∙ settles (g (rest t)) (g (rest s)) ∙ sym (ap close (cuts s refl))

  -- and also if its part settles the outcome, even if some of it was left unwalked
  pub enough_decides : (t : Trace) → i + m ≤ length s.items → IsEnough (Decides (λ u. close (g u)) s) i piece t
      → IsSettledAfter close (g before) (g t) → Decides (λ u. close (g u)) s (i + m)
  enough_decides t low enough settles = ⊎_elim
      (λ (e : t ≡ piece). settled_decides low (subst (λ u. IsSettledAfter close (g before) (g u)) e settles))
      (λ (h : (c : ℕ) × Decides (λ u. close (g u)) s c × BeginsAs (c - i) piece t). dite (dec_le h.0 (i + m))
      (λ below. later_decides (λ u. close (g u)) s h.0 (i + m) below h.1)
      (λ above. let l = length-take m (drop i s.items) in
      settled_decides low (subst (λ u. IsSettledAfter close (g before) (g u)) (h.2.1 (omega arith)) settles)))
      enough
