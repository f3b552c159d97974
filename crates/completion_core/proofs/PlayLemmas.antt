-- A list of actions is played one after the other.
use Rattle.std.proofs.Common.{◌≡◌, ℕ, zero, suc, ◌+◌, ◌<◌, ◌≤◌, List, [], ◌∷◌, ◌++◌, length, get_or, take, Some, sym}
use Rattle.std.proofs.Common.{ap, ◌∙◌, subst, arith, ◌⊎◌, inl, inr}
use Rattle.std.specs.List.{slice_get}
use Rattle.std.proofs.lemmas.List.{take_more}
use Rattle.std.proofs.Math.Seq.{take-length}
use Rattle.completion_core.specs.declared.action.Action.{Action}
use Rattle.completion_core.specs.declared.action.Illegal.{Illegal}
use Rattle.completion_core.specs.Graph.{Graph}
use Rattle.completion_core.specs.Legal.{Legal, after}
use Rattle.completion_core.specs.Refusals.{IsRefusal, IsFirstRefused, LacksLog, rank}
use Rattle.completion_core.specs.Runs.{LegalAll, after_all, log}
use Rattle.completion_core.specs.Laws.{RunsOnce}
use Rattle.completion_core.specs.Book.{Book, StandsFor}
use Rattle.completion_core.specs.Played.{PlayedUpTo}
use Rattle.completion_core.proofs.DemandLemmas.{not_legal, lacks_last}
use Rattle.completion_core.proofs.HistoryLemmas.{after_all-append, legal_all-append, legal_at, log-append, runs_once}

pub get_there : (xs : List Action) (i : ℕ) (x : Action) → i < length xs → x ≡ get_or xs i x → slice_get xs i ≡ Some x
get_there [] i x h e = absurd (omega arith)
get_there (y ∷ xs) zero x h e = ap Some (sym e)
get_there (y ∷ xs) (suc i) x h e = get_there xs i x (omega arith) e

module _ (actions : List Action) (g : Graph) (i : ℕ) (b : Book) (runs : List ℕ)
    (p : PlayedUpTo actions g i b runs) where
  pub plays_on : (x : Action) (b' : Book) (runs' : List ℕ) → i < length actions → x ≡ get_or actions i x
      → Legal x (after_all (take i actions) g) → StandsFor b' (after x (after_all (take i actions) g))
      → runs' ≡ runs ++ log (x ∷ []) → PlayedUpTo actions g (i + 1) b' runs'
  plays_on x b' runs' h is legal stands logged =
      let more : take (i + 1) actions ≡ take i actions ++ x ∷ [] =
      take_more actions i x h ∙ ap (λ y. take i actions ++ y ∷ []) (sym is) in
      record {
        legal = subst (λ l. LegalAll l g) (sym more) (legal_all-append (take i actions) (x ∷ []) g p.legal (legal, tt));
        stands = subst (λ l. StandsFor b' (after_all l g)) (sym more)
            (subst (λ h. StandsFor b' h) (sym (after_all-append (take i actions) (x ∷ []) g)) stands);
        logged = logged ∙ ap (λ l. l ++ log (x ∷ [])) p.logged ∙ sym (log-append (take i actions) (x ∷ []))
            ∙ ap log (sym more);
      }

  pub first_refused : (x : Action) (reason : Illegal) → i < length actions → x ≡ get_or actions i x
      → IsRefusal reason x (after_all (take i actions) g) ⊎ LacksLog reason x (after_all (take i actions) g)
      → IsFirstRefused i reason actions g
  first_refused x reason h is refusal = (x, get_there actions i x h is, p.legal, refusal)

  all_taken : length actions ≤ i → i ≤ length actions → take i actions ≡ actions
  all_taken h k = let e : i ≡ length actions = omega arith in ap (λ j. take j actions) e ∙ take-length actions

  pub played_legal : length actions ≤ i → i ≤ length actions → LegalAll actions g
  played_legal h k = subst (λ l. LegalAll l g) (all_taken h k) p.legal

  pub played_once : RunsOnce runs
  played_once = subst RunsOnce (sym p.logged) (runs_once (take i actions) g p.legal)

pub illegal_list : (i : ℕ) (reason : Illegal) (actions : List Action) (g : Graph) → IsFirstRefused i reason actions g
    → rank reason < 7 → LegalAll actions g → ⊥
illegal_list i reason actions g r lt l = refused r.3
  where
    refused : IsRefusal reason r.0 (after_all (take i actions) g) ⊎ LacksLog reason r.0 (after_all (take i actions) g)
        → ⊥
    refused (inl refusal) = not_legal reason r.0 (after_all (take i actions) g) lt refusal
        (legal_at actions i r.0 g r.1 l)
    refused (inr lacks) = lacks_last reason r.0 (after_all (take i actions) g) lacks lt
