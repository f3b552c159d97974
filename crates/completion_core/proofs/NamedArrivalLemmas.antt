-- What an action does to an arrival that has a name: what is made stays so, and what becomes made was the actor's.
use Rattle.std.proofs.Common.{◌≡◌, ℕ, zero, suc, ◌+◌, ltb, cond, Bool, true, false, List, [], ◌∷◌, ◌++◌, Some, ◌⊎◌, inl}
use Rattle.std.proofs.Common.{inr, sym, refl, ap, ◌∙◌, subst}
use mathlib.Core.Logic.{dite}
use native.Mathlib.Decide.{ℕ_discrete}
use Rattle.std.specs.List.{slice_get}
use Rattle.completion_core.specs.declared.action.Action.{Action}
use Rattle.completion_core.specs.declared.action.Action.TheVariants.{Claim, Arm, Add, Give, Arrive, Run, Settle}
use Rattle.completion_core.specs.Graph.{Arrival, Made, Held, Kept, same, copies, amount, Graph}
use Rattle.completion_core.specs.Legal.{rename, only_at, count, upd, after}
use Rattle.completion_core.specs.Runs.{after_all}
use Rattle.completion_core.specs.Laws.{MakesAt, arrival_at, MadeOnce}
use Rattle.completion_core.proofs.TotalLemmas.{by_bool, same_is, at_else}

-- an arrival after a renaming, and before it
pub rename_at : (n : ℕ) (x y : Arrival) (xs : List Arrival) (k : ℕ) (z : Arrival) → slice_get xs k ≡ Some z
    → (slice_get (rename n x y xs) k ≡ Some z) ⊎ ((z ≡ x) × (slice_get (rename n x y xs) k ≡ Some y))
rename_at zero x y xs k z e = inl e
rename_at (suc n) x y [] k z e = inl e
rename_at (suc n) x y (w ∷ ws) zero z e =
    by_bool (same x w) (λ l. (slice_get l 0 ≡ Some z) ⊎ ((z ≡ x) × (slice_get l 0 ≡ Some y))) (y ∷ rename n x y ws)
    (w ∷ rename (suc n) x y ws)
    (λ t. let is : x ≡ w = same_is x w t in let this : w ≡ z = cc in inr (sym (is ∙ this), refl)) (λ _. inl e)
rename_at (suc n) x y (w ∷ ws) (suc k) z e =
    by_bool (same x w) (λ l. (slice_get l (suc k) ≡ Some z) ⊎ ((z ≡ x) × (slice_get l (suc k) ≡ Some y)))
    (y ∷ rename n x y ws) (w ∷ rename (suc n) x y ws)
    (λ _. rename_at n x y ws k z e) (λ _. rename_at (suc n) x y ws k z e)

pub rename_back : (n : ℕ) (x y : Arrival) (xs : List Arrival) (k : ℕ) (z : Arrival)
    → slice_get (rename n x y xs) k ≡ Some z
    → (slice_get xs k ≡ Some z) ⊎ ((z ≡ y) × (slice_get xs k ≡ Some x))
rename_back zero x y xs k z e = inl e
rename_back (suc n) x y [] k z e = inl e
rename_back (suc n) x y (w ∷ ws) zero z e =
    by_bool (same x w) (λ l. slice_get l 0 ≡ Some z → (Some w ≡ Some z) ⊎ ((z ≡ y) × (Some w ≡ Some x)))
    (y ∷ rename n x y ws) (w ∷ rename (suc n) x y ws)
    (λ t u. let is : x ≡ w = same_is x w t in let this : y ≡ z = cc in inr (sym this, ap Some (sym is))) (λ _ u. inl u)
    e
rename_back (suc n) x y (w ∷ ws) (suc k) z e =
    by_bool (same x w) (λ l. slice_get l (suc k) ≡ Some z
    → (slice_get ws k ≡ Some z) ⊎ ((z ≡ y) × (slice_get ws k ≡ Some x))) (y ∷ rename n x y ws)
    (w ∷ rename (suc n) x y ws)
    (λ _ u. rename_back n x y ws k z u) (λ _ u. rename_back (suc n) x y ws k z u) e

-- an arrival after fresh ones were named, and before it
append_at : (xs ys : List Arrival) (k : ℕ) (z : Arrival) → slice_get xs k ≡ Some z → slice_get (xs ++ ys) k ≡ Some z
append_at [] ys k z e = cc
append_at (x ∷ xs) ys zero z e = e
append_at (x ∷ xs) ys (suc k) z e = append_at xs ys k z e

copies_are : (n : ℕ) (x : Arrival) (k : ℕ) (z : Arrival) → slice_get (copies n x) k ≡ Some z → z ≡ x
copies_are zero x k z e = cc
copies_are (suc n) x zero z e = cc
copies_are (suc n) x (suc k) z e = copies_are n x k z e

fresh_are : (b : Bool) (n : ℕ) (x : Arrival) (k : ℕ) (z : Arrival) → slice_get (cond b (copies n x) []) k ≡ Some z
    → z ≡ x
fresh_are true n x k z e = copies_are n x k z e
fresh_are false n x k z e = cc

append_back : (xs : List Arrival) (b : Bool) (n : ℕ) (x : Arrival) (k : ℕ) (z : Arrival)
    → slice_get (xs ++ cond b (copies n x) []) k ≡ Some z → (slice_get xs k ≡ Some z) ⊎ (z ≡ x)
append_back [] b n x k z e = inr (fresh_are b n x k z e)
append_back (w ∷ ws) b n x zero z e = inl e
append_back (w ∷ ws) b n x (suc k) z e = append_back ws b n x k z e

either : {A B C : Type 0} → A ⊎ B → (A → C) → (B → C) → C
either (inl a) f g = f a
either (inr b) f g = g b

made_not_held : (a : ℕ) → Made ≡ Held a → ⊥
made_not_held a e = cc

made_not_kept : (i : ℕ) → Made ≡ Kept i → ⊥
made_not_kept i e = cc

-- a renaming of what isn't made, into what isn't
keeps_made : (n : ℕ) (x y : Arrival) (xs : List Arrival) (k : ℕ) → (Made ≡ x → ⊥) → slice_get xs k ≡ Some Made
    → slice_get (rename n x y xs) k ≡ Some Made
keeps_made n x y xs k apart e = either (rename_at n x y xs k Made e) (λ u. u) (λ u. absurd (apart u.0))

makes_none : (n : ℕ) (x y : Arrival) (xs : List Arrival) (k : ℕ) → (Made ≡ y → ⊥)
    → slice_get (rename n x y xs) k ≡ Some Made → slice_get xs k ≡ Some Made
makes_none n x y xs k apart e = either (rename_back n x y xs k Made e) (λ u. u) (λ u. absurd (apart u.0))

pub made_stays : (action : Action) (g : Graph) (i k : ℕ) → arrival_at g i k ≡ Some Made
    → arrival_at (after action g) i k ≡ Some Made
made_stays (Claim a) g i k e = by_bool (ltb g.drawn g.nodes) (λ (h : Graph). arrival_at h i k ≡ Some Made)
    (record g { drawn = g.drawn + 1; claimer = upd g.claimer (g.drawn + 1) a }) g (λ _. e) (λ _. e)
made_stays (Arm a node pending onward) g i k e =
    append_at (rename (count i onward) (Held a) (Kept node) (g.arrivals i)) _ k Made
    (keeps_made (count i onward) (Held a) (Kept node) (g.arrivals i) k (made_not_held a) e)
made_stays (Add a node d) g i k e = append_at (g.arrivals i) _ k Made e
made_stays (Give a b node n) g i k e = keeps_made (only_at node n i) (Held a) (Held b) (g.arrivals i) k
    (made_not_held a) e
made_stays (Arrive a node) g i k e = keeps_made (only_at node 1 i) (Held a) Made (g.arrivals i) k (made_not_held a) e
made_stays (Run a node) g i k e = keeps_made (amount (Kept node) (g.arrivals i)) (Kept node) (Held a) (g.arrivals i) k
    (made_not_kept node) e
made_stays (Settle a) g i k e = keeps_made (only_at 0 1 i) (Held a) Made (g.arrivals i) k (made_not_held a) e

-- one arrival at a node is made
made_here : (g : Graph) (a node i k : ℕ)
    → slice_get (rename (only_at node 1 i) (Held a) Made (g.arrivals i)) k ≡ Some Made
    → (arrival_at g i k ≡ Some Made) ⊎ ((arrival_at g i k ≡ Some (Held a)) × (node ≡ i))
made_here g a node i k e = dite (ℕ_discrete i node)
    (λ h. either (rename_back (only_at node 1 i) (Held a) Made (g.arrivals i) k Made e) (λ u. inl u)
    (λ u. inr (u.1, sym h)))
    (λ n. inl (subst (λ m. slice_get (rename m (Held a) Made (g.arrivals i)) k ≡ Some Made) (at_else node 1 i n) e))

pub made_by : (action : Action) (g : Graph) (i k : ℕ) → arrival_at (after action g) i k ≡ Some Made
    → (arrival_at g i k ≡ Some Made) ⊎ ((a : ℕ) × (arrival_at g i k ≡ Some (Held a)) × MakesAt a i action)
made_by (Claim a) g i k e = inl (by_bool (ltb g.drawn g.nodes)
    (λ (h : Graph). arrival_at h i k ≡ Some Made → arrival_at g i k ≡ Some Made)
    (record g { drawn = g.drawn + 1; claimer = upd g.claimer (g.drawn + 1) a }) g (λ _ u. u) (λ _ u. u) e)
made_by (Arm a node pending onward) g i k e =
    either (append_back (rename (count i onward) (Held a) (Kept node) (g.arrivals i)) _ (pending + 1) (Held a) k Made e)
    (λ u. inl (makes_none (count i onward) (Held a) (Kept node) (g.arrivals i) k (made_not_kept node) u))
    (λ u. absurd (made_not_held a u))
made_by (Add a node d) g i k e = either (append_back (g.arrivals i) _ d (Held a) k Made e) (λ u. inl u)
    (λ u. absurd (made_not_held a u))
made_by (Give a b node n) g i k e = inl (makes_none (only_at node n i) (Held a) (Held b) (g.arrivals i) k
    (made_not_held b) e)
made_by (Arrive a node) g i k e = either (made_here g a node i k e) (λ u. inl u) (λ u. inr (a, u.0, (refl, u.1)))
made_by (Run a node) g i k e = inl (makes_none (amount (Kept node) (g.arrivals i)) (Kept node) (Held a) (g.arrivals i) k
    (made_not_held a) e)
made_by (Settle a) g i k e = either (made_here g a 0 i k e) (λ u. inl u) (λ u. inr (a, u.0, (refl, u.1)))

pub makes_once : (actions : List Action) (g : Graph) → MadeOnce actions g
makes_once actions g before later action e i k =
    (made_stays action (after_all before g) i k, made_by action (after_all before g) i k)
