-- Walks of parts side by side.
use Rattle.std.proofs.Common.{◌≡◌, ℕ, ℤ, ◌+◌, ◌-◌, ◌<◌, ◌≤◌, List, ◌++◌, take, drop, ap, sym, ◌∙◌, refl, arith, Bool}
use Rattle.std.proofs.Common.{false, Option, Some, None, inl, inr, ◌⊎◌}
use Rattle.std.specs.Prelude.{Result, int_lt, slice_index_or, pos}
use Rattle.std.proofs.lemmas.Bool.{cases_lt}
use Rattle.std.proofs.lemmas.List.{drop-drop}
use Rattle.std.proofs.Math.Seq.{take-add}
use Rattle.pending_count.specs.Pairs.{side_of}
use Rattle.completer_tree.specs.declared.part.Failure.{Failure}
use Rattle.pending_count.specs.declared.place.Place.{Place}
use Rattle.completer_tree.specs.Places.{Goes, place_by}
use Rattle.test_completers.specs.declared.cut.NumberCut.{NumberCut}
use Rattle.test_completers.specs.WalkLaws.{by_bounds}
use Rattle.test_completers.specs.Walks.{slice, begins, ends_at, IsClean}

-- two parts side by side
pub slices_join : (xs : List ℤ) (from middle to : ℕ) → from ≤ middle → middle ≤ to
    → slice xs from middle ++ slice xs middle to ≡ slice xs from to
slices_join xs from middle to l h =
    let e : from + (middle - from) ≡ middle = omega arith in
    let k : (middle - from) + (to - middle) ≡ to - from = omega arith in
    ap (λ d. slice xs from middle ++ take (to - middle) d)
    (sym (drop-drop (middle - from) from xs ∙ ap (λ n. drop n xs) e))
    ∙ sym (take-add (middle - from) (to - middle) (drop from xs))
    ∙ ap (λ n. take n (drop from xs)) k

clean_at : (xs : List ℤ) (from middle to i : ℕ) → IsClean xs from middle → IsClean xs middle to → from ≤ i → i < to
    → (i < middle) ⊎ (middle ≤ i) → int_lt (slice_index_or xs i (pos 0)) (pos 0) ≡ false
clean_at xs from middle to i l r low high (inl h) = l i low h
clean_at xs from middle to i l r low high (inr h) = r i h high

pub clean_join : (xs : List ℤ) (from middle to : ℕ) → IsClean xs from middle → IsClean xs middle to → IsClean xs from to
clean_join xs from middle to l r i low high = clean_at xs from middle to i l r low high (cases_lt i middle)

-- the answer of a node fits where it goes, for any fact of the bounds of a part and its value
pub goes_of : {X : Type 0} (fact : ℕ → ℕ → Result X Failure → Type 0) (cut : NumberCut)
    (parent : Option (NumberCut × Bool)) (v : Result X Failure) → fact cut.from cut.to v
    → ((p : NumberCut × Bool) → parent ≡ Some p
    → (begins p.0 (side_of p.1) ≡ cut.from) × (ends_at p.0 (side_of p.1) ≡ cut.to))
    → Goes {T = NumberCut} {V = X} {F = Failure} (λ c side w. fact (begins c side) (ends_at c side) w) cut parent v
goes_of fact cut None v h s = h
goes_of fact cut (Some p) v h s = let w = s p refl in
    by_bounds (λ a b. fact a b v) cut.from _ cut.to _ (sym w.0) (sym w.1) h

-- a place by its node, its top, its tag and its side
pub place_is : {T : Type 0} (p : Place T) (b : Bool) → p.side ≡ side_of b
    → Some p ≡ place_by p.node p.root (Some (p.tag, b))
place_is p b e = ap (λ s. Some (record p { side = s })) e
