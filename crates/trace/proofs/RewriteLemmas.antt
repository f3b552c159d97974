-- Pieces that a pass changes one after the other.
use Rattle.std.proofs.Common.{◌≡◌, ◌≢◌, ℕ, zero, suc, ◌+◌, ◌<◌, List, [], ◌∷◌, ◌++◌, length, take, drop, slice_index_or}
use Rattle.std.proofs.Common.{set, refl, sym, ap, ◌∙◌, append_assoc, arith}
use Rattle.std.specs.List.{flat_map}
use Rattle.std.proofs.lemmas.List.{append-nil}

-- the next piece changes; what the pass makes of the items to come changes with it
changed : {X A : Type 0} (f : X → List A) (before after : List A → List A) (xs : List X) (i : ℕ) (x y : X)
    → i < length xs → x ≡ slice_index_or xs i x
    → ((rest : List A) → before (f x ++ rest) ≡ f y ++ after rest)
    → flat_map f (take (suc i) (set xs i y)) ++ after (flat_map f (drop (suc i) (set xs i y)))
    ≡ flat_map f (take i xs) ++ before (flat_map f (drop i xs))
changed f before after [] i x y within here next = absurd (omega (arith, within))
changed f before after (z ∷ xs) zero x y within here next =
    ap (λ front. front ++ after (flat_map f xs)) (append-nil (f y)) ∙ sym (next (flat_map f xs))
    ∙ ap (λ w. before (f w ++ flat_map f xs)) here
changed f before after (z ∷ xs) (suc i) x y within here next =
    append_assoc (f z) (flat_map f (take (suc i) (set xs i y))) (after (flat_map f (drop (suc i) (set xs i y))))
    ∙ ap (λ later. f z ++ later) (changed f before after xs i x y (omega (arith, within)) here next)
    ∙ sym (append_assoc (f z) (flat_map f (take i xs)) (before (flat_map f (drop i xs))))

pub piece_changed : {X A : Type 0} (f : X → List A) (before after : List A → List A) (xs : List X) (i : ℕ) (x y : X)
    → i < length xs → x ≡ slice_index_or xs i x
    → ((rest : List A) → before (f x ++ rest) ≡ f y ++ after rest)
    → flat_map f (take (i + 1) (set xs i y)) ++ after (flat_map f (drop (i + 1) (set xs i y)))
    ≡ flat_map f (take i xs) ++ before (flat_map f (drop i xs))
piece_changed f before after xs i x y within here next =
    let e : i + 1 ≡ suc i = omega arith in
    (λ j. flat_map f (take (e j) (set xs i y)) ++ after (flat_map f (drop (e j) (set xs i y))))
    ∙ changed f before after xs i x y within here next

-- a list of this length is empty only if the old one was
pub as_many : {A : Type 0} (old new : List A) → length new ≡ length old → old ≢ [] → new ≢ []
as_many [] new same some_item none = some_item refl
as_many (a ∷ old) [] same some_item none = absurd (omega (arith, same))
as_many (a ∷ old) (b ∷ new) same some_item none = cc
