-- Lines by their kinds: skipped ones as the empty line, ones that continue as `.`, ones that begin as `a`.
use Rattle.std.proofs.Common.{◌≡◌, ◌⊎◌, inl, inr, ℕ, Bool, true, false, nat_eq, List, [], ◌∷◌, refl, ap, ◌∙◌}
use Rattle.std.specs.Prelude.{◌||◌, if◌then◌else◌}
use Rattle.std.specs.List.{starts_with}
use Rattle.stream_tokens.specs.Bytes.{is_blank}
use Rattle.stream_tokens.specs.JobTexts.{kind_of, kind_of_solid}

abbrev pub HasKind : List ℕ → Type 0
HasKind line = (kind_of line ≡ kind_of []) ⊎ ((kind_of line ≡ kind_of (46 ∷ [])) ⊎ (kind_of line ≡ kind_of (97 ∷ [])))

by_tests : (line : List ℕ) (p q : Bool) → kind_of line
    ≡ (if p then kind_of [] else (if q then kind_of (46 ∷ []) else kind_of (97 ∷ []))) → HasKind line
by_tests line true q h = inl h
by_tests line false true h = inr (inl h)
by_tests line false false h = inr (inr h)

by_blank : (c : Bool) (b : ℕ) (bs : List ℕ) → is_blank b ≡ c → HasKind bs → HasKind (b ∷ bs)
by_blank true b bs h further = further_kind further
  where
    same : kind_of (b ∷ bs) ≡ kind_of bs
    same = ap (λ c. if c then kind_of bs else kind_of_solid (b ∷ bs)) h

    further_kind : HasKind bs → HasKind (b ∷ bs)
    further_kind (inl e) = inl (same ∙ e)
    further_kind (inr (inl e)) = inr (inl (same ∙ e))
    further_kind (inr (inr e)) = inr (inr (same ∙ e))
by_blank false b bs h further =
    by_tests (b ∷ bs) (starts_with nat_eq (b ∷ bs) (35 ∷ []) || starts_with nat_eq (b ∷ bs) (47 ∷ 47 ∷ []))
    (starts_with nat_eq (b ∷ bs) (46 ∷ [])) (ap (λ c. if c then kind_of bs else kind_of_solid (b ∷ bs)) h)

pub each_kind : (line : List ℕ) → HasKind line
each_kind [] = inl refl
each_kind (b ∷ bs) = by_blank (is_blank b) b bs refl (each_kind bs)
