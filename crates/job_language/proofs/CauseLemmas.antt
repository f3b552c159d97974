-- Causes, part by part.
use Rattle.std.proofs.Common.{◌≡◌, ℕ, zero, suc, ◌+◌, ◌<◌, ◌≤◌, List, [], ◌∷◌, ◌++◌, length, drop, get_or, Option, Some}
use Rattle.std.proofs.Common.{None, refl, ap, ◌∙◌, arith}
use Rattle.std.specs.Prelude.{slice_range}
use Rattle.std.proofs.lemmas.List.{drop_more}
use Rattle.lambda_expr.specs.Words.{Word}
use Rattle.job_language.specs.declared.operation.Operation.{Operation}
use Rattle.job_language.specs.declared.fault.Cause.{Cause}
use Rattle.job_language.specs.Table.{param_of}
use Rattle.job_language.specs.Splitting.{pieces, AreEnds}
use Rattle.job_language.specs.Shapes.{start_before}
use Rattle.job_language.specs.Causes.{first_cause, number_cause, number_causes}

-- the causes of two lists, one after the other
pub first_append : (cs ds : List (Option Cause)) → first_cause cs ≡ None → first_cause (cs ++ ds) ≡ first_cause ds
first_append [] ds h = refl
first_append (None ∷ cs) ds h = first_append cs ds h
first_append (Some c ∷ cs) ds h = absurd cc

pub first_stays : (cs ds : List (Option Cause)) (c : Cause) → first_cause cs ≡ Some c → first_cause (cs ++ ds) ≡ Some c
first_stays [] ds c h = absurd cc
first_stays (None ∷ cs) ds c h = first_stays cs ds c h
first_stays (Some d ∷ cs) ds c h = h

pub piece_at : (ws : List Word) (a : ℕ) (es : List ℕ) (i : ℕ) → i < length es
    → get_or (pieces ws a es) i [] ≡ slice_range ws (start_before a es i) (get_or es i 0)
piece_at ws a [] i lt = absurd (omega arith)
piece_at ws a (e ∷ es) zero lt = refl
piece_at ws a (e ∷ es) (suc zero) lt = piece_at ws (e + 1) es zero (omega arith)
piece_at ws a (e ∷ es) (suc (suc i)) lt = piece_at ws (e + 1) es (suc i) (omega arith)

pub ends_at : (a : ℕ) (es : List ℕ) (n i : ℕ) → i < length es → AreEnds a es n
    → (start_before a es i ≤ get_or es i 0) × (get_or es i 0 < n)
ends_at a [] n i lt h = absurd (omega arith)
ends_at a (e ∷ es) n zero lt h = (h.0, h.1)
ends_at a (e ∷ es) n (suc zero) lt h = ends_at (e + 1) es n zero (omega arith) h.2
ends_at a (e ∷ es) n (suc (suc i)) lt h = ends_at (e + 1) es n (suc i) (omega arith) h.2

-- the numbers of a call, from a part on
pub numbers_more : (o : Operation) (n i : ℕ) (xs : List (List Word)) → i < length xs
    → number_cause (param_of o n i) (get_or xs i []) ≡ None
    → first_cause (number_causes o n i (drop i xs)) ≡ first_cause (number_causes o n (i + 1) (drop (i + 1) xs))
numbers_more o n i xs lt none =
    let e : suc i ≡ i + 1 = omega arith in
    ap (λ v. first_cause (number_causes o n i v)) (drop_more xs i [] lt)
    ∙ ap (λ c. first_cause (c ∷ number_causes o n (suc i) (drop (i + 1) xs))) none
    ∙ ap (λ k. first_cause (number_causes o n k (drop (i + 1) xs))) e

pub numbers_here : (o : Operation) (n i : ℕ) (xs : List (List Word)) (c : Cause) → i < length xs
    → number_cause (param_of o n i) (get_or xs i []) ≡ Some c → first_cause (number_causes o n i (drop i xs)) ≡ Some c
numbers_here o n i xs c lt some =
    ap (λ v. first_cause (number_causes o n i v)) (drop_more xs i [] lt)
    ∙ ap (λ d. first_cause (d ∷ number_causes o n (suc i) (drop (i + 1) xs))) some

pub length_parts : (ws : List Word) (a : ℕ) (es : List ℕ) → length (pieces ws a es) ≡ length es
length_parts ws a [] = refl
length_parts ws a (e ∷ es) = ap suc (length_parts ws (e + 1) es)

-- the first of three groups of causes
pub by_count : (c d : Option Cause) (ns : List (Option Cause)) (e : Cause) → c ≡ Some e
    → first_cause (c ∷ (ns ++ d ∷ [])) ≡ Some e
by_count c d ns e h = ap (λ v. first_cause (v ∷ (ns ++ d ∷ []))) h

pub by_numbers : (c d : Option Cause) (ns : List (Option Cause)) (e : Cause) → c ≡ None → first_cause ns ≡ Some e
    → first_cause (c ∷ (ns ++ d ∷ [])) ≡ Some e
by_numbers c d ns e h k = ap (λ v. first_cause (v ∷ (ns ++ d ∷ []))) h ∙ first_stays ns (d ∷ []) e k

single : (d : Option Cause) → first_cause (d ∷ []) ≡ d
single None = refl
single (Some e) = refl

pub by_row : (c d : Option Cause) (ns : List (Option Cause)) → c ≡ None → first_cause ns ≡ None
    → first_cause (c ∷ (ns ++ d ∷ [])) ≡ d
by_row c d ns h k = ap (λ v. first_cause (v ∷ (ns ++ d ∷ []))) h ∙ first_append ns (d ∷ []) k ∙ single d
