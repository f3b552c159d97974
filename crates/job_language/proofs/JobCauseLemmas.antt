-- Causes of a whole job, call by call.
use Rattle.std.proofs.Common.{◌≡◌, ℕ, zero, suc, ◌+◌, ◌<◌, ◌≤◌, Bool, true, false, drop, List, [], ◌∷◌, ◌++◌, length}
use Rattle.std.proofs.Common.{get_or, Option, Some, None, refl, ap, sym, subst, ◌∙◌, arith}
use Rattle.std.proofs.lemmas.List.{drop_all, drop_more, length-append}
use Rattle.lambda_expr.specs.Words.{Word}
use Rattle.job_language.specs.declared.piece.WrittenCall as written
use Rattle.job_language.specs.declared.fault.Cause.{Cause}
use Rattle.job_language.specs.declared.fault.Cause.TheVariants.{Syntax, TooLong}
use Rattle.job_language.specs.Table.{role_of}
use Rattle.job_language.specs.Calls.{Call, call_words}
use Rattle.job_language.specs.Arguments.{PlacedCall}
use Rattle.job_language.specs.Verdicts.{placed}
use Rattle.job_language.specs.Grammar.{Source, Sources, plain, concat, two, more, Job, Piece, call, close, comma}
use Rattle.job_language.specs.Grammar.{piece_words, job_pieces, calls_of, source_pieces, sources_pieces, plain_sources}
use Rattle.job_language.specs.Grammar.{fallback_calls, job_calls, IsSource, AreSources, AreStages, IsFallback}
use Rattle.job_language.specs.Grammar.{IsSpelled, IsJob}
use Rattle.job_language.specs.Shapes.{call_in, calls_in, all_placed, StandsIn, StandIn, AreCallsIn, one_if_source}
use Rattle.job_language.specs.Shapes.{sources_in, begins_with_column, has_one_column, first_name}
use Rattle.job_language.specs.Causes.{Scope, first_cause, when, has_later_call, version_cause, version_of_call}
use Rattle.job_language.specs.Causes.{name_causes, sources_cause, is_column, is_one_column, goes_over_rows, causes_of}
use Rattle.job_language.proofs.PieceLemmas.{calls_append}
use Rattle.job_language.proofs.CauseLemmas.{first_append, first_stays, length_parts}
use Rattle.job_language.proofs.ShapeLemmas.{one_spelled, calls_job}
use Rattle.std.specs.Prelude.{◌&&◌, ◌||◌, nat_eq, nat_lt}
use Rattle.std.proofs.lemmas.Grind.{common_steps}

stands_at : (ws : List Word) (cs : List written.WrittenCall) (i : ℕ) (d : written.WrittenCall) → i < length cs
    → StandIn ws cs → StandsIn ws (get_or cs i d)
stands_at ws [] i d lt h = absurd (omega arith)
stands_at ws (c ∷ cs) zero d lt h = h.0
stands_at ws (c ∷ cs) (suc i) d lt h = stands_at ws cs i d (omega arith) h.1

-- a call that a loop reads belongs to the words, as all calls do
pub item_stands : (ws : List Word) (cs : List written.WrittenCall) (i : ℕ) (x : written.WrittenCall) → i < length cs
    → x ≡ get_or cs i x → StandIn ws cs → StandsIn ws x
item_stands ws cs i x lt is h = subst (StandsIn ws) (sym is) (stands_at ws cs i x lt h)

-- the sources among the calls of a job are its plain sources
both_count : (xs ys : List Call) → sources_in (xs ++ ys) ≡ sources_in xs + sources_in ys
both_count [] ys = let same : sources_in ([] ++ ys) ≡ sources_in ys = refl in let none : sources_in [] ≡ 0 = refl in
    omega arith
both_count (x ∷ xs) ys = let rest = both_count xs ys in omega arith

all_both : (xs ys : List Call) → sources_in xs ≡ length xs → sources_in ys ≡ length ys
    → sources_in (xs ++ ys) ≡ length (xs ++ ys)
all_both xs ys h k = let a = both_count xs ys in let b = length-append xs ys in omega arith

closed_counts : (cs : List Piece) → sources_in (calls_of cs) ≡ length (calls_of cs)
    → sources_in (calls_of (cs ++ close ∷ [])) ≡ length (calls_of (cs ++ close ∷ []))
closed_counts cs h = subst (λ v. sources_in v ≡ length v) (sym (calls_append cs (close ∷ [])))
    (all_both (calls_of cs) [] h refl)

mutual
  source_counts : (s : Source) → IsSource s → sources_in (plain_sources s) ≡ length (plain_sources s)
  source_counts (plain true c) h = ap (λ r. one_if_source r + 0) h.role
  source_counts (plain false c) h = ap (λ r. one_if_source r + 0) h.role
  source_counts (concat true ss) h = closed_counts (sources_pieces ss) (sources_count ss h)
  source_counts (concat false ss) h = closed_counts (sources_pieces ss) (sources_count ss h)

  sources_count : (ss : Sources) → AreSources ss
      → sources_in (calls_of (sources_pieces ss)) ≡ length (calls_of (sources_pieces ss))
  sources_count (two a b) h = subst (λ v. sources_in v ≡ length v)
      (sym (calls_append (source_pieces a) (comma ∷ source_pieces b)))
      (all_both (plain_sources a) (plain_sources b) (source_counts a h.0) (source_counts b h.1))
  sources_count (more ss s) h = subst (λ v. sources_in v ≡ length v)
      (sym (calls_append (sources_pieces ss) (comma ∷ source_pieces s)))
      (all_both (calls_of (sources_pieces ss)) (plain_sources s) (sources_count ss h.0) (source_counts s h.1))

stages_count : (cs : List Call) → AreStages cs → sources_in cs ≡ 0
stages_count [] h = refl
stages_count (c ∷ cs) h = let none : one_if_source (role_of c.operation) ≡ 0 = ap one_if_source h.0.role in
    let rest = stages_count cs h.1 in omega arith

fallback_counts : (o : Option Call) → IsFallback o → sources_in (fallback_calls o) ≡ 0
fallback_counts None h = refl
fallback_counts (Some c) h = ap (λ r. one_if_source r + 0) h.role

pub sources_of_job : (ws : List Word) (j : Job) → IsSpelled ws j
    → sources_in (job_calls j) ≡ length (plain_sources j.source)
sources_of_job ws j h =
    let tail = j.terminal ∷ fallback_calls j.fallback in
    let e : one_if_source (role_of j.terminal.operation) ≡ 0 = ap one_if_source h.terminal.role in
    omega (
      arith,
      both_count (plain_sources j.source) (j.stages ++ tail),
      both_count j.stages tail,
      source_counts j.source h.source,
      stages_count j.stages h.stages,
      fallback_counts j.fallback h.fallback,
    )

pub name_of_job : (ws : List Word) (j : Job) → IsJob ws j → j.name ≡ first_name ws
name_of_job ws j h = ap first_name h.spelled.spelled

abbrev only : List PlacedCall → List Call
only [] = []
only (c ∷ cs) = c.call ∷ only cs

only_all : (ws : List Word) (cs : List written.WrittenCall) → only (all_placed ws cs) ≡ calls_in ws cs
only_all ws [] = refl
only_all ws (c ∷ cs) = ap (λ v. call_in ws c ∷ v) (only_all ws cs)

only_placed : (n : ℕ) (ps : List Piece) → only (placed n ps) ≡ calls_of ps
only_placed n [] = refl
only_placed n (call c ∷ ps) = ap (λ v. c ∷ v) (only_placed (n + length (call_words c)) ps)
only_placed n (p ∷ ps) = only_placed (n + length (piece_words p)) ps

calls_of_job : (ws : List Word) (cs : List written.WrittenCall) (j : Job) → AreCallsIn ws (all_placed ws cs)
    → IsJob ws j → calls_in ws cs ≡ job_calls j
calls_of_job ws cs j a h = sym (only_all ws cs) ∙ ap only a.calls ∙ only_placed 2 (job_pieces a.job) ∙ calls_job a.job
    ∙ ap job_calls (one_spelled ws a.job j a.is.spelled h.spelled)

sources_are : (ws : List Word) (cs : List written.WrittenCall) (j : Job) → AreCallsIn ws (all_placed ws cs) → IsJob ws j
    → sources_in (calls_in ws cs) ≡ length (plain_sources j.source)
sources_are ws cs j a h = ap sources_in (calls_of_job ws cs j a h) ∙ sources_of_job ws j h.spelled

few : (n : ℕ) → n ≤ 8 → when (nat_lt 8 n) TooLong ≡ None
few n h = grind (arith, common_steps)

many : (n : ℕ) → 8 < n → when (nat_lt 8 n) TooLong ≡ Some TooLong
many n h = grind (arith, common_steps)

pub version_is : (s : Scope) (ws : List Word) (cs : List written.WrittenCall) (j : Job)
    → AreCallsIn ws (all_placed ws cs) → IsJob ws j
    → when (has_later_call s.version (calls_in ws cs)) Syntax ≡ version_cause s j
version_is s ws cs j a h = ap (λ v. when (has_later_call s.version v) Syntax) (calls_of_job ws cs j a h)

less : (a b : ℕ) → a < b → nat_lt a b ≡ true
less a b h = grind (arith, common_steps)

not_less : (a b : ℕ) → b ≤ a → nat_lt a b ≡ false
not_less a b h = grind (arith, common_steps)

-- the calls from a place on, if one is there, of a later version or not
from_here : (ws : List Word) (version : ℕ) (cs : List written.WrittenCall) (i : ℕ) (c : written.WrittenCall)
    → i < length cs → c ≡ get_or cs i c
    → has_later_call version (calls_in ws (drop i cs))
    ≡ nat_lt version (version_of_call c.operation (length c.ends.items))
    || has_later_call version (calls_in ws (drop (i + 1) cs))
from_here ws version cs i c lt is =
    ap (λ v. has_later_call version (calls_in ws v)) (drop_more cs i c lt ∙ ap (λ d. d ∷ drop (i + 1) cs) (sym is))
    ∙ ap (λ n. nat_lt version (version_of_call c.operation n) || has_later_call version (calls_in ws (drop (i + 1) cs)))
    (length_parts (drop (c.opened + 1) ws) 0 c.ends.items)

pub later_here : (ws : List Word) (version : ℕ) (cs : List written.WrittenCall) (i : ℕ) (c : written.WrittenCall)
    → i < length cs → c ≡ get_or cs i c
    → version < version_of_call c.operation (length c.ends.items)
    → has_later_call version (calls_in ws (drop i cs)) ≡ true
later_here ws version cs i c lt is later =
    from_here ws version cs i c lt is ∙ ap (λ b. b || has_later_call version (calls_in ws (drop (i + 1) cs)))
    (less version _ later)

pub later_more : (ws : List Word) (version : ℕ) (cs : List written.WrittenCall) (i : ℕ) (c : written.WrittenCall)
    → i < length cs → c ≡ get_or cs i c
    → version_of_call c.operation (length c.ends.items) ≤ version
    → has_later_call version (calls_in ws (drop i cs)) ≡ has_later_call version (calls_in ws (drop (i + 1) cs))
later_more ws version cs i c lt is early =
    from_here ws version cs i c lt is ∙ ap (λ b. b || has_later_call version (calls_in ws (drop (i + 1) cs)))
    (not_less version _ early)

pub none_later : (ws : List Word) (version : ℕ) (cs : List written.WrittenCall) (i : ℕ) → length cs ≤ i
    → has_later_call version (calls_in ws (drop i cs)) ≡ false
none_later ws version cs i far = ap (λ v. has_later_call version (calls_in ws v)) (drop_all i cs far)

-- the items are rows, if the one source is a column
more_sources : (n : ℕ) (b : Bool) → false ≡ nat_eq (suc (suc n)) 1 && b
more_sources n b = grind (arith, common_steps)

over_one : (xs ys : List Call) → is_one_column xs ≡ nat_eq (length xs) 1 && begins_with_column (xs ++ ys)
over_one [] ys = refl
over_one (c ∷ []) ys = refl
over_one (c ∷ d ∷ xs) ys = more_sources (length xs) (is_column c.operation)

pub over_rows : (ws : List Word) (cs : List written.WrittenCall) (j : Job) → AreCallsIn ws (all_placed ws cs)
    → IsJob ws j → has_one_column (calls_in ws cs) ≡ goes_over_rows j
over_rows ws cs j a h =
    ap has_one_column (calls_of_job ws cs j a h)
    ∙ ap (λ n. nat_eq n 1 && begins_with_column (job_calls j)) (sources_of_job ws j h.spelled)
    ∙ sym (over_one (plain_sources j.source) (j.stages ++ j.terminal ∷ fallback_calls j.fallback))

-- the causes of a job that come before the causes of its calls
pub by_version : (s : Scope) (j : Job) (e : Cause) → version_cause s j ≡ Some e → first_cause (causes_of s j) ≡ Some e
by_version s j e h = ap (λ o. first_cause (o ∷ (name_causes s j.name ++ sources_cause j ∷ []))) h

pub after_version : (s : Scope) (j : Job) → version_cause s j ≡ None
    → first_cause (causes_of s j) ≡ first_cause (name_causes s j.name ++ sources_cause j ∷ [])
after_version s j h = ap (λ o. first_cause (o ∷ (name_causes s j.name ++ sources_cause j ∷ []))) h

pub by_name : (s : Scope) (ws : List Word) (j : Job) (e : Cause) → IsJob ws j
    → first_cause (name_causes s (first_name ws)) ≡ Some e
    → first_cause (name_causes s j.name ++ sources_cause j ∷ []) ≡ Some e
by_name s ws j e h k = first_stays (name_causes s j.name) (sources_cause j ∷ []) e
    (ap (λ w. first_cause (name_causes s w)) (name_of_job ws j h) ∙ k)

after_name : (s : Scope) (ws : List Word) (j : Job) → IsJob ws j → first_cause (name_causes s (first_name ws)) ≡ None
    → first_cause (name_causes s j.name ++ sources_cause j ∷ []) ≡ first_cause (sources_cause j ∷ [])
after_name s ws j h k = first_append (name_causes s j.name) (sources_cause j ∷ [])
    (ap (λ w. first_cause (name_causes s w)) (name_of_job ws j h) ∙ k)

pub by_sources : (s : Scope) (ws : List Word) (cs : List written.WrittenCall) (j : Job)
    → AreCallsIn ws (all_placed ws cs) → IsJob ws j → first_cause (name_causes s (first_name ws)) ≡ None
    → 8 < sources_in (calls_in ws cs) → first_cause (name_causes s j.name ++ sources_cause j ∷ []) ≡ Some TooLong
by_sources s ws cs j a h k over =
    let n = length (plain_sources j.source) in
    after_name s ws j h k ∙ ap (λ d. first_cause (d ∷ [])) (many n (omega (arith, sources_are ws cs j a h)))

pub by_none : (s : Scope) (ws : List Word) (cs : List written.WrittenCall) (j : Job) → AreCallsIn ws (all_placed ws cs)
    → IsJob ws j → first_cause (name_causes s (first_name ws)) ≡ None → sources_in (calls_in ws cs) ≤ 8
    → first_cause (name_causes s j.name ++ sources_cause j ∷ []) ≡ None
by_none s ws cs j a h k within =
    let n = length (plain_sources j.source) in
    after_name s ws j h k ∙ ap (λ d. first_cause (d ∷ [])) (few n (omega (arith, sources_are ws cs j a h)))
