-- The calls of a job, in turn.
use Rattle.std.proofs.Common.{◌≡◌, ℕ, suc, ◌+◌, ◌<◌, ◌≤◌, ℤ, Bool, true, false, inl, inr, List, [], ◌∷◌, ◌++◌, length}
use Rattle.std.proofs.Common.{drop, get_or, Option, Some, None, Result, Ok, Err, refl, sym, ap, subst, ◌∙◌, arith}
use Rattle.std.specs.Prelude.{nat_le, if◌then◌else◌}
use Rattle.std.proofs.lemmas.List.{drop_more, drop_all, length-append}
use Rattle.std.proofs.lemmas.Grind.{common_steps}
use Rattle.stream_tokens.specs.CutTexts.{TokenizedText}
use Rattle.lambda_expr.specs.Words.{Word}
use Rattle.job_language.specs.declared.piece.WrittenCall as written
use Rattle.job_language.specs.declared.row.CallPart.{CallPart}
use Rattle.job_language.specs.declared.fault.Cause.{Cause}
use Rattle.job_language.specs.declared.fault.Cause.TheVariants as cause
use Rattle.job_language.specs.declared.terminal.Gives.{Gives}
use Rattle.job_language.specs.declared.terminal.Gives.TheVariants as gives
use Rattle.job_language.specs.Rows.{AbstractCall, Argument, Row, as_source, as_concat, as_stage, as_terminal}
use Rattle.job_language.specs.Rows.{as_fallback, taken, made, built_by, role_in, source, stage, terminal, fallback}
use Rattle.job_language.specs.Table.{row, role_of}
use Rattle.job_language.specs.declared.job.JobStage.{JobStage}
use Rattle.job_language.specs.declared.job.PlainSource.{PlainSource}
use Rattle.job_language.specs.Jobs.{AbstractJob, AbstractTerminal, given_by, source_of, sources_of, job_stage_of}
use Rattle.job_language.specs.Jobs.{job_stages_of}
use Rattle.job_language.specs.Causes.{Scope, first_cause, when, stage_cause, early_causes, numbers_of}
use Rattle.job_language.specs.Arguments.{PlacedCall, IsArgumentRead}
use Rattle.job_language.specs.Verdicts.{BegunJob, call_answer, added, below_terminal, fallback_below, fallback_for}
use Rattle.job_language.specs.Verdicts.{finished, IsReadAfter, IsCallRead, IsReadInTurn, IsNextCall, AreRead}
use Rattle.job_language.specs.Shapes.{placed_in, all_placed}
use Rattle.job_language.specs.Parts.{part_in, answer_in, Answers}

-- a call that is refused for its numbers, or for its last part
pub early : (s : Scope) (t : TokenizedText) (c : PlacedCall) (e : Cause) → first_cause (early_causes c.call) ≡ Some e
    → IsCallRead s t c (Err e)
early s t c e h = subst (λ f. IsReadAfter f s t c (Err e)) (sym h) refl

pub late : (s : Scope) (t : TokenizedText) (c : PlacedCall) (e : Cause) → first_cause (early_causes c.call) ≡ None
    → IsArgumentRead s t c (Err e) → IsCallRead s t c (Err e)
late s t c e h a = subst (λ f. IsReadAfter f s t c (Err e)) (sym h) (Err e, a, refl)

-- a call whose parts were read
pub whole : (s : Scope) (t : TokenizedText) (c : PlacedCall) (ks : List ℤ) (a : Argument) (r : Result CallPart Cause)
    → first_cause (early_causes c.call) ≡ None → ks ≡ numbers_of c.call.operation (length c.call.parts) 0 c.call.parts
    → IsArgumentRead s t c (Ok a) → answer_in part_in r ≡ call_answer c.call.operation ks (Ok a)
    → Answers part_in (IsCallRead s t c) r
whole s t c ks a (Ok p) h k arg eq = subst (λ f. IsReadAfter f s t c (Ok (part_in p))) (sym h)
    (Ok a, arg, ap (λ v. call_answer c.call.operation v (Ok a)) (sym k) ∙ sym eq)
whole s t c ks a (Err e) h k arg eq = λ other. subst (λ f. IsReadAfter f s t c (Err e)) (sym h)
    (Ok a, arg, ap (λ v. call_answer c.call.operation v (Ok a)) (sym k) ∙ sym eq)

below : (n : ℕ) → when (nat_le 32 n) cause.TooLong ≡ None → n < 32
below n h = grind (arith, common_steps)

-- what is built of what is taken
what : {A : Type 0} (f : A → AbstractCall) (x : Result A Cause) (g : AbstractCall) → made f x ≡ Ok g
    → (v : A) × (f v ≡ g)
what f (Ok v) g e = (v, cc)
what f (Err c) g e = absurd cc

grown : (j : BegunJob) (r : Row) (a : Argument) (ks : List ℤ) (g : AbstractCall) → built_by r a ks ≡ Ok g
    → stage_cause (length j.stages) (role_in r) ≡ None → length j.stages ≤ 32 → length (added j g).stages ≤ 32
grown j (as_source t) a ks g e h le = let w = what source (taken t a ks) g e in
    subst (λ v. length (added j v).stages ≤ 32) w.1 le
grown j as_concat a ks g e h le = absurd cc
grown j (as_stage t) a ks g e h le =
    let w = what stage (taken t a ks) g e in
    let more : length (added j (stage w.0)).stages ≤ 32 =
    omega (arith, length-append j.stages (w.0 ∷ []), below (length j.stages) h) in
    subst (λ v. length (added j v).stages ≤ 32) w.1 more
grown j (as_terminal t) a ks g e h le = let w = what terminal (taken t a ks) g e in
    subst (λ v. length (added j v).stages ≤ 32) w.1 le
grown j (as_fallback t) a ks g e h le = let w = what fallback (taken t a ks) g e in
    subst (λ v. length (added j v).stages ≤ 32) w.1 le

after_call : (j : BegunJob) (s : Scope) (t : TokenizedText) (c : PlacedCall) (g : AbstractCall) (f : Option Cause)
    → IsReadAfter f s t c (Ok g) → stage_cause (length j.stages) (role_of c.call.operation) ≡ None
    → length j.stages ≤ 32 → length (added j g).stages ≤ 32
after_call j s t c g (Some e) r h le = absurd cc
after_call j s t c g None (Ok a, arg, eq) h le = let o = c.call.operation in
    grown j (row o) a (numbers_of o (length c.call.parts) 0 c.call.parts) g eq h le
after_call j s t c g None (Err e, arg, eq) h le = absurd cc

in_turn : (j : BegunJob) (s : Scope) (t : TokenizedText) (c : PlacedCall) (g : AbstractCall) (late : Option Cause)
    → stage_cause (length j.stages) (role_of c.call.operation) ≡ late → IsReadInTurn late s t c (Ok g)
    → length j.stages ≤ 32 → length (added j g).stages ≤ 32
in_turn j s t c g (Some e) h r le = absurd cc
in_turn j s t c g None h r le = after_call j s t c g (first_cause (early_causes c.call)) r h le

after_turn : (j : BegunJob) (s : Scope) (t : TokenizedText) (c : PlacedCall) (g : AbstractCall)
    → IsReadInTurn (stage_cause (length j.stages) (role_of c.call.operation)) s t c (Ok g) → length j.stages ≤ 32
    → length (added j g).stages ≤ 32
after_turn j s t c g r le = in_turn j s t c g (stage_cause (length j.stages) (role_of c.call.operation)) refl r le

by_terminal : (d : Gives) (j : BegunJob) (z : ℤ) (g : AbstractCall) → fallback_for d z ≡ Ok g → length j.stages ≤ 32
    → length (added j g).stages ≤ 32
by_terminal gives.Number j z g h le = let same : fallback z ≡ g = cc in
    subst (λ v. length (added j v).stages ≤ 32) same le
by_terminal x j z g h le = absurd cc

by_below : (d : Option AbstractTerminal) (j : BegunJob) (z : ℤ) (g : AbstractCall) → fallback_below d z ≡ Ok g
    → length j.stages ≤ 32 → length (added j g).stages ≤ 32
by_below None j z g h le = absurd cc
by_below (Some d) j z g h le = by_terminal (given_by d) j z g h le

by_answer : (j : BegunJob) (s : Scope) (t : TokenizedText) (c : PlacedCall) (q : Result AbstractCall Cause)
    (g : AbstractCall)
    → IsReadInTurn (stage_cause (length j.stages) (role_of c.call.operation)) s t c q
    → below_terminal j.terminal q ≡ Ok g → length j.stages ≤ 32 → length (added j g).stages ≤ 32
by_answer j s t c (Err e) g turn h le = absurd cc
by_answer j s t c (Ok (fallback z)) g turn h le = by_below j.terminal j z g h le
by_answer j s t c (Ok k) g turn h le = let same : k ≡ g = cc in
    subst (λ v. length (added j v).stages ≤ 32) same (after_turn j s t c k turn le)

pub few_after : (j : BegunJob) (s : Scope) (t : TokenizedText) (c : PlacedCall) (g : AbstractCall)
    → IsNextCall j s t c (Ok g) → length j.stages ≤ 32 → length (added j g).stages ≤ 32
few_after j s t c g (q, turn, h) le = by_answer j s t c q g turn h le

-- a call that is read in turn, below the terminal
pub next_refused : (j : BegunJob) (s : Scope) (t : TokenizedText) (c : PlacedCall) (e : Cause)
    → IsReadInTurn (stage_cause (length j.stages) (role_of c.call.operation)) s t c (Err e) → IsNextCall j s t c (Err e)
next_refused j s t c e turn = (Err e, turn, refl)

pub next_read : (j : BegunJob) (s : Scope) (t : TokenizedText) (c : PlacedCall) (g : AbstractCall)
    (r : Result CallPart Cause) → IsReadInTurn (stage_cause (length j.stages) (role_of c.call.operation)) s t c (Ok g)
    → answer_in part_in r ≡ below_terminal j.terminal (Ok g) → Answers part_in (IsNextCall j s t c) r
next_read j s t c g (Ok p) turn h = (Ok g, turn, sym h)
next_read j s t c g (Err e) turn h = λ other. (Ok g, turn, sym h)

-- the calls from a place on
pub turn_here : (s : Scope) (t : TokenizedText) (j : BegunJob) (ws : List Word) (cs : List written.WrittenCall) (i : ℕ)
    (x : written.WrittenCall) (e : Cause) → i < length cs → x ≡ get_or cs i x
    → IsNextCall j s t (placed_in ws x) (Err e) → AreRead s t j (all_placed ws (drop i cs)) (Err e)
turn_here s t j ws cs i x e lt is h = subst (λ v. AreRead s t j (all_placed ws v) (Err e))
    (sym (drop_more cs i x lt ∙ ap (λ y. y ∷ drop (i + 1) cs) (sym is))) (inl (e, h, refl))

pub turn_more : (s : Scope) (t : TokenizedText) (j k : BegunJob) (ws : List Word) (cs : List written.WrittenCall)
    (i : ℕ) (x : written.WrittenCall) (g : AbstractCall) (r : Result AbstractJob Cause) → i < length cs
    → x ≡ get_or cs i x → IsNextCall j s t (placed_in ws x) (Ok g) → k ≡ added j g
    → AreRead s t k (all_placed ws (drop (i + 1) cs)) r → AreRead s t j (all_placed ws (drop i cs)) r
turn_more s t j k ws cs i x g r lt is h same rest =
    subst (λ v. AreRead s t j (all_placed ws v) r) (sym (drop_more cs i x lt ∙ ap (λ y. y ∷ drop (i + 1) cs) (sym is)))
    (inr (g, h, subst (λ v. AreRead s t v (all_placed ws (drop (i + 1) cs)) r) same rest))

pub length_stages : (gs : List JobStage) → length (job_stages_of gs) ≡ length gs
length_stages [] = refl
length_stages (g ∷ gs) = ap suc (length_stages gs)

pub sources_push : (xs ys : List PlainSource) → sources_of (xs ++ ys) ≡ sources_of xs ++ sources_of ys
sources_push [] ys = refl
sources_push (x ∷ xs) ys = ap (λ v. source_of x ∷ v) (sources_push xs ys)

pub stages_push : (xs ys : List JobStage) → job_stages_of (xs ++ ys) ≡ job_stages_of xs ++ job_stages_of ys
stages_push [] ys = refl
stages_push (x ∷ xs) ys = ap (λ v. job_stage_of x ∷ v) (stages_push xs ys)

-- the stages after a push that may fail
pub few_pushed : (pushed : Bool) (gs hs : List JobStage) (g : JobStage) → hs ≡ (if pushed then gs ++ g ∷ [] else gs)
    → length (job_stages_of gs ++ job_stage_of g ∷ []) ≤ 32 → length gs ≤ 32 → length hs ≤ 32
few_pushed true gs hs g e more few =
    subst (λ v. length v ≤ 32) (sym e) (omega
    (arith, length-append gs (g ∷ []), length_stages gs, length-append (job_stages_of gs) (job_stage_of g ∷ [])))
few_pushed false gs hs g e more few = subst (λ v. length v ≤ 32) (sym e) few

pub none_left : (s : Scope) (t : TokenizedText) (j : BegunJob) (ws : List Word) (cs : List written.WrittenCall) (i : ℕ)
    → length cs ≤ i → AreRead s t j (all_placed ws (drop i cs)) (finished s j)
none_left s t j ws cs i far = subst (λ v. AreRead s t j (all_placed ws v) (finished s j)) (sym (drop_all i cs far)) refl
