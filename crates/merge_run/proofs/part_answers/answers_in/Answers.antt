use Rattle.std.proofs.Common.{◌≡◌, ◌≢◌, ℕ, ◌+◌, true, false, not, true≢false, List, [], ◌∷◌, ◌++◌, length}
use Rattle.std.proofs.Common.{length-append, drop, Option, Some, None, IfSome, ap, is_ok, refl, subst, sym, ◌∙◌, arith}
use Rattle.std.proofs.Common.{zero, suc, ◌<◌, slice_index_or}
use Rattle.std.specs.Prelude.{All, nat_eq, slice_index_or}
use Rattle.std.specs.Cmp.Lexicographic.{pointwise}
use Rattle.std.proofs.lemmas.Bool.Decides.{Decides-eqb}
use Rattle.std.proofs.lemmas.Slice.Eq.{slice_eq-Decides}
use Rattle.std.proofs.lemmas.List.Elements.{All-nil, All-push}
use Rattle.std.proofs.ResultArms.{chosen}
use Rattle.job_meaning.specs.Longs.{AnswerFits, AnswersFit}
use Rattle.job_meaning.specs.declared.answer.Answer.{Answer}
use Rattle.merge_run.proofs.ReportLemmas.{small_more}
use Rattle.merge_run.proofs.RestLemmas.{Reads, TakesObject, begun, names_are_plain, no_object, one_more, other_object}
use Rattle.merge_run.proofs.RestLemmas.{reads_next}
use Rattle.merge_run.specs.declared.objects.JobObject.{JobObject}
use Rattle.report.specs.Named.{IsNamed}
use Rattle.merge_run.proofs.part_answers.answers_in.Goals as goal

pub loop-name-init : goal.loop-name-init
loop-name-init c =
    let names = c.args.names.now in
    let items : c.new-answers.result.items ≡ [] = c.new-answers.ensures.items in (
      subst (λ (xs : List Answer). Reads names c.args.bytes.now false names xs c.in-Some.left.now) (sym items)
          (begun names c.args.bytes.now c.in-Some.left.now c.requires c.in-Some.ensures),
      subst (All (IsNamed names)) (sym items) (All-nil (IsNamed names)),
      subst (AnswersFit names) (sym items) tt,
      ap length items,
      omega arith,
    )

pub take_object-requires : goal.take_object-requires
take_object-requires c = names_are_plain c.args.names.now c.requires

pub returns-in_default-2-clause-none : goal.returns-in_default-2-clause-none
returns-in_default-2-clause-none c =
    let names = c.args.names.now in
    let i = c.loop-name.name-index in
    let begun_at = c.in-Some-next_object.begun.now in
    let reads = reads_next names c.args.bytes.now c.loop-name.later i [] c.loop-name.answers.items c.loop-name.left.now
    c.loop-name-test.true c.loop-name.invariant.0 in
    let takes : TakesObject names begun_at None =
    subst (λ (o : Option JobObject). TakesObject names begun_at o) c.in_default-2.is
    c.in_ok-object.ensures.complete in
    λ known.
    no_object names c.args.bytes.now c.loop-name.later (slice_index_or names i []) (drop (i + 1) names)
    c.loop-name.answers.items c.loop-name.left.now begun_at
    (c.requires i [] c.loop-name-test.true) reads c.in-Some-next_object.ensures takes

any_default : (xs : List (List ℕ)) (i : ℕ) (d e : List ℕ) → i < length xs
    → slice_index_or xs i d ≡ slice_index_or xs i e
any_default [] i d e below = absurd (omega (arith, below))
any_default (x ∷ xs) zero d e below = refl
any_default (x ∷ xs) (suc i) d e below = any_default xs i d e (omega (arith, below))

pub returns-then-ne-clause-none : goal.returns-then-ne-clause-none
returns-then-ne-clause-none c =
    let names = c.args.names.now in
    let i = c.loop-name.name-index in
    let begun_at = c.in-Some-next_object.begun.now in
    let object = c.in-Some-2.object in
    let reads = reads_next names c.args.bytes.now c.loop-name.later i [] c.loop-name.answers.items c.loop-name.left.now
    c.loop-name-test.true c.loop-name.invariant.0 in
    let takes : TakesObject names begun_at (Some object) =
    subst (λ (o : Option JobObject). TakesObject names begun_at o) c.in-Some-2.is c.in_ok-object.ensures.complete in
    let item : c.as_slice.result.now ≡ slice_index_or names i [] =
    c.as_slice.ensures ∙ c.name-item.is ∙ any_default names i c.name-item.result [] c.loop-name-test.true in
    let differs : object.name.now ≢ slice_index_or names i [] = λ same.
    let equal : pointwise nat_eq object.name.now c.as_slice.result.now ≡ true =
    (slice_eq-Decides Decides-eqb object.name.now c.as_slice.result.now _ refl).1 (same ∙ sym item) in
    true≢false (sym c.if-ne.true ∙ c.ne.ensures ∙ ap not equal) in
    λ known.
    other_object names c.args.bytes.now c.loop-name.later (slice_index_or names i []) (drop (i + 1) names)
    c.loop-name.answers.items c.loop-name.left.now begun_at
    (c.requires i [] c.loop-name-test.true) reads c.in-Some-next_object.ensures object takes differs

pub loop-name-preserved : goal.loop-name-preserved
loop-name-preserved c =
    let names = c.args.names.now in
    let i = c.loop-name.name-index in
    let begun_at = c.in-Some-next_object.begun.now in
    let object = c.in-Some-2.object in
    let before = c.loop-name.answers.items in
    let items : c.push.new.self.items ≡ before ++ object.answer ∷ [] =
    chosen _ _ _ _ c.push.ensures.items (ap is_ok c.in_ok-push.was) in
    let reads = reads_next names c.args.bytes.now c.loop-name.later i [] before c.loop-name.left.now
    c.loop-name-test.true c.loop-name.invariant.0 in
    let takes : TakesObject names begun_at (Some object) =
    subst (λ (o : Option JobObject). TakesObject names begun_at o) c.in-Some-2.is c.in_ok-object.ensures.complete in
    let named : IsNamed names object.answer =
    subst (λ (o : Option JobObject). IfSome o (λ (j : JobObject). IsNamed names j.answer)) c.in-Some-2.is
    c.in_ok-object.ensures.named in
    let small : AnswerFits names object.answer =
    subst (λ (o : Option JobObject). IfSome o (λ (j : JobObject). AnswerFits names j.answer)) c.in-Some-2.is
    c.in_ok-object.ensures.small in (
      subst (λ (xs : List Answer). Reads names c.args.bytes.now true (drop (i + 1) names) xs object.rest.now)
          (sym items)
          (one_more names c.args.bytes.now c.loop-name.later (slice_index_or names i []) (drop (i + 1) names) before
          c.loop-name.left.now begun_at
          (c.requires i [] c.loop-name-test.true) reads c.in-Some-next_object.ensures object takes),
      subst (All (IsNamed names)) (sym items)
          (All-push (IsNamed names) before object.answer c.loop-name.invariant.1 named),
      subst (AnswersFit names) (sym items) (small_more names before object.answer c.loop-name.invariant.2 small),
      ap length items ∙ length-append before (object.answer ∷ []) ∙ ap (λ (n : ℕ). n + 1) c.loop-name.invariant.3,
      omega (arith, c.loop-name-test.true),
    )
