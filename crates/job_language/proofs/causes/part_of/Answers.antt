use Rattle.std.proofs.Common.{◌≡◌, ◌+◌, length, drop, get_or, sym, ap, subst, ◌∙◌, arith, length-drop}
use Rattle.std.specs.Prelude.{slice_range}
use Rattle.lambda_expr.specs.CodeWords.{words_in}
use Rattle.lambda_expr.proofs.WordList.{length-words_of}
use Rattle.job_language.specs.Arguments.{no_token}
use Rattle.job_language.specs.Splitting.{AreEnds}
use Rattle.job_language.specs.Shapes.{start_before}
use Rattle.job_language.proofs.Ends.{wider}
use Rattle.job_language.proofs.LastParts.{text_at}
use Rattle.job_language.proofs.CauseLemmas.{ends_at, piece_at}
use Rattle.job_language.proofs.causes.part_of.Goals as goal

pub part_start-from-requires-clause-in_order : goal.part_start-from-requires-clause-in_order
part_start-from-requires-clause-in_order c =
    let t = c.args.text.now in
    let ws = words_in t in
    let left = length-drop (c.args.call.now.opened + 1) ws in
    let size = c.len.ensures in
    subst (λ es. AreEnds 0 es c.len.result) (sym c.as_slice-ends.ensures.value)
    (wider 0 c.args.call.now.ends.items (length (drop (c.args.call.now.opened + 1) ws)) c.len.result
    (omega (arith, length-words_of t.bytes t.tokens)) c.requires.stands.ends)

pub part-requires-clause-in_order : goal.part-requires-clause-in_order
part-requires-clause-in_order c =
    let es = c.args.call.now.ends.items in
    let ends = ends_at 0 es (length (drop (c.args.call.now.opened + 1) (words_in c.args.text.now))) c.args.place
    c.requires.in_range c.requires.stands.ends in
    let from : c.part_start-from.result ≡ start_before 0 es c.args.place =
    c.part_start-from.ensures ∙ ap (λ es. start_before 0 es c.args.place) c.as_slice-ends.ensures.value in
    let to : get_or c.as_slice-ends.result.now c.args.place 0 ≡ get_or es c.args.place 0 =
    ap (λ es. get_or es c.args.place 0) c.as_slice-ends.ensures.value in
    omega (arith, ends.0)

pub part-requires-clause-in_range : goal.part-requires-clause-in_range
part-requires-clause-in_range c =
    let t = c.args.text.now in
    let es = c.args.call.now.ends.items in
    let ends = ends_at 0 es (length (drop (c.args.call.now.opened + 1) (words_in t))) c.args.place c.requires.in_range
    c.requires.stands.ends in
    let to : get_or c.as_slice-ends.result.now c.args.place 0 ≡ get_or es c.args.place 0 =
    ap (λ es. get_or es c.args.place 0) c.as_slice-ends.ensures.value in
    omega (
      arith,
      ends.1,
      length-drop (c.args.call.now.opened + 1) (words_in t),
      length-words_of t.bytes t.tokens,
      c.requires.stands.opened,
    )

pub returns-clause-words : goal.returns-clause-words
returns-clause-words c =
    let es = c.args.call.now.ends.items in
    let ws = drop (c.args.call.now.opened + 1) (words_in c.args.text.now) in
    let from : c.part_start-from.result ≡ start_before 0 es c.args.place =
    c.part_start-from.ensures ∙ ap (λ es. start_before 0 es c.args.place) c.as_slice-ends.ensures.value in
    let to : get_or c.as_slice-ends.result.now c.args.place 0 ≡ get_or es c.args.place 0 =
    ap (λ es. get_or es c.args.place 0) c.as_slice-ends.ensures.value in
    c.part.ensures.words ∙ (λ i. slice_range ws (from i) (to i))
    ∙ sym (piece_at ws 0 es c.args.place c.requires.in_range)

pub returns-clause-last : goal.returns-clause-last
returns-clause-last c = λ last.
    let t = c.args.text.now in
    let k = c.args.call.now in
    let from = c.part_start-from.ensures ∙ ap (λ es. start_before 0 es c.args.place) c.as_slice-ends.ensures.value in
    let to = ap (λ es. get_or es c.args.place 0) c.as_slice-ends.ensures.value in
    c.part.ensures.text no_token ∙ text_at t (words_in t) k c.args.place c.part_start-from.result
    (get_or c.as_slice-ends.result.now c.args.place 0) c.requires.stands last from to
