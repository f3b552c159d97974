use Rattle.std.proofs.Common.{◌≡◌, ◌+◌, ◌<◌, ◌≤◌, true, false, drop, sym, ap, subst, ◌∙◌, rules}
use Rattle.std.specs.Prelude.{◌&&◌}
use Rattle.std.specs.List.{list_all}
use Rattle.std.proofs.lemmas.List.{drop_all}
use Rattle.lambda_expr.specs.CodeWords.{word_of, words_in}
use Rattle.lambda_expr.proofs.WordList.{count_words}
use Rattle.job_language.specs.Grammar.{is_sound}
use Rattle.job_language.proofs.WordLists.{sound_on}
use Rattle.job_language.proofs.sound.are_sound.Goals as goal

pub returns-then-not-is_sound : goal.returns-then-not-is_sound
returns-then-not-is_sound c =
    let ws = words_in c.args.text.now in
    let lt = subst (λ n. c.loop-place.place < n) (count_words c.args.text.now _ c.len-place-end.ensures)
    c.loop-place-test.true in
    let off : is_sound (word_of c.word_at.result) ≡ false = search rules in
    sym (sound_on ws c.loop-place.place (word_of c.word_at.result) lt c.word_at.ensures.word c.loop-place.invariant
    ∙ ap (λ b. b && list_all is_sound (drop (c.loop-place.place + 1) ws)) off)

pub loop-place-preserved : goal.loop-place-preserved
loop-place-preserved c =
    let ws = words_in c.args.text.now in
    let lt = subst (λ n. c.loop-place.place < n) (count_words c.args.text.now _ c.len-place-end.ensures)
    c.loop-place-test.true in
    let on : is_sound (word_of c.word_at.result) ≡ true = search rules in
    sound_on ws c.loop-place.place (word_of c.word_at.result) lt c.word_at.ensures.word c.loop-place.invariant
    ∙ ap (λ b. b && list_all is_sound (drop (c.loop-place.place + 1) ws)) on

pub returns : goal.returns
returns c =
    let ws = words_in c.args.text.now in
    let far = subst (λ n. n ≤ c.loop-place.place) (count_words c.args.text.now _ c.len-place-end.ensures)
    c.loop-place-test.false in
    sym (c.loop-place.invariant ∙ ap (list_all is_sound) (drop_all c.loop-place.place ws far))
