use Rattle.std.proofs.Common.{◌≡◌, [], ◌∷◌, sym, ap, ◌∙◌, rules}
use Rattle.std.specs.Prelude.{is_some}
use Rattle.lambda_expr.specs.CodeWords.{words_in}
use Rattle.lambda_expr.specs.NumberWords.{is_number}
use Rattle.lambda_expr.proofs.NumberStops.{no_number, one_word, three_words, two_words}
use Rattle.lambda_expr.proofs.WordList.{count_words}
use Rattle.lambda_expr.proofs.number.is_number.Goals as goal

pub returns-in-1 : goal.returns-in-1
returns-in-1 c =
    let t = c.args.text.now in
    let is : c.len.result ≡ 1 = search rules in
    c.is_digits.ensures ∙ ap is_number ((λ i. c.word_at.ensures.word i ∷ [])
    ∙ one_word (words_in t) (sym (count_words t _ c.len.ensures) ∙ is))

pub returns-in-2 : goal.returns-in-2
returns-in-2 c =
    let t = c.args.text.now in
    let is : c.len.result ≡ 2 = search rules in
    c.is_negative.ensures ∙ ap is_number
    ((λ i. c.word_at-in-2.ensures.word i ∷ c.word_at-in-2-2.ensures.word i ∷ [])
    ∙ two_words (words_in t) (sym (count_words t _ c.len.ensures) ∙ is))

pub returns-in-3 : goal.returns-in-3
returns-in-3 c =
    let t = c.args.text.now in
    let is : c.len.result ≡ 3 = search rules in
    c.is_constant.ensures ∙ ap is_number
    ((λ i. c.word_at-in-3.ensures.word i ∷ c.word_at-in-3-2.ensures.word i ∷ c.word_at-in-3-3.ensures.word i ∷ [])
    ∙ three_words (words_in t) (sym (count_words t _ c.len.ensures) ∙ is))

pub returns-in_default : goal.returns-in_default
returns-in_default c =
    let t = c.args.text.now in
    let same = count_words t _ c.len.ensures in
    let one : c.len.result ≡ 1 → ⊥ = search rules in
    let two : c.len.result ≡ 2 → ⊥ = search rules in
    let three : c.len.result ≡ 3 → ⊥ = search rules in
    ap is_some (no_number (words_in t) (λ e. one (same ∙ e)) (λ e. two (same ∙ e)) (λ e. three (same ∙ e)))
