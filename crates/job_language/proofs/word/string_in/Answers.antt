use Rattle.std.proofs.Common.{◌≡◌, [], ◌∷◌, sym, ap, ◌∙◌, rules}
use Rattle.lambda_expr.specs.CodeWords.{words_in}
use Rattle.lambda_expr.proofs.NumberStops.{one_word}
use Rattle.lambda_expr.proofs.WordList.{count_words}
use Rattle.job_language.specs.Table.{string_in}
use Rattle.job_language.proofs.CollectedPartLemmas.{no_string}
use Rattle.job_language.proofs.word.string_in.Goals as goal

pub returns-in-1 : goal.returns-in-1
returns-in-1 c =
    let t = c.args.text.now in
    let is : c.len.result ≡ 1 = search rules in
    c.string_of.ensures ∙ ap (λ w. string_in (w ∷ [])) c.word_at.ensures.word
    ∙ ap string_in (one_word (words_in t) (sym (count_words t _ c.len.ensures) ∙ is))

pub returns-in_default : goal.returns-in_default
returns-in_default c =
    let other : c.len.result ≡ 1 → ⊥ = search rules in
    no_string (words_in c.args.text.now) (λ e. other (count_words c.args.text.now _ c.len.ensures ∙ e))
