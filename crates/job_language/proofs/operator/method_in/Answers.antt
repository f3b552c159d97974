use Rattle.std.proofs.Common.{◌≡◌, [], ◌∷◌, sym, ap, ◌∙◌, rules}
use Rattle.lambda_expr.specs.CodeWords.{words_in}
use Rattle.lambda_expr.proofs.NumberStops.{three_words}
use Rattle.lambda_expr.proofs.WordList.{count_words}
use Rattle.job_language.specs.Operators.{method_in}
use Rattle.job_language.proofs.CollectedPartLemmas.{no_method}
use Rattle.job_language.proofs.operator.method_in.Goals as goal

pub returns-in-3 : goal.returns-in-3
returns-in-3 c =
    let t = c.args.text.now in
    let is : c.len.result ≡ 3 = search rules in
    c.method_of.ensures ∙ ap method_in ((λ i. c.word_at.ensures.word i ∷ c.word_at-in-3.ensures.word i
    ∷ c.word_at-in-3-2.ensures.word i ∷ []) ∙ three_words (words_in t) (sym (count_words t _ c.len.ensures) ∙ is))

pub returns-in_default : goal.returns-in_default
returns-in_default c =
    let other : c.len.result ≡ 3 → ⊥ = search rules in
    no_method (words_in c.args.text.now) (λ e. other (count_words c.args.text.now _ c.len.ensures ∙ e))
