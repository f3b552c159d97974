use Rattle.std.proofs.Common.{◌≡◌, sym, ◌∙◌, rules}
use Rattle.lambda_expr.specs.CodeWords.{words_in}
use Rattle.lambda_expr.proofs.WordList.{count_words}
use Rattle.job_language.proofs.WordLists.{some_words, none_words}
use Rattle.job_language.proofs.word.has_words.Goals as goal

pub returns-in-0 : goal.returns-in-0
returns-in-0 c =
    let is : c.len.result ≡ 0 = search rules in
    none_words (words_in c.args.text.now) (sym (count_words c.args.text.now _ c.len.ensures) ∙ is)

pub returns-in_default : goal.returns-in_default
returns-in_default c =
    let other : c.len.result ≡ 0 → ⊥ = search rules in
    some_words (words_in c.args.text.now) (λ e. other (count_words c.args.text.now _ c.len.ensures ∙ e))
