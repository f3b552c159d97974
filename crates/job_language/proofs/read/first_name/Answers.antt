use Rattle.std.proofs.Common.{[], ◌∷◌, ap, ◌∙◌}
use Rattle.std.specs.Option.{unwrap_or}
use Rattle.lambda_expr.specs.CodeWords.{words_in}
use Rattle.job_language.specs.Table.{name_in}
use Rattle.job_language.proofs.WordLists.{first_is, unwrap_mapped}
use Rattle.job_language.proofs.read.first_name.Goals as goal

pub returns : goal.returns
returns c =
    ap (λ w. w.now) c.unwrap_or.ensures ∙ unwrap_mapped (λ w. w.now) c.name_of.result _
    ∙ ap (λ o. unwrap_or o []) (c.name_of.ensures ∙ ap (λ w. name_in (w ∷ [])) c.word_at.ensures.word)
    ∙ first_is (words_in c.args.text.now)
