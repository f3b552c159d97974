use Rattle.std.proofs.Common.{ap, sym, ◌∙◌}
use Rattle.std.specs.Prelude.{is_some}
use Rattle.lambda_expr.specs.CodeWords.{words_in}
use Rattle.job_language.specs.Table.{fits}
use Rattle.job_language.proofs.WordLists.{is_mapped}
use Rattle.job_language.proofs.word.fits.Goals as goal

pub returns-in-Text : goal.returns-in-Text
returns-in-Text c = c.is_some.ensures ∙ is_mapped _ c.string_in.result ∙ ap is_some c.string_in.ensures
    ∙ ap (λ p. fits p (words_in c.args.text.now)) (sym c.in-Text.is)

pub returns-in-Name : goal.returns-in-Name
returns-in-Name c = c.is_some-in-Name.ensures ∙ is_mapped _ c.name_in.result ∙ ap is_some c.name_in.ensures
    ∙ ap (λ p. fits p (words_in c.args.text.now)) (sym c.in-Name.is)

pub returns-in-Places : goal.returns-in-Places
returns-in-Places c = c.is_some-in-Places.ensures ∙ ap is_some c.places_in.ensures
    ∙ ap (λ p. fits p (words_in c.args.text.now)) (sym c.in-Places.is)
