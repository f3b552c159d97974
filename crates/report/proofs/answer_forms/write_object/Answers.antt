use Rattle.std.proofs.Common.{refl, sym, subst}
use Rattle.std.proofs.lemmas.List.Elements.{All-get_or}
use Rattle.serde_json.specs.View.{view}
use Rattle.report.proofs.ArrayLemmas.{array_answer, optional_is}
use Rattle.report.specs.Named.{IsText}
use Rattle.report.proofs.answer_forms.write_object.Goals as goal

pub text_of-requires : goal.text_of-requires
text_of-requires c =
    subst IsText (sym c.index-names-job.is)
    (All-get_or IsText c.args.names.now c.in-Unusable.job c.index-names-job.result
    (c.requires.named c.in-Unusable.job c.in-Unusable.is) c.requires.text)

pub returns-in-Optional : goal.returns-in-Optional
returns-in-Optional c =
    rw (
      c.in-Optional.is,
      sym (optional_is c.in-Optional.value (view c.from-in-Optional.result)
          c.from-in-Optional.ensures),
    ) c.write_member-in-Optional.ensures

pub returns-in-Array : goal.returns-in-Array
returns-in-Array c =
    rw (array_answer c.args.names.now c.args.name.now c.args.answer.now c.in-Array.values c.in-Array.values
    c.in-Array.is refl) c.write_array_object.ensures
