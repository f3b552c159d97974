use Rattle.std.proofs.Common.{◌≡◌, drop}
use Rattle.std.specs.List.{list_all}
use Rattle.lambda_expr.specs.CodeWords.{words_in}
use Rattle.job_language.specs.Grammar.{is_sound}
use Rattle.job_language.proofs.sound.are_sound.Given as goal

-- all words are sound if the ones that are left are
abbrev pub invariant-loop-place : goal.invariant-loop-place
invariant-loop-place l = list_all is_sound (words_in l.text) ≡ list_all is_sound (drop l.place (words_in l.text))
