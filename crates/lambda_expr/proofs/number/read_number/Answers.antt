use Rattle.std.proofs.Common.{◌≡◌, FitsSigned, Some, sym, subst, ap, ◌∙◌, rules, w64}
use Rattle.std.specs.Prelude.{is_some, option_map}
use Rattle.std.specs.Option.{option_flatten}
use Rattle.std.proofs.lemmas.Int.{to_z-of_z}
use Rattle.lambda_expr.specs.Numbers.{ANumber}
use Rattle.lambda_expr.specs.NumberWords.{in_64_bits, number_value}
use Rattle.lambda_expr.specs.NumberReading.{front}
use Rattle.lambda_expr.specs.Stops.{StopsAt}
use Rattle.lambda_expr.specs.Words.{words_of}
use Rattle.lambda_expr.proofs.NumberStops.{by_read, none_read, stops_there}
use Rattle.lambda_expr.proofs.WordList.{length-words_of}
use Rattle.lambda_expr.proofs.number.read_number.Goals as goal

pub returns-in-None-clause-refused : goal.returns-in-None-clause-refused
returns-in-None-clause-refused c =
    let ws = words_of c.args.text.now c.args.tokens.now in
    let is : c.number_in.result ≡ option_map in_64_bits (number_value ws) =
    c.number_in.ensures ws (sym (length-words_of c.args.text.now c.args.tokens.now)) c.token_word-first.ensures
    c.token_word-second.ensures c.token_word-third.ensures in
    let there = stops_there ws (none_read (number_value ws) c.number_in.result is c.in-None.is) in
    record {
      place = c.front.result;
      stops = subst (StopsAt ANumber ws)
          (sym (c.front.ensures ∙ (λ i. front (c.token_word-first.ensures i) (c.token_word-second.ensures i)
          (c.token_word-third.ensures i)))) there;
      here = c.column_of.ensures;
    }

pub returns-in-Some-Some-clause-ok : goal.returns-in-Some-Some-clause-ok
returns-in-Some-Some-clause-ok c =
    let ws = words_of c.args.text.now c.args.tokens.now in
    let is : c.number_in.result ≡ option_map in_64_bits (number_value ws) =
    c.number_in.ensures ws (sym (length-words_of c.args.text.now c.args.tokens.now)) c.token_word-first.ensures
    c.token_word-second.ensures c.token_word-third.ensures in
    let p = by_read (number_value ws) c.number_in.result is in
    let fits : FitsSigned w64 c.in-Some-Some.value = search rules in
    rw c.in-Some-Some.value-is (record {
      number = sym p.0 ∙ ap is_some c.in-Some-Some.is;
      value = sym p.1 ∙ ap option_flatten c.in-Some-Some.is ∙ c.in-Some-Some.field-0-is
          ∙ ap Some (sym (to_z-of_z w64 c.in-Some-Some.value fits));
    })

pub returns-in-Some-None-clause-refused : goal.returns-in-Some-None-clause-refused
returns-in-Some-None-clause-refused c =
    let ws = words_of c.args.text.now c.args.tokens.now in
    let is : c.number_in.result ≡ option_map in_64_bits (number_value ws) =
    c.number_in.ensures ws (sym (length-words_of c.args.text.now c.args.tokens.now)) c.token_word-first.ensures
    c.token_word-second.ensures c.token_word-third.ensures in
    let p = by_read (number_value ws) c.number_in.result is in
    record {
      number = sym p.0 ∙ ap is_some c.in-Some-None.is;
      outside = sym p.1 ∙ ap option_flatten c.in-Some-None.is ∙ c.in-Some-None.field-0-is;
    }
