use Rattle.std.proofs.Common.{◌≡◌, [], ◌∷◌, sym, ap, ◌∙◌, rules}
use Rattle.std.specs.Prelude.{option_map}
use Rattle.lambda_expr.specs.NumberWords.{in_64_bits, number_value}
use Rattle.lambda_expr.specs.Words.{Word}
use Rattle.lambda_expr.proofs.NumberStops.{no_number, one_word, three_words, two_words}
use Rattle.lambda_expr.proofs.number.number_in.Goals as goal

pub returns-in-1 : goal.returns-in-1
returns-in-1 c = λ ws count one two three.
    let is : c.args.count ≡ 1 = search rules in
    c.digits_value.ensures ∙ ap (λ vs. option_map in_64_bits (number_value vs))
    (ap (λ (a : Word). a ∷ []) one ∙ one_word ws (sym count ∙ is))

pub returns-in-2 : goal.returns-in-2
returns-in-2 c = λ ws count one two three.
    let is : c.args.count ≡ 2 = search rules in
    c.negative.ensures ∙ ap (λ vs. option_map in_64_bits (number_value vs))
    ((λ i. one i ∷ two i ∷ []) ∙ two_words ws (sym count ∙ is))

pub returns-in-3 : goal.returns-in-3
returns-in-3 c = λ ws count one two three.
    let is : c.args.count ≡ 3 = search rules in
    c.constant.ensures ∙ ap (λ vs. option_map in_64_bits (number_value vs))
    ((λ i. one i ∷ two i ∷ three i ∷ []) ∙ three_words ws (sym count ∙ is))

pub returns-in_default : goal.returns-in_default
returns-in_default c = λ ws count one two three.
    let not_one : c.args.count ≡ 1 → ⊥ = search rules in
    let not_two : c.args.count ≡ 2 → ⊥ = search rules in
    let not_three : c.args.count ≡ 3 → ⊥ = search rules in
    ap (option_map in_64_bits) (no_number ws (λ e. not_one (count ∙ e)) (λ e. not_two (count ∙ e))
    (λ e. not_three (count ∙ e)))
