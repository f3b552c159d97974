use Rattle.std.proofs.Common.{◌≡◌, int_lt, rules}
use Rattle.std.proofs.lemmas.List.Sorted.{answers_always}
use Rattle.sort_ops.proofs.NewLemmas.{falling_once, rising_once, some_answered}
use Rattle.sort_ops.proofs.lookup.rise_or_fall.Goals as goal

pub returns-then-is_sorted_by-clause-once : goal.returns-then-is_sorted_by-clause-once
returns-then-is_sorted_by-clause-once c =
    let computes = answers_always _ (λ a r. r ≡ int_lt a.0.now.value a.1.0.now.value) _ (λ a r q k. search rules) in
    rising_once c.args.items.now c.is_sorted_by.result
    (c.is_sorted_by.ensures.cases (λ x y. int_lt x.value y.value) computes)

pub returns-else-is_sorted_by-clause-once : goal.returns-else-is_sorted_by-clause-once
returns-else-is_sorted_by-clause-once c =
    let computes = answers_always _ (λ a r. r ≡ int_lt a.1.0.now.value a.0.now.value) _ (λ a r q k. search rules) in
    falling_once c.args.items.now c.is_sorted_by-else-is_sorted_by.result
    (c.is_sorted_by-else-is_sorted_by.ensures.cases (λ x y. int_lt y.value x.value) computes)

pub returns-else-is_sorted_by-clause-some : goal.returns-else-is_sorted_by-clause-some
returns-else-is_sorted_by-clause-some c =
    let computes = answers_always _ (λ a r. r ≡ int_lt a.1.0.now.value a.0.now.value) _ (λ a r q k. search rules) in
    some_answered (λ a b. int_lt b a) c.args.items.now c.is_sorted_by-else-is_sorted_by.result
    (c.is_sorted_by-else-is_sorted_by.ensures.cases (λ x y. int_lt y.value x.value) computes)
