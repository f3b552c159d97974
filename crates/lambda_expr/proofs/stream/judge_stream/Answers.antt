use Rattle.std.proofs.Common.{◌≡◌, ◌<◌, ◌≤◌, suc, max, false, true, length, option_map, Some, None, ap, rules, subst}
use Rattle.std.proofs.Common.{sym, ◌∙◌, arith}
use Rattle.lambda_expr.specs.Judging.{IsJudged}
use Rattle.lambda_expr.specs.Lexemes.{names_in}
use Rattle.lambda_expr.specs.Sources.{Takes}
use Rattle.lambda_expr.specs.BodyReading.{step_numbers}
use Rattle.lambda_expr.specs.Checks.{fit}
use Rattle.lambda_expr.specs.StreamChecks.{deepest, numbers}
use Rattle.lambda_values.specs.Streams.{exprs_of}
use Rattle.lambda_expr.proofs.StreamLemmas.{by_numbers, exprs_length, found_is, numbers_by, numbers_length, same_length}
use Rattle.lambda_expr.proofs.StreamLemmas.{too_deep, too_large, unknown}
use Rattle.lambda_expr.proofs.stream.judge_stream.Goals.{then-checks-ge-MAX_DEPTH-via-then-checks-ge-MAX_DEPTH}
use Rattle.lambda_expr.proofs.stream.judge_stream.Goals.{then-checks-ge-MAX_DEPTH-via-else-checks-ge-MAX_DEPTH+then-operands-gt-MAX}
use Rattle.lambda_expr.proofs.stream.judge_stream.Goals as goal

pub returns-then-not-fit : goal.returns-then-not-fit
returns-then-not-fit c = λ es takes is.
    let s = c.args.source in
    let h = names_in c.args.text.now.bytes c.args.text.now.tokens in
    let vs = c.args.operands.now in
    let checks = c.in_ok-checks.checks in
    let found = found_is vs es checks is c.in_ok-checks.ensures in
    let off : fit checks.literals ≡ false = search rules in
    too_large h s es (sym found.fit ∙ off)

pub returns-then-checks-ge-MAX_DEPTH : goal.returns-then-checks-ge-MAX_DEPTH
returns-then-checks-ge-MAX_DEPTH c = λ es takes is.
    let s = c.args.source in
    let h = names_in c.args.text.now.bytes c.args.text.now.tokens in
    let vs = c.args.operands.now in
    let checks = c.in_ok-checks.checks in
    let found = found_is vs es checks is c.in_ok-checks.ensures in
    let on : fit checks.literals ≡ true = search rules in
    let depth = found.depth in
    let size = same_length vs es is in
    elim c.then-checks-ge-MAX_DEPTH.branch [
      | then-checks-ge-MAX_DEPTH-via-then-checks-ge-MAX_DEPTH w ↦
          let deep = w.if-checks-ge-MAX_DEPTH.true in
          too_deep h s es (sym found.fit ∙ on) (let k : 64 < max (suc (deepest es)) (length es) = omega arith in k)
      | then-checks-ge-MAX_DEPTH-via-else-checks-ge-MAX_DEPTH+then-operands-gt-MAX w ↦
          too_deep h s es (sym found.fit ∙ on)
          (let k : 64 < max (suc (deepest es)) (length es) = omega (arith, w.if-operands-gt-MAX.true) in k)
    ]

pub returns-then-not-checks : goal.returns-then-not-checks
returns-then-not-checks c = λ es takes is.
    let s = c.args.source in
    let h = names_in c.args.text.now.bytes c.args.text.now.tokens in
    let vs = c.args.operands.now in
    let checks = c.in_ok-checks.checks in
    let found = found_is vs es checks is c.in_ok-checks.ensures in
    let on : fit checks.literals ≡ true = search rules in
    let off : checks.known ≡ false = search rules in
    unknown h s es (sym found.fit ∙ on) (let k : max (suc (deepest es)) (length es) ≤ 64 =
    omega (arith, c.if-operands-gt-MAX.false, c.if-checks-ge-MAX_DEPTH.false, same_length vs es is, found.depth) in
    k) (sym found.known ∙ off)

pub returns-in-Some : goal.returns-in-Some
returns-in-Some c = λ es takes is.
    let s = c.args.source in
    let h = names_in c.args.text.now.bytes c.args.text.now.tokens in
    let vs = c.args.operands.now in
    let checks = c.in_ok-checks.checks in
    let found = found_is vs es checks is c.in_ok-checks.ensures in
    let on : fit checks.literals ≡ true = search rules in
    let known : checks.known ≡ true = search rules in
    let depth = found.depth in
    let size = same_length vs es is in
    let flat = c.if-checks-ge-MAX_DEPTH.false in
    let few = c.if-operands-gt-MAX.false in
    let exprs = c.in-Some.exprs.items in
    let are : numbers h es ≡ Some (exprs_of exprs) =
    sym (numbers_by h es) ∙ ap (step_numbers h) (sym is) ∙ sym c.in_ok-exprs.ensures
    ∙ ap (option_map _) c.in-Some.is in
    let count : length es ≡ length exprs = sym (numbers_length h es (exprs_of exprs) are) ∙ exprs_length exprs in
    let gives = by_numbers h s es (Some (exprs_of exprs)) (sym found.fit ∙ on)
    (let k : max (suc (deepest es)) (length es) ≤ 64 = omega arith in k) (sym found.known ∙ known) are in
    let low : length exprs ≤ 64 = omega arith in
    subst (λ v. IsJudged v c.streamed.result) (sym gives) (c.streamed.ensures (subst (Takes s) count takes) low)

pub returns-in-None : goal.returns-in-None
returns-in-None c = λ es takes is.
    let s = c.args.source in
    let h = names_in c.args.text.now.bytes c.args.text.now.tokens in
    let vs = c.args.operands.now in
    let checks = c.in_ok-checks.checks in
    let found = found_is vs es checks is c.in_ok-checks.ensures in
    let on : fit checks.literals ≡ true = search rules in
    let known : checks.known ≡ true = search rules in
    let are : numbers h es ≡ None = sym (numbers_by h es) ∙ ap (step_numbers h) (sym is) ∙ sym c.in_ok-exprs.ensures
    ∙ ap (option_map _) c.in-None.is in
    by_numbers h s es None (sym found.fit ∙ on)
    (let k : max (suc (deepest es)) (length es) ≤ 64 =
    omega (arith, c.if-operands-gt-MAX.false, c.if-checks-ge-MAX_DEPTH.false, same_length vs es is, found.depth) in
    k) (sym found.known ∙ known) are
