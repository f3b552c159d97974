use Rattle.std.proofs.Common.{◌≡◌, ◌+◌, ◌<◌, ◌≤◌, length, drop, sym, ap, ◌∙◌, rules, arith, length-drop}
use Rattle.std.proofs.lemmas.Grind.{common_steps}
use Rattle.std.proofs.lemmas.List.{get_or-drop}
use Rattle.job_language.specs.declared.word.Bracket.TheVariants.{Close}
use Rattle.job_language.specs.Calls.{bracket_of, nest}
use Rattle.lambda_expr.specs.Words.{bad}
use Rattle.lambda_expr.specs.CodeWords.{words_in}
use Rattle.lambda_expr.proofs.WordList.{count_words}
use Rattle.job_language.proofs.Ends.{goes_on, parts_on, closes, closes_first, ends_open}
use Rattle.job_language.proofs.call.split.Goals as goal
use Rattle.job_language.proofs.call.split.Goals.{in-Some, in-None+else-eq+in_ok-push-in-None-2}

pub returns-then-at-eq0 : goal.returns-then-at-eq0
returns-then-at-eq0 c =
    let all = words_in c.args.text.now in
    let ws = drop (c.args.opened + 1) all in
    let lt : c.loop-at.at < length ws = omega (
      arith,
      c.loop-at-test.true,
      count_words c.args.text.now _ c.len.ensures,
      length-drop (c.args.opened + 1) all,
    ) in
    let bracket = c.bracket_at-bracket.ensures
    ∙ ap bracket_of (sym (get_or-drop (c.args.opened + 1) all c.loop-at.at bad)) in
    let close : c.bracket_at-bracket.result ≡ Close = search rules in
    closes_first ws c.loop-at.at c.loop-at.depth c.loop-at.ends.items lt c.if-at-eq0.true
    (ap (nest c.loop-at.depth) (sym bracket) ∙ sym c.nest.ensures.value ∙ c.in-None.is) (sym bracket ∙ close)
    c.loop-at.invariant

pub returns-then-eq : goal.returns-then-eq
returns-then-eq c =
    let all = words_in c.args.text.now in
    let ws = drop (c.args.opened + 1) all in
    let lt : c.loop-at.at < length ws = omega (
      arith,
      c.loop-at-test.true,
      count_words c.args.text.now _ c.len.ensures,
      length-drop (c.args.opened + 1) all,
    ) in
    let bracket = c.bracket_at-bracket.ensures
    ∙ ap bracket_of (sym (get_or-drop (c.args.opened + 1) all c.loop-at.at bad)) in
    let close : c.bracket_at-bracket.result ≡ Close = search rules in
    let some : 0 < c.loop-at.at = grind (arith, common_steps) in
    closes ws c.loop-at.at c.loop-at.depth c.loop-at.ends.items c.push.new.self.items lt some
    (ap (nest c.loop-at.depth) (sym bracket) ∙ sym c.nest.ensures.value ∙ c.in-None.is) (sym bracket ∙ close)
    c.in_ok-push-in-None.ensures.items c.loop-at.invariant

pub loop-at-preserved : goal.loop-at-preserved
loop-at-preserved c =
    let all = words_in c.args.text.now in
    let ws = drop (c.args.opened + 1) all in
    let lt : c.loop-at.at < length ws = omega (
      arith,
      c.loop-at-test.true,
      count_words c.args.text.now _ c.len.ensures,
      length-drop (c.args.opened + 1) all,
    ) in
    let bracket = c.bracket_at-bracket.ensures
    ∙ ap bracket_of (sym (get_or-drop (c.args.opened + 1) all c.loop-at.at bad)) in
    elim c.match-nest.branch [
      | in-Some w ↦ rw w.ends-is (rw w.depth-is
          (goes_on ws c.loop-at.at c.loop-at.depth w.in-Some.after c.loop-at.ends.items lt
          (ap (nest c.loop-at.depth) (sym bracket) ∙ sym c.nest.ensures.value ∙ w.in-Some.is) w.in-Some.ensures.bound
          c.loop-at.invariant))
      | in-None+else-eq+in_ok-push-in-None-2 w ↦
          let other : c.bracket_at-bracket.result ≡ Close → ⊥ = search rules in
          rw w.ends-is (rw w.depth-is (parts_on ws c.loop-at.at c.loop-at.depth c.loop-at.ends.items
          w.push-in-None.new.self.items lt
          (ap (nest c.loop-at.depth) (sym bracket) ∙ sym c.nest.ensures.value ∙ w.in-None.is)
          (λ h. other (bracket ∙ h)) w.in_ok-push-in-None-2.ensures.items c.loop-at.invariant))
    ]

pub returns : goal.returns
returns c =
    let all = words_in c.args.text.now in
    let ws = drop (c.args.opened + 1) all in
    let few : length ws ≤ c.loop-at.at =
    omega (
      arith,
      c.loop-at-test.false,
      count_words c.args.text.now _ c.len.ensures,
      length-drop (c.args.opened + 1) all,
    ) in
    ends_open ws c.loop-at.at c.loop-at.depth c.loop-at.ends.items few c.loop-at.invariant
