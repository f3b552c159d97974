use Rattle.std.proofs.Common.{◌≡◌, ◌+◌, ◌<◌, ◌≤◌, drop, sym, ap, subst, ◌∙◌, rules, arith, Fits, w64, length-drop}
use Rattle.std.specs.Prelude.{MatchOption}
use Rattle.job_language.specs.declared.operation.Role.TheVariants as role
use Rattle.job_language.specs.declared.piece.Mark.TheVariants as mark
use Rattle.job_language.specs.Grammar.{call}
use Rattle.lambda_expr.specs.CodeWords.{words_in}
use Rattle.lambda_expr.proofs.WordList.{length-words_of}
use Rattle.job_language.specs.Splitting.{call_at, IsReadAs, IsNoCallOf}
use Rattle.job_language.specs.Shapes.{width, Begins}
use Rattle.job_language.proofs.PieceReads.{begins_call, begins_no_call, call_ends}
use Rattle.job_language.proofs.piece.call_piece.Goals as goal

pub returns-in_default : goal.returns-in_default
returns-in_default c =
    let t = c.args.text.now in
    let ws = words_in t in
    let o = c.args.operation in
    let at = c.args.at in
    let lt = subst (λ n. at + 1 < n) (sym (length-words_of t.bytes t.tokens)) c.requires.in_range in
    let other : c.role_of-role.result ≡ role.Concatenation → ⊥ = search rules in
    let two_ : at + 1 + 1 ≡ at + 2 = omega arith in
    let read = subst (λ f. MatchOption f (IsNoCallOf o (drop (at + 1 + 1) ws))
    (λ ends. IsReadAs o (drop (at + 1 + 1) ws) ends.items)) c.in_default.is c.in_ok-ends.ensures in
    begins_no_call ws at o lt c.requires.name c.requires.open (subst (λ n. IsNoCallOf o (drop n ws)) two_ read)
    (λ h. other (c.role_of-role.ensures ∙ h))

pub width-requires : goal.width-requires
width-requires c =
    let t = c.args.text.now in
    let o = c.args.operation in
    let ws = drop (c.args.at + 1 + 1) (words_in t) in
    let read = subst (λ f. MatchOption f (IsNoCallOf o ws) (λ ends. IsReadAs o ws ends.items)) c.in-Some.is
    c.in_ok-ends.ensures in
    subst (λ es. width es ≤ c.len-len.result) (sym c.deref.ensures.value)
    (omega (
      arith,
      c.len-len.ensures,
      length-words_of t.bytes t.tokens,
      length-drop (c.args.at + 1 + 1) (words_in t),
      (call_ends o ws c.in-Some.ends.items read).1,
    ))

pub overflow_add-to-2 : goal.overflow_add-to-2
overflow_add-to-2 c =
    let t = c.args.text.now in
    let o = c.args.operation in
    let ws = drop (c.args.at + 1 + 1) (words_in t) in
    let read = subst (λ f. MatchOption f (IsNoCallOf o ws) (λ ends. IsReadAs o ws ends.items)) c.in-Some.is
    c.in_ok-ends.ensures in
    let is : c.width.result ≡ width c.in-Some.ends.items = c.width.ensures ∙ ap width c.deref.ensures.value in
    let fits : Fits w64 c.len-len.result = search rules in
    omega (
      arith,
      c.requires.in_range,
      c.len-len.ensures,
      length-words_of t.bytes t.tokens,
      length-drop (c.args.at + 1 + 1) (words_in t),
      (call_ends o ws c.in-Some.ends.items read).1,
    )

pub returns : goal.returns
returns c =
    let t = c.args.text.now in
    let ws = words_in t in
    let o = c.args.operation in
    let at = c.args.at in
    let lt = subst (λ n. at + 1 < n) (sym (length-words_of t.bytes t.tokens)) c.requires.in_range in
    let two_ : at + 1 + 1 ≡ at + 2 = omega arith in
    let read = subst (λ f. MatchOption f (IsNoCallOf o (drop (at + 1 + 1) ws))
    (λ ends. IsReadAs o (drop (at + 1 + 1) ws) ends.items)) c.in-Some.is c.in_ok-ends.ensures in
    let here = subst (λ n. IsReadAs o (drop n ws) c.in-Some.ends.items) two_ read in
    let is : c.width.result ≡ width c.in-Some.ends.items = c.width.ensures ∙ ap width c.deref.ensures.value in
    record {
      begins = subst (λ n. Begins ws at (call (call_at o (drop (at + 1 + 1) ws) c.in-Some.ends.items)) (at + 2 + n))
          (sym is) (begins_call ws at o c.in-Some.ends.items lt c.requires.name c.requires.open here);
      mark = ap mark.Call (sym c.role_of-role.ensures);
      opens = omega arith;
      stands = record { opened = lt; ends = read.ends };
    }
