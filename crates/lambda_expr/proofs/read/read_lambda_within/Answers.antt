use Rattle.std.proofs.Common.{arith, inl, refl, sym, ap, subst, ◌∙◌, ◌≡◌, ◌<◌, ◌≤◌, ◌==◌, Bool, true, [], ◌∷◌, ℕ, List}
use Rattle.std.proofs.Common.{length}
use Rattle.std.proofs.lemmas.Bool.Decides.{Decides-eqb}
use Rattle.lambda_expr.specs.declared.want.Want.{Want}
use Rattle.lambda_expr.specs.Codes.{IsStop}
use Rattle.lambda_expr.specs.Heads.{ALambda}
use Rattle.lambda_expr.specs.Refusals.{column, IsNoLambda}
use Rattle.lambda_expr.specs.Stops.{StopsAt}
use Rattle.lambda_expr.proofs.AnswerLemmas.{IsRead, judged_ok, judged_refused, stopped}
use Rattle.lambda_expr.proofs.Lambdas.{stops_empty}
use Rattle.lambda_expr.proofs.read.read_lambda_within.Goals as goal

-- no lambda is empty, and every one begins with nothing
nothing_stops : (cells : Bool) (text : List ℕ) (w : Want) → (length text == 0) ≡ true → IsNoLambda cells text w 1
nothing_stops cells [] w h =
    record {
      tokens = [];
      cut = (omega arith, refl);
      few = omega arith;
      place = 0;
      stops = stops_empty w;
      here = refl;
    }
nothing_stops cells (b ∷ bs) w h = let same = (Decides-eqb (length (b ∷ bs)) 0).0 h in absurd (omega arith)

pub returns-then-is_empty-clause-refused : goal.returns-then-is_empty-clause-refused
returns-then-is_empty-clause-refused c =
    nothing_stops c.args.cells c.args.text.now.bytes c.args.want
    (ap (λ (v : List ℕ). length v == 0) (sym c.bytes.ensures.bytes) ∙ sym c.is_empty.ensures ∙ c.if-is_empty.true)

pub returns-then-len-gt-MAX_TOKENS-clause-refused : goal.returns-then-len-gt-MAX_TOKENS-clause-refused
returns-then-len-gt-MAX_TOKENS-clause-refused c =
    let t = c.args.text.now in
    inl (record {
      tokens = t.tokens;
      cut = c.bytes.ensures.tokens;
      many = subst (λ n. 4096 < n) c.len.ensures c.if-len-gt-MAX_TOKENS.true;
    })

pub returns-in-Ok-clause-ok : goal.returns-in-Ok-clause-ok
returns-in-Ok-clause-ok c =
    let t = c.args.text.now in
    let few : length t.tokens ≤ 4096 = omega (arith, c.len.ensures, c.if-len-gt-MAX_TOKENS.false) in
    let read : IsRead c.args.cells t.bytes t.tokens c.of.result =
    record { cut = c.bytes.ensures.tokens; few = few; words = c.of.ensures } in
    judged_ok c.args.cells t.bytes t.tokens c.of.result c.args.want c.in-Ok.body c.judge.result read c.in-Ok.ensures.ok
    c.judge.ensures

pub returns-in-Ok-clause-refused : goal.returns-in-Ok-clause-refused
returns-in-Ok-clause-refused c =
    let t = c.args.text.now in
    let few : length t.tokens ≤ 4096 = omega (arith, c.len.ensures, c.if-len-gt-MAX_TOKENS.false) in
    let read : IsRead c.args.cells t.bytes t.tokens c.of.result =
    record { cut = c.bytes.ensures.tokens; few = few; words = c.of.ensures } in
    judged_refused c.args.cells t.bytes t.tokens c.of.result c.args.want c.in-Ok.body c.judge.result read
    c.in-Ok.ensures.ok c.judge.ensures

pub returns-in-Err-At-clause-refused : goal.returns-in-Err-At-clause-refused
returns-in-Err-At-clause-refused c =
    let t = c.args.text.now in
    let few : length t.tokens ≤ 4096 = omega (arith, c.len.ensures, c.if-len-gt-MAX_TOKENS.false) in
    let read : IsRead c.args.cells t.bytes t.tokens c.of.result =
    record { cut = c.bytes.ensures.tokens; few = few; words = c.of.ensures } in
    let stops : StopsAt (ALambda c.args.want) c.of.result c.in-Err-At.place =
    subst (IsStop (ALambda c.args.want) c.of.result) c.in-Err-At.field-0-is c.in-Err-At.ensures.stops in
    stopped c.args.cells t.bytes t.tokens c.of.result c.args.want c.in-Err-At.place c.column.result read stops
    (c.column.ensures ∙ ap (column t.bytes t.tokens) c.in-Err-At.place-is)
