use Rattle.std.proofs.Common.{◌≡◌, ℕ, suc, ◌+◌, ◌<◌, ◌≤◌, [], ap, drop, get_or, length, rules, subst, sym, ◌∙◌, arith}
use Rattle.std.proofs.Common.{List, ◌∷◌, ◌++◌}
use Rattle.std.proofs.lemmas.List.{length-append}
use Rattle.std.specs.Global.{Vec}
use Rattle.lambda_expr.specs.declared.lexeme.Lexeme.TheVariants as word
use Rattle.lambda_expr.specs.declared.sign.Sign.TheVariants as sign
use Rattle.lambda_expr.specs.declared.step.ParseStep.{ParseStep}
use Rattle.lambda_expr.specs.SourceReading.{ArePosted, IsFront, IsNoNext, Next, TakesMore, steps_of}
use Rattle.lambda_expr.specs.Sources.{Takes}
use Rattle.lambda_expr.specs.Stops.{StopsAt}
use Rattle.lambda_expr.proofs.EndLemmas.{goes_on, past_end, past_few, past_late, past_many, past_other, read_whole}
use Rattle.lambda_expr.proofs.EndLemmas.{steps_on}
use Rattle.lambda_expr.proofs.PartLemmas.{start}
use Rattle.lambda_expr.proofs.source.parse_parts.Goals.{in_default-via-in-Sign+in_default, in_default-via-in_default}
use Rattle.lambda_expr.proofs.source.parse_parts.Goals as goal

-- how many there are with one more
one_more : (new old : List (Vec ParseStep)) (v : Vec ParseStep) (n count : ℕ) → new ≡ old ++ v ∷ [] → length old ≡ n
    → count ≡ length new → count ≡ suc n
one_more new old v n count is same at =
    let all : length new ≡ length (old ++ v ∷ []) = ap length is in
    omega (arith, length-append old (v ∷ []))

one_after : (n count : ℕ) → count ≡ suc n → count ≡ n + 1
one_after n count h = omega arith

pub loop-at-init : goal.loop-at-init
loop-at-init c = (
  [],
  ap steps_of c.new-parts.ensures.items,
  ap length c.new-parts.ensures.items,
  start c.args.source c.args.words.now c.requires,
)

pub returns-in-Err-At-clause-stops : goal.returns-in-Err-At-clause-stops
returns-in-Err-At-clause-stops c =
    let ws = c.args.words.now in
    let at = c.loop-at.at in
    let past = c.loop-at.invariant.3 in
    let none = subst (IsNoNext (drop at ws)) c.in-Err-At.field-0-is
    (subst (λ v. IsNoNext v c.in-Err-At.field-0) c.after.ensures.lexemes c.in-Err-At.ensures.stops) in
    subst (λ k. StopsAt (Next c.args.source 0) ws (at + k)) (sym c.in-Err-At.place-is)
    (past.stops c.in-Err-At.place (none c.args.source (length c.loop-at.invariant.0) past.more))

pub returns-then-not-takes_more-clause-stops : goal.returns-then-not-takes_more-clause-stops
returns-then-not-takes_more-clause-stops c =
    let s = c.args.source in
    let ws = c.args.words.now in
    let at = c.loop-at.at in
    let inv = c.loop-at.invariant in
    let part = c.in-Ok.part in
    let f : IsFront (drop at ws) part.steps.items part.end =
    subst (λ v. IsFront v part.steps.items part.end) c.after.ensures.lexemes c.in-Ok.ensures.ok in
    let is : get_or ws (at + part.end) word.Other ≡ word.Sign sign.Comma = search rules in
    let size : c.len.result ≡ length c.push.new.self.items = search rules in
    let count = one_more c.push.new.self.items c.loop-at.parts.items part.steps (length inv.0) c.len.result
    c.in_ok-push.ensures.items inv.2 size in
    let never : TakesMore s c.len.result → ⊥ = search rules in
    past_many s ws at part.end inv.0 part.steps.items f inv.3 is (subst (λ n. TakesMore s n → ⊥) count never)

pub loop-at-preserved : goal.loop-at-preserved
loop-at-preserved c =
    let s = c.args.source in
    let ws = c.args.words.now in
    let at = c.loop-at.at in
    let inv = c.loop-at.invariant in
    let part = c.in-Ok.part in
    let f : IsFront (drop at ws) part.steps.items part.end =
    subst (λ v. IsFront v part.steps.items part.end) c.after.ensures.lexemes c.in-Ok.ensures.ok in
    let is : get_or ws (at + part.end) word.Other ≡ word.Sign sign.Comma = search rules in
    let size : c.len.result ≡ length c.push.new.self.items = search rules in
    let count = one_more c.push.new.self.items c.loop-at.parts.items part.steps (length inv.0) c.len.result
    c.in_ok-push.ensures.items inv.2 size in
    let more : TakesMore s c.len.result = search rules in
    let e = f.posted.0 in
    let same : length c.push.new.self.items ≡ length (inv.0 ++ e ∷ []) =
    sym size ∙ count ∙ (let k = length-append inv.0 (e ∷ []) in
    let j : suc (length inv.0) ≡ length (inv.0 ++ e ∷ []) = omega arith in j) in (
      inv.0 ++ e ∷ [],
      ap steps_of c.in_ok-push.ensures.items
          ∙ steps_on c.loop-at.parts.items part.steps inv.0 e inv.1 f.posted.2,
      same,
      goes_on s ws at part.end inv.0 part.steps.items f inv.3 is (subst (TakesMore s) count more),
    )

pub returns-then-not-takes-clause-stops : goal.returns-then-not-takes-clause-stops
returns-then-not-takes-clause-stops c =
    let s = c.args.source in
    let ws = c.args.words.now in
    let at = c.loop-at.at in
    let inv = c.loop-at.invariant in
    let part = c.in-Ok.part in
    let f : IsFront (drop at ws) part.steps.items part.end =
    subst (λ v. IsFront v part.steps.items part.end) c.after.ensures.lexemes c.in-Ok.ensures.ok in
    let is : get_or ws (at + part.end) word.Other ≡ word.Close = search rules in
    let size : c.len-in-Close.result ≡ length c.push.new.self.items = search rules in
    let count = one_after _ _ (one_more c.push.new.self.items c.loop-at.parts.items part.steps (length inv.0)
    c.len-in-Close.result c.in_ok-push.ensures.items inv.2 size) in
    let never : Takes s c.len-in-Close.result → ⊥ = search rules in
    past_few s ws at part.end inv.0 part.steps.items f inv.3 is (subst (λ n. Takes s n → ⊥) count never)

pub returns-then-end-count-clause-stops : goal.returns-then-end-count-clause-stops
returns-then-end-count-clause-stops c =
    let s = c.args.source in
    let ws = c.args.words.now in
    let at = c.loop-at.at in
    let inv = c.loop-at.invariant in
    let part = c.in-Ok.part in
    let f : IsFront (drop at ws) part.steps.items part.end =
    subst (λ v. IsFront v part.steps.items part.end) c.after.ensures.lexemes c.in-Ok.ensures.ok in
    let is : get_or ws (at + part.end) word.Other ≡ word.Close = search rules in
    let size : c.len-in-Close.result ≡ length c.push.new.self.items = search rules in
    let count = one_after _ _ (one_more c.push.new.self.items c.loop-at.parts.items part.steps (length inv.0)
    c.len-in-Close.result c.in_ok-push.ensures.items inv.2 size) in
    let all : Takes s c.len-in-Close.result = search rules in
    past_late s ws at part.end inv.0 part.steps.items f inv.3 is (subst (Takes s) count all)
    (subst (λ n. at + part.end + 1 < n) c.len-count.ensures c.if-end-count.true)

pub returns-in-Close-clause-ok : goal.returns-in-Close-clause-ok
returns-in-Close-clause-ok c =
    let s = c.args.source in
    let ws = c.args.words.now in
    let at = c.loop-at.at in
    let inv = c.loop-at.invariant in
    let part = c.in-Ok.part in
    let f : IsFront (drop at ws) part.steps.items part.end =
    subst (λ v. IsFront v part.steps.items part.end) c.after.ensures.lexemes c.in-Ok.ensures.ok in
    let is : get_or ws (at + part.end) word.Other ≡ word.Close = search rules in
    let size : c.len-in-Close.result ≡ length c.push.new.self.items = search rules in
    let count = one_after _ _ (one_more c.push.new.self.items c.loop-at.parts.items part.steps (length inv.0)
    c.len-in-Close.result c.in_ok-push.ensures.items inv.2 size) in
    let all : Takes s c.len-in-Close.result = search rules in
    let low : length ws ≤ at + part.end + 1 =
    subst (λ n. n ≤ at + part.end + 1) c.len-count.ensures c.if-end-count.false in
    let r = read_whole s ws at part.end inv.0 c.loop-at.parts.items part.steps f inv.3 inv.1 is
    (subst (Takes s) count all) low in
    subst (ArePosted s ws) (sym c.in_ok-push.ensures.items) r

pub returns-in_default-clause-stops : goal.returns-in_default-clause-stops
returns-in_default-clause-stops c =
    let s = c.args.source in
    let ws = c.args.words.now in
    let at = c.loop-at.at in
    let inv = c.loop-at.invariant in
    let part = c.in-Ok.part in
    let f : IsFront (drop at ws) part.steps.items part.end =
    subst (λ v. IsFront v part.steps.items part.end) c.after.ensures.lexemes c.in-Ok.ensures.ok in
    elim c.in_default.branch [
      | in_default-via-in-Sign+in_default w ↦
          let a : get_or ws (at + part.end) word.Other ≡ word.Sign sign.Comma → ⊥ = search rules in
          let b : get_or ws (at + part.end) word.Other ≡ word.Close → ⊥ = search rules in
          past_other s ws at part.end inv.0 part.steps.items f inv.3 a b
      | in_default-via-in_default w ↦
          let a : get_or ws (at + part.end) word.Other ≡ word.Sign sign.Comma → ⊥ = search rules in
          let b : get_or ws (at + part.end) word.Other ≡ word.Close → ⊥ = search rules in
          past_other s ws at part.end inv.0 part.steps.items f inv.3 a b
    ]

pub returns-clause-stops : goal.returns-clause-stops
returns-clause-stops c = let far = subst (λ n. n ≤ c.loop-at.at) c.len-count.ensures c.loop-at-test.false in
    subst (StopsAt (Next c.args.source 0) c.args.words.now) (sym c.len-count.ensures)
    (past_end c.args.source c.args.words.now c.loop-at.at c.loop-at.invariant.0 (omega arith) c.loop-at.invariant.3)
