use Rattle.std.proofs.Common.{◌<◌, ◌+◌, ◌-◌, ◌++◌, ◌∷◌, [], arith, drop, length, rules, take}
use Rattle.columns.proofs.TextLemmas.{doubled_in, over_in, quoted_none}
use Rattle.columns.proofs.text_cell.quotes_end.Goals as goal

pub loop-from-init : goal.loop-from-init
loop-from-init c = (omega arith, c.requires, ([], λ s. quoted_none s (drop c.args.at c.args.text.now)))

pub loop-from-preserved : goal.loop-from-preserved
loop-from-preserved c =
    let text = c.args.text.now in
    let quote = c.in_ok-quote.quote in
    let found = c.in_ok-quote.ensures in
    let (low, within, (inside, goes)) = c.loop-from.invariant in
    let room : quote + 1 < length text = omega (arith, c.if-quote-text.true) in (
      omega (arith, low, found.within.0),
      omega (arith, room),
      (
        inside ++ (take (quote - c.loop-from.from) (drop c.loop-from.from text) ++ 34 ∷ []),
        λ s. doubled_in s text inside c.args.at c.loop-from.from quote found.within.0 room found.none found.quote
            (search rules) (goes s),
      ),
    )

pub returns-else-quote-text-clause-goes : goal.returns-else-quote-text-clause-goes
returns-else-quote-text-clause-goes c =
    let text = c.args.text.now in
    let quote = c.in_ok-quote.quote in
    let found = c.in_ok-quote.ensures in
    let (low, within, (inside, goes)) = c.loop-from.invariant in (
      inside ++ take (quote - c.loop-from.from) (drop c.loop-from.from text),
      λ s. over_in s text inside c.args.at c.loop-from.from quote found.within.0 found.within.1 found.none found.quote
          (goes s),
    )
