use Rattle.std.proofs.Common.{◌≡◌, ◌+◌, ◌++◌, ℕ, length, sym, ap, ◌∙◌, arith}
use Rattle.reduce_ops.specs.Operators.{value_of}
use Rattle.prefix_scan.specs.Prefixes.{is_within}
use Rattle.prefix_scan.specs.Scans.{scan_at}
use Rattle.prefix_scan.proofs.ScanLemmas.{length-scan_at, scan_as, scan_more}
use Rattle.prefix_scan.proofs.descent.PassDownRewrite.rewrite.Goals as goal

pub returns-clause-next : goal.returns-clause-next
returns-clause-next c = λ rest.
    let f = value_of c.args.self.now.op in
    let r = c.args.self.now.range in
    let after = c.positions_after-self.result in
    let start = c.args.self.now.before in
    let items = c.args.items.now in
    let made = sym c.scan_items-self.ensures.items in
    let folded = sym c.scan_items-self.ensures.fold in
    let len : length c.scan_items-self.new.items ≡ length items =
    ap length c.scan_items-self.ensures.items ∙ length-scan_at f r 0 start items in
    let same : (j : ℕ) → is_within r (0 + length items + j) ≡ is_within after (0 + j) = λ j.
    let e : 0 + length items + j ≡ length c.scan_items-self.new.items + j = omega (arith, len) in
    let d : 0 + j ≡ j = omega arith in
    ap (is_within r) e ∙ sym (c.positions_after-self.ensures j) ∙ ap (is_within after) (sym d) in
    scan_more f r 0 start items rest
    ∙ (λ i. made i ++ scan_at f r (0 + length items) (folded i) rest)
    ∙ ap (λ later. c.scan_items-self.new.items ++ later)
    (scan_as f r (0 + length items) after 0 c.scan_items-self.result rest (λ j k. same j))
