use Rattle.std.proofs.Common.{◌≡◌, length, None, sym, ap, ◌∙◌}
use Rattle.trace.specs.Trace.{Trace}
use Rattle.reduce_ops.specs.Operators.{value_of}
use Rattle.prefix_scan.proofs.ScanLemmas.{length-scan_at}
use Rattle.prefix_walks.specs.Scans.{all_items}
use Rattle.prefix_walks.proofs.ScanLemmas.{all_scanned, past_end}
use Rattle.prefix_walks.proofs.prefix_part.scanned.Goals as goal

pub returns-then-ends_after : goal.returns-then-ends_after
returns-then-ends_after c =
    let xs = all_items c.args.pieces.items in
    let prefix = c.args.prefix in
    let size : c.size.result ≡ length xs =
    c.size.ensures ∙ ap (λ (t : Trace). length t.items) c.in_ok-walk.ensures
    ∙ length-scan_at (value_of prefix.op) prefix.range 0 None xs in
    c.ended.ensures ∙ past_end prefix.op prefix.range c.args.stage c.size.result xs size
    (sym c.ends_after.ensures ∙ c.if-ends_after.true)

pub returns : goal.returns
returns c =
    let xs = all_items c.args.pieces.items in
    let prefix = c.args.prefix in
    let size : c.size.result ≡ length xs =
    c.size.ensures ∙ ap (λ (t : Trace). length t.items) c.in_ok-walk.ensures
    ∙ length-scan_at (value_of prefix.op) prefix.range 0 None xs in
    c.scanned.ensures ∙ c.in_ok-walk.ensures
    ∙ all_scanned prefix.op prefix.range c.args.stage c.size.result xs size
    (sym c.ends_after.ensures ∙ c.if-ends_after.false)
