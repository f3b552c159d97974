use Rattle.std.proofs.Common.{◌≡◌, length, map, take, drop, sym, ap, ◌∙◌}
use Rattle.std.proofs.lemmas.List.{length-map, take_at}
use Rattle.lambda_values.specs.declared.item.Item.{Item}
use Rattle.reduce_ops.specs.Operators.{value_of}
use Rattle.prefix_scan.specs.Scans.{fold_at, scan_at}
use Rattle.prefix_scan.proofs.ScanLemmas.{length-scan_at}
use Rattle.prefix_walks.specs.Placing.{items_at}
use Rattle.prefix_walks.proofs.PlacingLemmas.{front_paired, length_front, scanned_at, values_at}
use Rattle.prefix_walks.proofs.piece_buffer.PieceBuffer.scan.Goals as goal

pub returns-clause-items : goal.returns-clause-items
returns-clause-items c =
    let b = c.self.inside in
    let f = value_of c.args.op in
    let ps = take b.count b.places in
    let vs = take b.count b.values in
    let xs = items_at b.start ps vs in
    let zs = c.scan_values.new.values in
    let scanned : map (λ (x : Item). x.value) (scan_at f c.args.range 0 c.args.start xs) ≡ zs =
    c.scan_values.ensures.values xs (values_at b.start ps vs
    (front_paired b.start b.places b.values b.count c.self.invariant)) in
    let size : length zs ≡ b.count = ap length (sym scanned)
    ∙ length-map (scan_at f c.args.range 0 c.args.start xs) (λ (x : Item). x.value)
    ∙ length-scan_at f c.args.range 0 c.args.start xs
    ∙ length_front b.start b.places b.values b.count c.self.invariant in
    ap (items_at b.start ps) (take_at zs (drop b.count b.values) b.count size ∙ sym scanned)
    ∙ scanned_at f c.args.range 0 c.args.start b.start ps vs
    ∙ ap (scan_at f c.args.range 0 c.args.start) c.self.view_is

pub returns-clause-fold : goal.returns-clause-fold
returns-clause-fold c =
    let b = c.self.inside in
    let ps = take b.count b.places in
    let vs = take b.count b.values in
    c.scan_values.ensures.fold (items_at b.start ps vs)
    (values_at b.start ps vs (front_paired b.start b.places b.values b.count c.self.invariant))
    ∙ ap (fold_at (value_of c.args.op) c.args.range 0 c.args.start) c.self.view_is
