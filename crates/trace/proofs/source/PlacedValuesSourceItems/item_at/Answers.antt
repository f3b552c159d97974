use Rattle.std.proofs.Common.{◌<◌, length, rules, pos, FitsSigned, w64, to_z, of_z, slice_index_or, sym, arith}
use Rattle.std.proofs.lemmas.Int.{to_z-of_z}
use Rattle.trace.proofs.Sources.{length-placed}
use Rattle.trace.proofs.Ranges.{placed_get}
use Rattle.trace.proofs.source.PlacedValuesSourceItems.item_at.Goals as goal

pub overflow_add-result : goal.overflow_add-result
overflow_add-result c =
    let within : c.args.position < length c.args.self.now.values.now =
    rw (length-placed c.args.self.now.origin c.args.self.now.values.now) at c.requires in
    omega (arith, within, c.args.self.now.few)

pub bounds-self-position : goal.bounds-self-position
bounds-self-position c = rw (length-placed c.args.self.now.origin c.args.self.now.values.now) at c.requires

pub offset_bounds-self-position : goal.offset_bounds-self-position
offset_bounds-self-position c =
    let within : c.args.position < length c.args.self.now.values.now =
    rw (length-placed c.args.self.now.origin c.args.self.now.values.now) at c.requires in
    search (rules, within)

pub returns : goal.returns
returns c =
    let o = c.args.self.now.origin in
    let vs = c.args.self.now.values.now in
    let v = slice_index_or vs c.args.position (pos 0) in
    let within : c.args.position < length vs = rw (length-placed o vs) at c.requires in
    let fits : FitsSigned w64 v = search rules in
    placed_get o vs c.args.position (pos 0) (to_z w64 (of_z w64 v)) within (sym (to_z-of_z w64 v fits))
