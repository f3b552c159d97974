use Rattle.std.proofs.Common.{◌≡◌, ◌<◌, ◌∙◌, ◌++◌, ◌∷◌, [], FitsSigned, Some, ap, arith, get_or, length, map, refl}
use Rattle.std.proofs.Common.{rules, sym, w64}
use Rattle.std.proofs.lemmas.Int.{to_z-of_z}
use Rattle.std.proofs.lemmas.List.{length-take, take_more}
use Rattle.columns.specs.Decimals.{scaled}
use Rattle.columns.specs.Number.{number_of}
use Rattle.columns.specs.TableForms.{filled}
use Rattle.columns.specs.TextRows.{cut_to}
use Rattle.columns.proofs.KeptLemmas.{IsCellPut-more}
use Rattle.columns.proofs.TextRowLemmas.{IsBegun-more, set_same}
use Rattle.columns.proofs.put_cell.put_cell.Goals as goal

pub returns-in_err-push-clause-begun : goal.returns-in_err-push-clause-begun
returns-in_err-push-clause-begun c n first have begun =
    let place = c.loop-place.place in
    let column = c.index-columns-place.result in
    let within : place < length c.loop-place.columns =
    omega (arith, c.loop-place-test.true, c.requires, c.loop-place.auto.columns) in
    let cells : c.push.new.self.items ≡ column.cells.items =
    c.in_err-push.ensures.items ∙ ap (λ k. k.cells.items) (sym c.index-columns-place.is) in
    ap (map (cut_to n)) (set_same c.loop-place.columns place column _ within c.index-columns-place.is
    (rw (sym c.index-columns-place.is, cells) refl))
    ∙ c.loop-place.invariant.begun n first have begun

pub loop-place-preserved : goal.loop-place-preserved
loop-place-preserved c =
    let places = c.args.places.now in
    let place = c.loop-place.place in
    let column = c.index-columns-place.result in
    let n = c.in-Some.number in
    let room : place < length places = c.loop-place-test.true in
    let within : place < length c.loop-place.columns = omega (arith, room, c.requires, c.loop-place.auto.columns) in
    let fits : FitsSigned w64 n = search rules in
    let cells : c.push.new.self.items ≡ column.cells.items ++ n ∷ [] =
    rw (to_z-of_z w64 n fits) at c.in_ok-push.ensures.items
    ∙ ap (λ k. k.cells.items ++ n ∷ []) (sym c.index-columns-place.is) in
    let number : number_of (scaled (get_or places place 0) (filled c.args.blank c.args.cell.now)) ≡ Some n =
    sym c.in-Some.ensures in
    record {
      put = rw (take_more places place 0 room)
          (IsCellPut-more _ (get_or places place 0) _ _ c.loop-place.columns place column _ n c.loop-place.invariant.put
          (sym (omega (arith, length-take place places, room))) within number c.index-columns-place.is
          (rw (sym c.index-columns-place.is, cells) refl));
      begun = λ m first have begun. IsBegun-more m first c.loop-place.columns place column _ n have
          (c.loop-place.invariant.begun m first have begun) within
          c.index-columns-place.is (rw (sym c.index-columns-place.is, cells) refl);
    }
