use Rattle.std.proofs.Common.{◌≡◌, ◌<◌, ◌∙◌, Err, ap, arith, drop, inr, length, map, refl, rules}
use Rattle.std.proofs.lemmas.List.{length-map, take_rest}
use Rattle.columns.specs.Fronts.{ArePutUnder, left_in}
use Rattle.columns.specs.Layouts.{AreReadBy}
use Rattle.tables.specs.TableOfColumns.{named}
use Rattle.columns.specs.declared.fault.ColumnFault.TheVariants as fault
use Rattle.columns.proofs.FrontLemmas.{IsPutBy-failed, IsPutBy-last}
use Rattle.columns.proofs.rounds.put_last.Goals as goal

pub returns-in_err-end-clause-put : goal.returns-in_err-end-clause-put
returns-in_err-end-clause-put g c left =
    let answer : c.from_residual.result ≡ Err fault.NoMemory = search rules in
    rw answer (IsPutBy-failed c.args.layout.now left (left_in c.args.rounds.now) (map named c.args.columns.now)
    (map named c.read_in_turns.new.columns) fault.NoMemory (inr refl))

pub returns-clause-put : goal.returns-clause-put
returns-clause-put g c left =
    let l = c.args.layout.now in
    let bytes = left_in c.args.rounds.now in
    let end = c.in_ok-end.end in
    let before = map named c.args.columns.now in
    let now = map named c.read_in_turns.new.columns in
    let width : length c.read_in_turns.new.columns ≡ length c.args.columns.now = search rules in
    let some : 0 < length now = omega (
      arith,
      length-map c.read_in_turns.new.columns named,
      width,
      c.requires.fits.some_column,
    ) in
    let from = c.args.rounds.now.from in
    let text = take_rest c.deref.result.now from ∙ ap (drop from) c.deref.ensures.value in
    let read : AreReadBy l bytes (drop end bytes) before now = rw text at c.in_ok-end.ensures.read in
    let put : ArePutUnder l (drop end bytes) now c.put_rest.result (map named c.put_rest.new.columns) =
    rw (text, take_rest bytes end) at c.put_rest.ensures.put in
    IsPutBy-last l left bytes (drop end bytes) before now (map named c.put_rest.new.columns) c.put_rest.result some read
    put
