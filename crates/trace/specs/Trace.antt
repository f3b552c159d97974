-- Meaning: a walk over items, and how one walk goes on with another.
use Rattle.std.specs.Prelude.{List, [], ◌∷◌, ◌++◌}
use Rattle.lambda_values.specs.declared.item.Item.{Item}
use Rattle.trace.specs.declared.item.End.{End}
use Rattle.trace.specs.declared.item.End.TheVariants as end

-- the items that a walk gives in turn, and how it ends: done, or with one fault
pub record Trace : Type 0 where
  pub items : List Item
  pub ending : End

abbrev pub trace : List Item → End → Trace
trace xs e = record { items = xs; ending = e }

-- a walk that gives no item and is done
abbrev pub nothing : Trace
nothing = trace [] end.Done

-- helper: these items, and then what comes after them; after a fault nothing comes
abbrev pub then_on : List Item → End → Trace → Trace
then_on xs end.Done b = trace (xs ++ b.items) b.ending
then_on xs (end.Fault f) b = trace xs (end.Fault f)

-- one walk, and then another (`LongStream.concat`); a fault of the first ends both
abbrev pub append : Trace → Trace → Trace
append a b = then_on a.items a.ending b

-- a walk that goes on with what each item gives, one after the other
abbrev pub each : (Item → Trace) → List Item → End → Trace
each f [] e = trace [] e
each f (x ∷ xs) e = append (f x) (each f xs e)
