-- Walks, values and environments of 64 bits.
use Rattle.std.specs.Prelude.{◌<◌, ◌^◌, ℤ, List, [], ◌∷◌, Result, Ok, Err}
use Rattle.lambda_values.specs.declared.env.NamedNumber.{NamedNumber}
use Rattle.lambda_values.specs.declared.fault.FaultKind.{FaultKind}
use Rattle.lambda_values.specs.declared.item.Item.{Item}
use Rattle.lambda_values.specs.Earlier.{Numbers}
use Rattle.trace.specs.declared.item.End.{End}
use Rattle.trace.specs.declared.item.End.TheVariants as end
use Rattle.trace.specs.Trace.{Trace}
use Rattle.job_meaning.specs.Longs.{AllFit, FaultFits, Fits, TableFits}

abbrev pub NumbersFit : List NamedNumber → Type 0
NumbersFit [] = Unit {0}
NumbersFit (n ∷ ns) = Fits n.number × NumbersFit ns

abbrev pub EnvFits : Numbers → Type 0
EnvFits env = NumbersFit env.earlier × TableFits env.table

abbrev pub ValueFits : Result ℤ FaultKind → Type 0
ValueFits (Ok z) = Fits z
ValueFits (Err k) = Unit {0}

abbrev pub ValuesFit : Result (List ℤ) FaultKind → Type 0
ValuesFit (Ok zs) = AllFit zs
ValuesFit (Err k) = Unit {0}

abbrev pub ItemFits : Item → Type 0
ItemFits x = Fits x.value × (x.origin < 2 ^ 64)

abbrev pub ItemsFit : List Item → Type 0
ItemsFit [] = Unit {0}
ItemsFit (x ∷ xs) = ItemFits x × ItemsFit xs

abbrev pub EndFits : End → Type 0
EndFits end.Done = Unit {0}
EndFits (end.Fault f) = FaultFits f

abbrev pub WalkFits : Trace → Type 0
WalkFits t = ItemsFit t.items × EndFits t.ending
