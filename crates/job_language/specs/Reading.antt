-- Condition: the reader of a job as a function from piece to piece.
use Rattle.std.specs.Prelude.{Bool, true, false, List, [], ◌∷◌, ◌++◌, Option, Some, None}
use Rattle.job_language.specs.declared.operation.Role.{Role}
use Rattle.job_language.specs.declared.operation.Role.TheVariants as role
use Rattle.job_language.specs.declared.piece.Mark.{Mark}
use Rattle.job_language.specs.declared.piece.Mark.TheVariants as mark
use Rattle.job_language.specs.declared.mode.Mode.{Mode}
use Rattle.job_language.specs.declared.mode.Mode.TheVariants as mode
use Rattle.job_language.specs.Table.{role_of}
use Rattle.job_language.specs.Calls.{Call, IsCall}
use Rattle.job_language.specs.Grammar.{Source, Sources, plain, concat, two, more, Piece, call, begin_concat, owner}
use Rattle.job_language.specs.Grammar.{comma, close, dot, semicolon}

-- a `concat` that is open, with the sources before its last comma
pub data Frame : Type 0 where
  opened : Bool → Frame
  first : Bool → Source → Frame
  several : Bool → Sources → Frame

-- a source is wanted, or `LongStream` or `LongStream.` is there, or a source stands there; after the source, an
-- operation is wanted, or a stage stands there, or the terminal; after the terminal, a fallback is wanted, or stands
-- there; or all stands there; or the pieces begin no job
pub data State : Type 0 where
  wants : List Frame → State
  owns : List Frame → State
  bare : List Frame → State
  has : List Frame → Source → State
  asks : Source → List Call → State
  staged : Source → List Call → State
  ended : Source → List Call → Call → State
  falls : Source → List Call → Call → State
  replaced : Source → List Call → Call → Call → State
  finished : Source → List Call → Call → Option Call → State
  stuck : State

abbrev pub leaf : Bool → List Frame → Call → Role → State
leaf q fs c role.Source = has fs (plain q c)
leaf q fs c r = stuck

abbrev pub stepped : Source → List Call → Call → Role → State
stepped s gs c role.Stage = staged s (gs ++ c ∷ [])
stepped s gs c role.Terminal = ended s gs c
stepped s gs c r = stuck

abbrev pub fallen : Source → List Call → Call → Call → Role → State
fallen s gs c f role.Fallback = replaced s gs c f
fallen s gs c f r = stuck

abbrev pub read : State → Piece → State
read (wants fs) owner = owns fs
read (wants fs) (call c) = leaf false fs c (role_of c.operation)
read (wants fs) begin_concat = wants (opened false ∷ fs)
read (owns fs) dot = bare fs
read (bare fs) (call c) = leaf true fs c (role_of c.operation)
read (bare fs) begin_concat = wants (opened true ∷ fs)
read (has (opened q ∷ fs) s) comma = wants (first q s ∷ fs)
read (has (first q a ∷ fs) s) comma = wants (several q (two a s) ∷ fs)
read (has (several q ss ∷ fs) s) comma = wants (several q (more ss s) ∷ fs)
read (has (first q a ∷ fs) s) close = has fs (concat q (two a s))
read (has (several q ss ∷ fs) s) close = has fs (concat q (more ss s))
read (has [] s) dot = asks s []
read (asks s gs) (call c) = stepped s gs c (role_of c.operation)
read (staged s gs) dot = asks s gs
read (ended s gs c) dot = falls s gs c
read (ended s gs c) semicolon = finished s gs c None
read (falls s gs c) (call f) = fallen s gs c f (role_of f.operation)
read (replaced s gs c f) semicolon = finished s gs c (Some f)
read s p = stuck

abbrev pub reads : State → List Piece → State
reads s [] = s
reads s (p ∷ ps) = reads (read s p) ps

abbrev pub begins : State
begins = wants []

-- what a piece is to the reader
abbrev pub mark_of : Piece → Mark
mark_of (call c) = mark.Call (role_of c.operation)
mark_of begin_concat = mark.Call role.Concatenation
mark_of owner = mark.Owner
mark_of comma = mark.Comma
mark_of close = mark.Close
mark_of dot = mark.Dot
mark_of semicolon = mark.Semicolon

-- the mode, and for each open `concat`, the last first, whether it has a comma
abbrev pub has_comma : Frame → Bool
has_comma (opened q) = false
has_comma (first q s) = true
has_comma (several q ss) = true

abbrev pub commas : List Frame → List Bool
commas [] = []
commas (f ∷ fs) = has_comma f ∷ commas fs

abbrev pub Place : Type 0
Place = Option (Mode × List Bool)

abbrev pub coded : State → Place
coded (wants fs) = Some (mode.Source, commas fs)
coded (owns fs) = Some (mode.Owner, commas fs)
coded (bare fs) = Some (mode.Bare, commas fs)
coded (has fs s) = Some (mode.AfterSource, commas fs)
coded (asks s gs) = Some (mode.Step, [])
coded (staged s gs) = Some (mode.AfterStage, [])
coded (ended s gs c) = Some (mode.AfterTerminal, [])
coded (falls s gs c) = Some (mode.Fallback, [])
coded (replaced s gs c f) = Some (mode.AfterFallback, [])
coded (finished s gs c o) = Some (mode.End, [])
coded stuck = None

abbrev pub at_source : List Bool → Mark → Place
at_source bs (mark.Call role.Source) = Some (mode.AfterSource, bs)
at_source bs (mark.Call role.Concatenation) = Some (mode.Source, false ∷ bs)
at_source bs m = None

abbrev pub after_source : List Bool → Mark → Place
after_source (b ∷ bs) mark.Comma = Some (mode.Source, true ∷ bs)
after_source (true ∷ bs) mark.Close = Some (mode.AfterSource, bs)
after_source [] mark.Dot = Some (mode.Step, [])
after_source bs m = None

abbrev pub moved : Mode → List Bool → Mark → Place
moved mode.Source bs mark.Owner = Some (mode.Owner, bs)
moved mode.Source bs m = at_source bs m
moved mode.Owner bs mark.Dot = Some (mode.Bare, bs)
moved mode.Bare bs m = at_source bs m
moved mode.AfterSource bs m = after_source bs m
moved mode.Step bs (mark.Call role.Stage) = Some (mode.AfterStage, bs)
moved mode.Step bs (mark.Call role.Terminal) = Some (mode.AfterTerminal, bs)
moved mode.AfterStage bs mark.Dot = Some (mode.Step, bs)
moved mode.AfterTerminal bs mark.Dot = Some (mode.Fallback, bs)
moved mode.AfterTerminal bs mark.Semicolon = Some (mode.End, bs)
moved mode.Fallback bs (mark.Call role.Fallback) = Some (mode.AfterFallback, bs)
moved mode.AfterFallback bs mark.Semicolon = Some (mode.End, bs)
moved k bs m = None

abbrev pub moves : Place → Mark → Place
moves None m = None
moves (Some k) m = moved k.0 k.1 m

-- each call is as the row of its operation says
abbrev pub IsPiece : Piece → Type 0
IsPiece (call c) = IsCall c
IsPiece p = Unit {0}

abbrev pub ArePieces : List Piece → Type 0
ArePieces [] = Unit {0}
ArePieces (p ∷ ps) = IsPiece p × ArePieces ps
