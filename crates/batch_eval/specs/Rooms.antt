-- Condition: expressions that room of some length is enough for; a register takes 1,024 of it.
use Rattle.std.specs.Prelude.{ℕ, ◌-◌, ◌≤◌, List, [], ◌∷◌}
use Rattle.lambda_values.specs.declared.expr.LongExpr.{LongExpr, size-LongExpr}
use Rattle.lambda_values.specs.Term.{Long, number, parameter, reference, cell, row, unary, binary, choose, long_of}
use Rattle.lambda_values.specs.Term.{Truth, literal, compare, opposite, connect, choose_truth, truth_of}
use Rattle.trace.specs.Stages.{AbstractStage, map, filter, flat_map}
use Rattle.batch_eval.specs.declared.register.Operand.{Operand}
use Rattle.batch_eval.specs.declared.register.Operand.TheVariants as operand

-- a compound right operand takes a register while it is evaluated, a choice four: for the flags, for the items of one
-- kind, and for what each kind gives
abbrev mutual
  pub Fits : Long → ℕ → Type 0
  Fits (number z) room = Unit {0}
  Fits (parameter n) room = Unit {0}
  Fits (reference name) room = Unit {0}
  Fits (cell name) room = Unit {0}
  Fits row room = Unit {0}
  Fits (unary o a) room = Fits a room
  Fits (binary o a b) room = Fits a room × (1024 ≤ room) × Fits b (room - 1024)
  Fits (choose c a b) room = (4096 ≤ room) × FitsTest c (room - 1024) × Fits a (room - 4096) × Fits b (room - 4096)

  pub FitsTest : Truth → ℕ → Type 0
  FitsTest (literal b) room = Unit {0}
  FitsTest (compare o a b) room = Fits a room × (1024 ≤ room) × Fits b (room - 1024)
  FitsTest (opposite a) room = FitsTest a room
  FitsTest (connect o a b) room = (4096 ≤ room) × FitsTest a (room - 1024) × FitsTest b (room - 4096)
  FitsTest (choose_truth c a b) room = (4096 ≤ room) × FitsTest c (room - 1024) × FitsTest a (room - 4096)
      × FitsTest b (room - 4096)

-- there is room for two operands, the second one evaluated while the first is kept
abbrev pub FitsBoth : Long → Long → ℕ → Type 0
FitsBoth a b room = Fits a room × (1024 ≤ room) × Fits b (room - 1024)

abbrev pub FitsOperand : Operand → ℕ → Type 0
FitsOperand (operand.Long e) room = Fits (long_of e.now) room
FitsOperand (operand.Bool p) room = FitsTest (truth_of p.now) room
FitsOperand (operand.Flag b) room = Unit {0}

abbrev pub FitsChosen : Truth → Operand → Operand → ℕ → Type 0
FitsChosen c a b room = (4096 ≤ room) × FitsTest c (room - 1024) × FitsOperand a (room - 4096)
    × FitsOperand b (room - 4096)

-- what is left for two operands after the flags that choose between them
abbrev pub FitsParted : Operand → Operand → ℕ → Type 0
FitsParted a b room = (3072 ≤ room) × FitsOperand a (room - 3072) × FitsOperand b (room - 3072)

abbrev pub FitsStage : AbstractStage → ℕ → Type 0
FitsStage (map e) room = Fits e room
FitsStage (filter p) room = FitsTest p room
FitsStage (flat_map i) room = Unit {0}

abbrev pub FitsEach : List AbstractStage → ℕ → Type 0
FitsEach [] room = Unit {0}
FitsEach (g ∷ gs) room = FitsStage g room × FitsEach gs room

-- a register of flags, and then each stage
abbrev pub FitsStages : List AbstractStage → ℕ → Type 0
FitsStages gs room = (1024 ≤ room) × FitsEach gs (room - 1024)

-- how large an expression is; its parts are smaller
abbrev pub size : LongExpr → ℕ
size e = size-LongExpr e
