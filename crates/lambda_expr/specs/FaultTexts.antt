-- Design: the text of each fault.
use Rattle.std.specs.Prelude.{ℕ, ◌++◌, List, codes, decimal}
use Rattle.lambda_expr.specs.declared.fault.ReadFault.{ReadFault}
use Rattle.lambda_expr.specs.declared.fault.ReadFault.TheVariants.{Syntax, WrongType, UnknownName, TooDeep}
use Rattle.lambda_expr.specs.declared.fault.ReadFault.TheVariants.{LiteralTooLarge, NoMemory}

-- the bytes of the message
abbrev pub read_fault_text : ReadFault → List ℕ
read_fault_text (Syntax column) = codes "expression syntax at column " ++ decimal column
read_fault_text WrongType = codes "wrong type"
read_fault_text UnknownName = codes "unknown name"
read_fault_text TooDeep = codes "too deep"
read_fault_text LiteralTooLarge = codes "literal too large"
read_fault_text NoMemory = codes "out of memory"
