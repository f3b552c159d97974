-- Meaning: the operators of `prefix` and `reduce`, by how they are written.
use Rattle.std.specs.Prelude.{ℕ, Bool, true, false, ◌&&◌, if◌then◌else◌, List, [], ◌∷◌, codes, Option, Some, None}
use Rattle.std.specs.Prelude.{option_map}
use Rattle.std.specs.Option.{option_map_or, option_or}
use Rattle.stream_tokens.specs.declared.symbol.Symbol.TheVariants as symbol
use Rattle.lambda_expr.specs.Members.{is_named}
use Rattle.lambda_expr.specs.Words.{Word, named, sign}
use Rattle.reduce_ops.specs.declared.op.Op.{Op}
use Rattle.reduce_ops.specs.declared.op.Op.TheVariants as op
use Rattle.job_language.specs.Table.{name_in}

-- the name of an operator
abbrev pub op_name : Op → List ℕ
op_name op.Sum = codes "sum"
op_name op.Product = codes "product"
op_name op.Min = codes "min"
op_name op.Max = codes "max"
op_name op.And = codes "and"
op_name op.Or = codes "or"
op_name op.Xor = codes "xor"
op_name op.Affine = codes "affine"
op_name op.First = codes "first"
op_name op.Last = codes "last"

-- all operators
abbrev pub ops : List Op
ops = op.Sum ∷ op.Product ∷ op.Min ∷ op.Max ∷ op.And ∷ op.Or ∷ op.Xor ∷ op.Affine ∷ op.First ∷ op.Last ∷ []

-- the first of these operators with this name
abbrev pub op_among : List Op → List ℕ → Option Op
op_among [] w = None
op_among (f ∷ fs) w = if is_named w (op_name f) then Some f else op_among fs w

-- the operator with this name
abbrev pub op_named : List ℕ → Option Op
op_named w = op_among ops w

-- of the operators, those that `Math` has as methods, and those that `Long` has
abbrev pub in_math : Op → Bool
in_math op.Min = true
in_math op.Max = true
in_math f = false

abbrev pub in_long : Op → Bool
in_long op.Sum = true
in_long op.Min = true
in_long op.Max = true
in_long f = false

abbrev pub only_if : (Op → Bool) → Option Op → Option Op
only_if p None = None
only_if p (Some f) = if p f then Some f else None

-- the operator that is the method `OWNER::NAME`
abbrev pub op_method : List ℕ → List ℕ → Option Op
op_method owner name =
    if is_named owner (codes "Long") then only_if in_long (op_named name)
    else (if is_named owner (codes "Math") then only_if in_math (op_named name)
    else None)

-- the owner and the name of a method `OWNER::NAME`
abbrev pub method_in : List Word → Option (List ℕ × List ℕ)
method_in (named o ∷ sign symbol.DoubleColon ∷ named w ∷ []) = Some (o, w)
method_in ws = None

-- the operator that words name, if they are a name or a method
abbrev pub spelled_op : List Word → Option (Option Op)
spelled_op ws = option_or (option_map op_named (name_in ws)) (option_map (λ m. op_method m.0 m.1) (method_in ws))

-- whether words are `Math::addExact`
abbrev pub is_add_exact : List Word → Bool
is_add_exact ws =
    option_map_or (λ m. is_named m.0 (codes "Math") && is_named m.1 (codes "addExact")) (method_in ws) false
