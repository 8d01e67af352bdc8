-- Which types are written rightly.
use Rattle.std.specs.Prelude.{ℕ, zero, suc, ◌&&◌, not, nat_le, Bool, true, List, [], ◌∷◌, is_some}
use Rattle.vg_syntax.specs.Tree.{TypeTree, RawType, ClassType, ArrayType, FunctionType, MoreTypes, Param, Node}
use Rattle.vg_syntax.specs.Lexemes.{is_hexadecimal}
use Rattle.vg_source.specs.Literals.{number_of}
use Rattle.vg_syntax.specs.Classes.{class_named}

-- The levels of an array type.
abbrev pub levels : TypeTree → ℕ
levels (ArrayType element) = suc (levels element)
levels _ = zero

-- Rule 8: in a type each name is a class, the width of a raw type is a decimal number from 1 to 32, and an array has at most four levels.
abbrev pub type_keeps : Node → TypeTree → Bool
type_keeps ds (RawType width) = not (is_hexadecimal width) && nat_le 1 (number_of width) && nat_le (number_of width) 32
type_keeps ds (ClassType name) = is_some (class_named ds name)
type_keeps ds (ArrayType element) = nat_le (levels (ArrayType element)) 4 && type_keeps ds element
type_keeps ds (FunctionType params result) = type_keeps ds params && type_keeps ds result
type_keeps ds (MoreTypes first rest) = type_keeps ds first && type_keeps ds rest
type_keeps ds _ = true

-- Rule 8 for the types of parameters.
abbrev pub param_types_keep : Node → List Param → Bool
param_types_keep ds [] = true
param_types_keep ds (p ∷ ps) = type_keeps ds p.type && param_types_keep ds ps
