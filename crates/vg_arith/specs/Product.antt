-- The routine of the product.
use Rattle.std.specs.Prelude.{ℕ, suc, ◌*◌, List, [], ◌∷◌, ◌++◌, None}
use Rattle.vg_lin.specs.declared.instr.Operand.TheVariants.{Local, Known}
use Rattle.vg_lin.specs.declared.instr.Operator.TheVariants.{Plus, ShiftLeft, ShiftRight}
use Rattle.vg_lin.specs.declared.instr.Plain.TheVariants.{Copy, Compute, Product}
use Rattle.vg_lin.specs.declared.instr.Instr.{Instr}
use Rattle.vg_lin.specs.declared.instr.Instr.TheVariants.{Plain, Return}
use Rattle.vg_lin.specs.Program.{Procedure}

-- The locals are the two factors, the product of two bytes, the sum of the high columns, and two bytes of the factors. A column is a place
-- where products of bytes stand. The columns are added from the highest one down; the sum of all of them takes the place of the second
-- factor, once no more of that is wanted than its lowest byte.

-- The byte of a local at a place goes to another one. The bytes above it are not looked at.
abbrev pub byte_of : (to from place : ℕ) → Instr
byte_of to from place = Plain (Compute (record { operator = ShiftRight; width = suc place; to = to; left = Local from; right = Known (8 * place) }))

-- The product of the lowest bytes of two locals.
abbrev pub product_of : (to left right : ℕ) → Instr
product_of to i j = Plain (Product to (Local i) (Local j))

-- It is added to a sum of so many bytes.
abbrev pub added : (width to : ℕ) → Instr
added width to = Plain (Compute (record { operator = Plus; width = width; to = to; left = Local to; right = Local 2 }))

-- A sum stands one byte higher for the next column.
abbrev pub raised : (width to from : ℕ) → Instr
raised width to from = Plain (Compute (record { operator = ShiftLeft; width = width; to = to; left = Local from; right = Known 8 }))

-- The column of the highest byte, whose sum has one byte that counts: the products with a lowest byte, and the others.
abbrev pub of_outer : List Instr
of_outer = byte_of 4 0 3 ∷ product_of 3 4 1 ∷ byte_of 5 1 3 ∷ product_of 2 0 5 ∷ added 2 3 ∷ []

abbrev pub of_inner : List Instr
of_inner =
    byte_of 4 0 1 ∷ byte_of 5 1 2 ∷ product_of 2 4 5 ∷ added 2 3
    ∷ byte_of 4 0 2 ∷ byte_of 5 1 1 ∷ product_of 2 4 5 ∷ added 2 3 ∷ []

-- The column below it, whose sum has two.
abbrev pub of_next : List Instr
of_next =
    raised 2 3 3 ∷ product_of 2 4 1 ∷ added 2 3 ∷ byte_of 4 1 2 ∷ product_of 2 0 4 ∷ added 2 3
    ∷ byte_of 4 0 1 ∷ product_of 2 4 5 ∷ added 2 3 ∷ []

-- The two lowest columns.
abbrev pub of_lowest : List Instr
of_lowest =
    product_of 2 0 5 ∷ Plain (Copy 5 (Local 1)) ∷ raised 4 1 3 ∷ added 4 1 ∷ product_of 2 4 5 ∷ added 4 1
    ∷ raised 4 1 1 ∷ product_of 2 0 5 ∷ added 4 1 ∷ []

-- The products of bytes whose place is below four bytes are added up: those above are cut.
abbrev pub mul : Procedure
mul =
    record {
      method = None;
      params = 2;
      result = 4;
      widths = 4 ∷ 4 ∷ 2 ∷ 2 ∷ 1 ∷ 1 ∷ [];
      code = of_outer ++ (of_inner ++ (of_next ++ (of_lowest ++ (Return 4 (Local 1) ∷ []))));
    }
