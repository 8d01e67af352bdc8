-- What steps do with what was looked up.
use Rattle.std.proofs.Common.{◌≡◌, ℕ, ◌==◌, Bool, true, false, List, length, Option, Some, None, if◌then◌else◌, refl, sym, ap, ◌∙◌}
use Rattle.vg_meaning.specs.World.{World}
use Rattle.vg_meaning.specs.Answer.{Piece}
use Rattle.vg_source.specs.Operators.{Operand, Scalar, Computed, Format, binary, prefixed, recast}
use Rattle.vg_source.specs.Operators as operators
use Rattle.vg_core.specs.declared.heap.Cell.{Cell}
use Rattle.vg_core.specs.declared.heap.Cell.TheVariants.{Object, Array}
use Rattle.vg_core.specs.declared.operator.Operator.{Operator}
use Rattle.vg_core.specs.declared.types.CoreType.{CoreType}
use Rattle.vg_core.specs.declared.value.CoreValue.{CoreValue}
use Rattle.vg_core.specs.declared.program.Tables.{Tables}
use Rattle.vg_core.specs.Operators.{operator_of, operand_of}
use Rattle.vg_core.specs.State.{State, is_of}
use Rattle.vg_core.specs.Meaning.{checked, computed, in_array, of_type, operated, with_found}
use Rattle.vg_interp_values.specs.Made.{of_operands, of_scalar, recast_of}
use Rattle.vg_shape.specs.Cells.{array_length}

-- an array of the type by its length
pub in_array_of : (t size : ℕ) (o : Option Cell) (go : ℕ → Piece State ℕ) (s : State) (w : World ℕ) → Some size ≡ array_length t o
    → in_array t (λ vs. go (length vs)) o s w ≡ go size s w
in_array_of t size None go s w e = cc
in_array_of t size (Some (Object c vs)) go s w e = cc
in_array_of t size (Some (Array u vs)) go s w e = by_type (u == t) e
  where
    some_is : (a b : ℕ) → Some a ≡ Some b → a ≡ b
    some_is a b e = cc

    by_type : (b : Bool) → Some size ≡ (if b then Some (length vs) else None) → checked b (go (length vs)) s w ≡ go size s w
    by_type true e = ap (λ n. go n s w) (sym (some_is size (length vs) e))
    by_type false e = cc

-- an operator on what may be operands
pub operands : (op : Operator) (at : ℕ) (x y : Option Operand) (s : State) (w : World ℕ)
    → with_found x (λ a. with_found y (λ b. computed at (binary (operator_of op) a b))) s w ≡ computed at (of_operands op x y) s w
operands op at (Some x) (Some y) s w = refl
operands op at (Some x) None s w = refl
operands op at None (Some y) s w = refl
operands op at None None s w = refl

-- an operator on what may be a scalar
pub scalars : (op : operators.Prefix) (x : Option Scalar) (s : State) (w : World ℕ)
    → with_found x (λ a. computed 0 (prefixed op a)) s w ≡ computed 0 (of_scalar op x) s w
scalars op (Some x) s w = refl
scalars op None s w = refl

-- a cast of what may be a scalar
pub casts : (f : Format) (at : ℕ) (x : Option Scalar) (s : State) (w : World ℕ)
    → with_found x (λ a. computed at (recast f a)) s w ≡ computed at (recast_of f x) s w
casts f at (Some x) s w = refl
casts f at None s w = refl

-- an operator on two values of their types
pub operated_is : (p : Tables) (at : ℕ) (op : Operator) (t u : CoreType) (x y : CoreValue) (s : State) (w : World ℕ)
    → is_of p s.heap.cells u y ≡ true → is_of p s.heap.cells t x ≡ true
    → operated p at op t u x y s w ≡ computed at (of_operands op (operand_of x) (operand_of y)) s w
operated_is p at op t u x y s w right left =
    let inner : Piece State ℕ = with_found (operand_of x) (λ a. with_found (operand_of y) (λ b. computed at (binary (operator_of op) a b))) in
    ap (λ b. checked b (of_type p t x inner) s w) right ∙ ap (λ b. checked b inner s w) left ∙ operands op at (operand_of x) (operand_of y) s w

pub ruleset looked_up = (operands, scalars, casts)
