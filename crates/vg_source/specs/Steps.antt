-- What the meaning goes over: structured code over steps, in which each name was told what it stands for. What a step says of types
-- and static classes its meaning passes over; it is there for those that read the code.
use Rattle.std.specs.Prelude.{ℕ, List}
use Rattle.vg_meaning.specs.Code.{Code}
use Rattle.vg_source.specs.Names.{Name}
use Rattle.vg_source.specs.Types.{StaticType}
use Rattle.vg_source.specs.Values.{Value, FieldValue}
use Rattle.vg_source.specs.Operators.{Operator, Prefix}

-- One step. Its operands wait, and its value comes in their place; `at` is the node of the tree that a stop there keeps, `count` the
-- number of arguments.
pub data Step : Type 0 where
  Put : (v : Value) → Step
  Literal : (k : ℕ) → Step  -- the array of the k-th string literal of the text
  This : Step
  Local : (k : ℕ) → Step  -- a parameter or local, by its number in the body
  ComponentField : (c f : Name) → Step
  Register : (address : ℕ) → Step
  ComponentMethod : (c m : Name) → Step  -- named as a value
  Apply : (op : Prefix) → Step
  Operate : (at : ℕ) (op : Operator) → Step
  CastTo : (at : ℕ) (t : StaticType) → Step
  IsBelow : (c : Name) → Step
  Field : (at : ℕ) (c f : Name) → Step  -- the field f that class c declares
  Item : (at : ℕ) (t : StaticType) → Step  -- of an array of elements of type t
  Length : (at : ℕ) (t : StaticType) → Step  -- of such an array
  MethodOf : (at : ℕ) (c m : Name) → Step  -- named as a value, on the static class c
  CallMethod : (at : ℕ) (c m : Name) (count : ℕ) → Step  -- of the object below the arguments, on the static class c
  CallValue : (at count : ℕ) (params result : StaticType) → Step  -- of the delegate of this function type below the arguments
  CallComponent : (c m : Name) (count : ℕ) → Step
  NewObject : (at : ℕ) (c : Name) (count : ℕ) → Step
  NewArray : (at : ℕ) (t : StaticType) → Step
  SetLocal : (k : ℕ) → Step
  SetComponentField : (c f : Name) → Step
  SetRegister : (address : ℕ) → Step
  SetField : (at : ℕ) (c f : Name) → Step  -- of the object below the value: the field f that class c declares
  SetItem : (at : ℕ) (t : StaticType) → Step  -- of the array and the index below the value
  Forget : Step
  Super : (c : Name) (count : ℕ) → Step  -- the construction of the superclass, in that of a class

-- What can be called: a method, the construction of a class, or the initialisation of a component.
pub data Target : Type 0 where
  Method : (owner name : Name) → Target
  Construct : (class : Name) → Target
  Start : (component : Name) → Target

-- What runs at a target: the number of its parameters; the defaults of its other locals, whose numbers come behind those of the
-- parameters; the value of an end without return; and the body. A method has its number in the order of the text.
pub record Routine : Type 0 where
  pub target : Target
  pub number : ℕ
  pub params : ℕ
  pub others : List Value
  pub missing : Value
  pub body : Code Step

-- A class: itself and all above it, the nearest first, and the default of each declared and inherited field.
pub record Class : Type 0 where
  pub name : Name
  pub above : List Name
  pub fields : List FieldValue

-- A numbered entry of the program declaration.
pub record Handler : Type 0 where
  pub vector : ℕ
  pub target : Target

-- A whole program.
pub record Source : Type 0 where
  pub classes : List Class
  pub routines : List Routine
  pub components : List Name  -- in order of the text
  pub globals : List FieldValue  -- the component fields with their defaults
  pub literals : List (List ℕ)  -- the bytes of the string literals, in order of the text
  pub main : Target
  pub handlers : List Handler
