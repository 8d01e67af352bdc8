-- What no legal program does is Wrong: steps on values that they are not for, and beside them the nearest ones that are right.
use Rattle.std.specs.Prelude.{◌≡◌, refl, ℕ, Bool, true, false, not, ◌&&◌, List, [], ◌∷◌, codes, Some, None, pos}
use Rattle.vg_meaning.specs.History.{History, no_history, full}
use Rattle.vg_meaning.specs.Answer.{Wrong, Over, Answer, Gives, Ends}
use Rattle.vg_meaning.specs.Code.{Nothing}
use Rattle.vg_source.specs.Names.{Name}
use Rattle.vg_source.specs.Types.{IntType, BoolType, CharType, RawType, ClassType, ArrayType, FunctionType, NoType, MoreTypes}
use Rattle.vg_source.specs.Operators.{Plus, Less, Equal, Unequal, And, ShiftLeft, Concat, Negative, Not, Complement}
use Rattle.vg_source.specs.Values.{Value, Int, Truth, Char, Raw, Null, Obj, Arr, Bound, FieldValue, Object, Array}
use Rattle.vg_source.specs.Steps.{Step, Literal, Local, ComponentField, Apply, Operate, CastTo, IsBelow, Field, Item, Length, CallMethod, CallValue}
use Rattle.vg_source.specs.Steps.{CallComponent, NewObject, SetLocal, SetComponentField, SetRegister, SetField, SetItem, Super}
use Rattle.vg_source.specs.Steps.{Target, Method, Construct, Routine, Source}
use Rattle.vg_source.specs.State.{State}
use Rattle.vg_source.specs.Meaning.{step}
use Rattle.vg_source.specs.Session.{called, running_world, starting_world}

-- ---- a program and a state

abbrev a : Name
a = codes "A"

abbrev b : Name
b = codes "B"

abbrev main : Name
main = codes "Main"

abbrev x : Name
x = codes "x"

-- The fields A.x and Main.x.
abbrev field_of : Name → FieldValue
field_of owner = record { owner = owner; name = x; value = Int (pos 7) }

abbrev routine : Target → (number params : ℕ) → Routine
routine target number params = record { target = target; number = number; params = params; others = []; missing = Null; body = Nothing }

-- Class A with a constructor of two parameters and a method of one, class B below it, and component Main with a method of one parameter.
abbrev program : Source
program = record {
  classes = record { name = a; above = a ∷ []; fields = field_of a ∷ [] } ∷ record { name = b; above = b ∷ a ∷ []; fields = field_of a ∷ [] } ∷ [];
  routines = routine (Construct a) 0 2 ∷ routine (Method a (codes "m")) 0 1 ∷ routine (Method main (codes "f")) 1 1 ∷ [];
  components = main ∷ [];
  globals = field_of main ∷ [];
  literals = codes "on" ∷ [];
  main = Method main (codes "f");
  handlers = [];
}

-- Cell 0 is the literal, cell 1 an A, cell 2 a B and cell 3 an array of two ints; one local is there, and these values wait.
abbrev state : List Value → State
state values = record {
  values = values;
  locals = Int (pos 1) ∷ [];
  self = Obj 1;
  heap = record {
    cells = Array CharType (Char 111 ∷ Char 110 ∷ []) ∷ Object a (field_of a ∷ []) ∷ Object b (field_of a ∷ [])
        ∷ Array IntType (Int (pos 4) ∷ Int (pos 5) ∷ []) ∷ [];
    globals = field_of main ∷ [];
  };
}

-- ---- cases

-- A step, and the values that wait, the newest first.
abbrev pub Case : Type 0
Case = Step × List Value

abbrev is_wrong : Answer State History → Bool
is_wrong (Gives s w) = false
is_wrong (Ends (Over Wrong) s w) = true
is_wrong (Ends why s w) = false

-- Whether a case is Wrong in a run, and at initialisation.
abbrev in_run : Case → Bool
in_run c = is_wrong (step program (called full program 9) c.0 (state c.1) (running_world no_history None (5 ∷ []) [] 9))

abbrev at_start : Case → Bool
at_start c = is_wrong (step program (called full program 9) c.0 (state c.1) (starting_world no_history 9))

abbrev all_wrong : (Case → Bool) → List Case → Bool
all_wrong wrong [] = true
all_wrong wrong (c ∷ cs) = wrong c && all_wrong wrong cs

abbrev none_wrong : (Case → Bool) → List Case → Bool
none_wrong wrong [] = true
none_wrong wrong (c ∷ cs) = not (wrong c) && none_wrong wrong cs

-- ---- stores and reads

-- No field z is there, B declares no x, and an array has no fields; Main has no z; there is one local alone.
stores_to_no_place : all_wrong in_run (
    (SetField 0 a (codes "z"), Int (pos 1) ∷ Obj 1 ∷ [])
    ∷ (SetField 0 b x, Int (pos 1) ∷ Obj 2 ∷ [])
    ∷ (SetField 0 a x, Int (pos 1) ∷ Arr 3 ∷ [])
    ∷ (SetComponentField main (codes "z"), Int (pos 1) ∷ [])
    ∷ (SetComponentField a x, Int (pos 1) ∷ [])
    ∷ (SetLocal 1, Int (pos 1) ∷ [])
    ∷ (SetItem 0 IntType, Int (pos 1) ∷ Int (pos 0) ∷ Obj 1 ∷ [])
    ∷ (SetItem 0 IntType, Int (pos 1) ∷ Raw 8 0 ∷ Arr 3 ∷ [])
    ∷ []) ≡ true
stores_to_no_place = refl

stores_to_places : none_wrong in_run (
    (SetField 0 a x, Int (pos 1) ∷ Obj 1 ∷ [])
    ∷ (SetField 0 a x, Int (pos 1) ∷ Obj 2 ∷ [])
    ∷ (SetField 0 a x, Int (pos 1) ∷ Null ∷ [])
    ∷ (SetComponentField main x, Int (pos 1) ∷ [])
    ∷ (SetLocal 0, Int (pos 1) ∷ [])
    ∷ (SetItem 0 IntType, Int (pos 1) ∷ Int (pos 1) ∷ Arr 3 ∷ [])
    ∷ (SetItem 0 IntType, Int (pos 1) ∷ Int (pos 2) ∷ Arr 3 ∷ [])
    ∷ []) ≡ true
stores_to_places = refl

reads_of_no_place : all_wrong in_run (
    (Field 0 a (codes "z"), Obj 1 ∷ [])
    ∷ (Field 0 b x, Obj 2 ∷ [])
    ∷ (Field 0 a x, Int (pos 1) ∷ [])
    ∷ (ComponentField main (codes "z"), [])
    ∷ (Local 1, [])
    ∷ (Literal 1, [])
    ∷ (Length 0 IntType, Obj 1 ∷ [])
    ∷ (Item 0 IntType, Int (pos 0) ∷ Obj 1 ∷ [])
    ∷ []) ≡ true
reads_of_no_place = refl

reads_of_places : none_wrong in_run (
    (Field 0 a x, Obj 2 ∷ [])
    ∷ (ComponentField main x, [])
    ∷ (Local 0, [])
    ∷ (Literal 0, [])
    ∷ (Length 0 IntType, Arr 3 ∷ [])
    ∷ (Item 0 IntType, Int (pos 0) ∷ Arr 3 ∷ [])
    ∷ []) ≡ true
reads_of_places = refl

-- A register is given bytes, and nothing else.
no_bytes : all_wrong in_run (
    (SetRegister 0x38, Raw 4 1 ∷ [])
    ∷ (SetRegister 0x38, Raw 16 1 ∷ [])
    ∷ (SetRegister 0x38, Int (pos 1) ∷ [])
    ∷ (SetRegister 0x38, Char 1 ∷ [])
    ∷ (SetRegister 0x38, Null ∷ [])
    ∷ []) ≡ true
no_bytes = refl

a_byte : none_wrong in_run ((SetRegister 0x38, Raw 8 1 ∷ []) ∷ []) ≡ true
a_byte = refl

-- ---- calls

-- One argument too few, and one too many; a number of arguments of its own for each kind of call.
other_numbers_of_arguments : all_wrong in_run (
    (CallComponent main (codes "f") 0, [])
    ∷ (CallComponent main (codes "f") 2, Int (pos 1) ∷ Int (pos 2) ∷ [])
    ∷ (CallMethod 0 a (codes "m") 0, Obj 1 ∷ [])
    ∷ (CallMethod 0 a (codes "m") 2, Int (pos 1) ∷ Int (pos 2) ∷ Obj 2 ∷ [])
    ∷ (CallValue 0 2 NoType NoType, Int (pos 1) ∷ Int (pos 2) ∷ Bound None main (codes "f") ∷ [])
    ∷ (CallValue 0 0 NoType NoType, Bound (Some 1) a (codes "m") ∷ [])
    ∷ (Super a 1, Int (pos 1) ∷ [])
    ∷ []) ≡ true
other_numbers_of_arguments = refl

made_with_other_numbers_of_arguments : all_wrong at_start (
    (NewObject 0 a 1, Int (pos 1) ∷ [])
    ∷ (NewObject 0 a 3, Int (pos 1) ∷ Int (pos 2) ∷ Int (pos 3) ∷ [])
    ∷ (NewObject 0 (codes "C") 0, [])
    ∷ []) ≡ true
made_with_other_numbers_of_arguments = refl

as_many_arguments_as_parameters : none_wrong in_run (
    (CallComponent main (codes "f") 1, Int (pos 1) ∷ [])
    ∷ (CallMethod 0 a (codes "m") 1, Int (pos 1) ∷ Obj 2 ∷ [])
    ∷ (CallMethod 0 a (codes "m") 1, Int (pos 1) ∷ Null ∷ [])
    ∷ (CallValue 0 1 (MoreTypes IntType NoType) NoType, Int (pos 1) ∷ Bound (Some 1) a (codes "m") ∷ [])
    ∷ (Super a 2, Int (pos 1) ∷ Int (pos 2) ∷ [])
    ∷ []) ≡ true
as_many_arguments_as_parameters = refl

made_with_its_arguments : none_wrong at_start ((NewObject 0 a 2, Int (pos 1) ∷ Int (pos 2) ∷ []) ∷ []) ≡ true
made_with_its_arguments = refl

-- ---- operators: the newest value is the right operand

unfit_operands : all_wrong in_run (
    (Operate 0 And, Raw 4 1 ∷ Raw 8 1 ∷ [])
    ∷ (Operate 0 Equal, Raw 4 1 ∷ Raw 8 1 ∷ [])
    ∷ (Operate 0 Unequal, Raw 4 1 ∷ Raw 8 1 ∷ [])
    ∷ (Operate 0 Concat, Raw 1 1 ∷ Raw 32 1 ∷ [])
    ∷ (Operate 0 Concat, Int (pos 1) ∷ Raw 8 1 ∷ [])
    ∷ (Operate 0 ShiftLeft, Raw 8 1 ∷ Int (pos 1) ∷ [])
    ∷ (Operate 0 Plus, Char 1 ∷ Char 2 ∷ [])
    ∷ (Operate 0 Plus, Truth true ∷ Int (pos 1) ∷ [])
    ∷ (Operate 0 Less, Truth true ∷ Truth false ∷ [])
    ∷ (Operate 0 Less, Raw 8 1 ∷ Raw 8 2 ∷ [])
    ∷ (Operate 0 Equal, Char 1 ∷ Int (pos 1) ∷ [])
    ∷ (Operate 0 Equal, Truth false ∷ Null ∷ [])
    ∷ (Operate 0 Equal, Arr 3 ∷ Obj 1 ∷ [])
    ∷ (Operate 0 Less, Null ∷ Null ∷ [])
    ∷ (Operate 0 Equal, Bound None main (codes "f") ∷ Bound None main (codes "f") ∷ [])
    ∷ (Operate 0 Equal, Null ∷ Bound None main (codes "f") ∷ [])
    ∷ (Apply Negative, Raw 8 1 ∷ [])
    ∷ (Apply Not, Int (pos 1) ∷ [])
    ∷ (Apply Complement, Truth true ∷ [])
    ∷ (Apply Not, Null ∷ [])
    ∷ []) ≡ true
unfit_operands = refl

fit_operands : none_wrong in_run (
    (Operate 0 And, Raw 8 1 ∷ Raw 8 1 ∷ [])
    ∷ (Operate 0 Concat, Raw 1 1 ∷ Raw 31 1 ∷ [])
    ∷ (Operate 0 ShiftLeft, Int (pos 1) ∷ Raw 8 1 ∷ [])
    ∷ (Operate 0 Less, Char 1 ∷ Char 2 ∷ [])
    ∷ (Operate 0 Equal, Truth true ∷ Truth false ∷ [])
    ∷ (Operate 0 Equal, Null ∷ Null ∷ [])
    ∷ (Operate 0 Unequal, Null ∷ Arr 3 ∷ [])
    ∷ (Operate 0 Equal, Obj 2 ∷ Obj 1 ∷ [])
    ∷ []) ≡ true
fit_operands = refl

-- ---- casts and class tests

unfit_casts : all_wrong in_run (
    (CastTo 0 IntType, Truth true ∷ [])
    ∷ (CastTo 0 CharType, Null ∷ [])
    ∷ (CastTo 0 (RawType 8), Obj 1 ∷ [])
    ∷ (CastTo 0 BoolType, Int (pos 1) ∷ [])
    ∷ (CastTo 0 (ClassType a), Arr 3 ∷ [])
    ∷ (CastTo 0 (ClassType a), Int (pos 1) ∷ [])
    ∷ (CastTo 0 (ClassType a), Obj 3 ∷ [])
    ∷ (CastTo 0 (ArrayType IntType), Obj 1 ∷ [])
    ∷ (CastTo 0 (FunctionType NoType NoType), Obj 1 ∷ [])
    ∷ (IsBelow a, Int (pos 1) ∷ [])
    ∷ (IsBelow a, Arr 3 ∷ [])
    ∷ []) ≡ true
unfit_casts = refl

fit_casts : none_wrong in_run (
    (CastTo 0 IntType, Raw 8 1 ∷ [])
    ∷ (CastTo 0 BoolType, Truth true ∷ [])
    ∷ (CastTo 0 (ClassType b), Obj 1 ∷ [])
    ∷ (CastTo 0 (ClassType b), Null ∷ [])
    ∷ (CastTo 0 (ArrayType IntType), Arr 3 ∷ [])
    ∷ (CastTo 0 (FunctionType NoType NoType), Null ∷ [])
    ∷ (IsBelow a, Null ∷ [])
    ∷ (IsBelow b, Obj 1 ∷ [])
    ∷ []) ≡ true
fit_casts = refl
