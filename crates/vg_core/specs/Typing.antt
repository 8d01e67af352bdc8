-- Which programs are well typed.
use Rattle.std.specs.Prelude.{◌≡◌, ◌↔◌, ℕ, ◌+◌, true, false, nat_le, List, [], ◌∷◌, ◌++◌, length, Some, slice_get}
use Rattle.vg_meaning.specs.Shapes.{Shapes, Fits}
use Rattle.vg_core.specs.declared.types.CoreType.{CoreType}
use Rattle.vg_core.specs.declared.types.CoreType.TheVariants.{IntType, BoolType, CharType, RawType, NullType, ClassType, ArrayType, FunctionType}
use Rattle.vg_core.specs.declared.value.CoreValue.{CoreValue}
use Rattle.vg_core.specs.declared.operator.Operator.{Operator}
use Rattle.vg_core.specs.declared.operator.Operator.TheVariants.{Plus, Minus, Times, Divide, Remainder, Less, AtMost, Greater, AtLeast, Equal, Unequal}
use Rattle.vg_core.specs.declared.operator.Operator.TheVariants.{And, Or, Xor, ShiftLeft, ShiftRight, Concat}
use Rattle.vg_core.specs.declared.operator.Prefix.{Prefix}
use Rattle.vg_core.specs.declared.operator.Prefix.TheVariants.{Negative, Not, Complement}
use Rattle.vg_core.specs.declared.step.Step.{Step}
use Rattle.vg_core.specs.declared.step.Step.TheVariants.{Put, Literal, This, Local, ComponentField, Register, ComponentMethod, Apply, Operate, CastTo}
use Rattle.vg_core.specs.declared.step.Step.TheVariants.{IsBelow, Field as FieldOf, Item, Length, MethodOf, CallMethod, CallValue, CallComponent}
use Rattle.vg_core.specs.declared.step.Step.TheVariants.{NewObject, NewArray, SetLocal, SetComponentField, SetRegister, SetField, SetItem, Forget, Super}
use Rattle.vg_core.specs.declared.program.Owner.{Owner}
use Rattle.vg_core.specs.declared.program.Owner.TheVariants.{InClass, InComponent}
use Rattle.vg_core.specs.declared.program.Field.{Field}
use Rattle.vg_core.specs.declared.program.Method.{Method}
use Rattle.vg_core.specs.declared.program.Class.{Class}
use Rattle.vg_core.specs.declared.program.Handler.{Handler}
use Rattle.vg_core.specs.declared.program.Tables.{Tables}
use Rattle.vg_core.specs.Tables.{is_below, top, dispatch, slot_of, global_slot, function_of, IsRow}
use Rattle.vg_core.specs.declared.program.Target.{Target}
use Rattle.vg_core.specs.Program.{Body, Program, Signature, signature_of, body_of}
use Rattle.vg_core.specs.State.{onto}
use Rattle.vg_core.specs.Types.{HasType}

-- ---- what fits what

-- A value of the first type may stand where one of the second is wanted.
pub data Sub (p : Tables) : CoreType → CoreType → Type 0 where
  same : {t : CoreType} → Sub p t t
  below : {c d : ℕ} → is_below p c d ≡ true → Sub p (ClassType c) (ClassType d)
  null_class : {d : ℕ} → Sub p NullType (ClassType d)
  null_array : {t : ℕ} → Sub p NullType (ArrayType t)
  null_function : {ps r : ℕ} → Sub p NullType (FunctionType ps r)

-- Types fit types, one for one.
abbrev pub Subs : Tables → List CoreType → List CoreType → Type 0
Subs p [] [] = Unit {0}
Subs p (u ∷ us) (t ∷ ts) = Sub p u t × Subs p us ts
Subs p _ _ = ⊥

-- Values of a type are compared for sameness, but for those of functions and of nothing.
pub data Compared : CoreType → Type 0 where
  ints : Compared IntType
  bools : Compared BoolType
  chars : Compared CharType
  raws : {k : ℕ} → Compared (RawType k)
  nulls : Compared NullType
  objects : {c : ℕ} → Compared (ClassType c)
  arrays : {t : ℕ} → Compared (ArrayType t)

-- An operator on two ints gives an int.
pub data OfInts : Operator → Type 0 where
  plus : OfInts Plus
  minus : OfInts Minus
  times : OfInts Times
  divide : OfInts Divide
  remainder : OfInts Remainder

-- An operator that tells which of two is less.
pub data Orders : Operator → Type 0 where
  less : Orders Less
  at_most : Orders AtMost
  greater : Orders Greater
  at_least : Orders AtLeast

-- An operator that tells whether two are the same.
pub data Compares : Operator → Type 0 where
  equal : Compares Equal
  unequal : Compares Unequal

-- An operator on two bit strings of one width gives one of this width.
pub data OfBits : Operator → Type 0 where
  and : OfBits And
  or : OfBits Or
  xor : OfBits Xor

-- An operator on a bit string and an int gives a bit string.
pub data Shifts : Operator → Type 0 where
  left_shift : Shifts ShiftLeft
  right_shift : Shifts ShiftRight

-- The types of the operands of an operator and of its value.
pub data OpTakes (p : Tables) : Operator → (left right value : CoreType) → Type 0 where
  of_ints : {op : Operator} → OfInts op → OpTakes p op IntType IntType IntType
  order_ints : {op : Operator} → Orders op → OpTakes p op IntType IntType BoolType
  order_chars : {op : Operator} → Orders op → OpTakes p op CharType CharType BoolType
  of_bits : {op : Operator} {k : ℕ} → OfBits op → OpTakes p op (RawType k) (RawType k) (RawType k)
  shifts : {op : Operator} {k : ℕ} → Shifts op → OpTakes p op (RawType k) IntType (RawType k)
  concat : {j k : ℕ} → nat_le (j + k) 32 ≡ true → OpTakes p Concat (RawType j) (RawType k) (RawType (j + k))
  compare_up : {op : Operator} {t u : CoreType} → Compares op → Compared t → Compared u → Sub p t u → OpTakes p op t u BoolType
  compare_down : {op : Operator} {t u : CoreType} → Compares op → Compared t → Compared u → Sub p u t → OpTakes p op t u BoolType

-- The type of the operand of an operator before it, and of its value.
pub data PrefixTakes : Prefix → CoreType → Type 0 where
  negative : PrefixTakes Negative IntType
  not_bool : PrefixTakes Not BoolType
  complement : {k : ℕ} → PrefixTakes Complement (RawType k)

-- Ints, chars and bit strings.
pub data IsNumber : CoreType → Type 0 where
  int_number : IsNumber IntType
  char_number : IsNumber CharType
  raw_number : {k : ℕ} → IsNumber (RawType k)

-- One class is the other, or above or below it.
pub data Related (p : Tables) : (c d : ℕ) → Type 0 where
  upward : {c d : ℕ} → is_below p c d ≡ true → Related p c d
  downward : {c d : ℕ} → is_below p d c ≡ true → Related p c d

-- A value of the first type may be cast to the second.
pub data Casts (p : Tables) : CoreType → CoreType → Type 0 where
  numbers : {t u : CoreType} → IsNumber t → IsNumber u → Casts p t u
  bool_itself : Casts p BoolType BoolType
  array_itself : {t : ℕ} → Casts p (ArrayType t) (ArrayType t)
  function_itself : {ps r : ℕ} → Casts p (FunctionType ps r) (FunctionType ps r)
  classes : {c d : ℕ} → Related p c d → Casts p (ClassType c) (ClassType d)
  null_to_class : {d : ℕ} → Casts p NullType (ClassType d)

-- ---- steps

-- In a body of this owner whose parameters and locals have the types ts, a step leads from waiting values of the one list of types to
-- those of the other, the newest first. Of the program it sees the tables alone.
pub data Takes (p : Tables) (ts : List CoreType) (o : Owner) : Step → List CoreType → List CoreType → Type 0 where
  t_put : {v : CoreValue} {t : CoreType} {x : List CoreType} → HasType p [] v t → Takes p ts o (Put v) x (t ∷ x)
  t_literal : {k : ℕ} {x : List CoreType} (bytes : List ℕ) → slice_get p.literals k ≡ Some bytes
      → Takes p ts o (Literal k) x (ArrayType p.char_type ∷ x)
  t_this : {c : ℕ} {x : List CoreType} → o ≡ InClass c → Takes p ts o This x (ClassType c ∷ x)
  t_local : {k : ℕ} {t : CoreType} {x : List CoreType} → slice_get ts k ≡ Some t → Takes p ts o (Local k) x (t ∷ x)
  t_component_field : {f k : ℕ} {x : List CoreType} (y : Field) → slice_get p.fields f ≡ Some y → y.owner ≡ InComponent k
      → Takes p ts o (ComponentField f) x (y.type_ ∷ x)
  t_register : {a : ℕ} {x : List CoreType} → Takes p ts o (Register a) x (RawType 8 ∷ x)
  t_component_method : {m k ps r : ℕ} {x : List CoreType} (y : Method) → slice_get p.methods m ≡ Some y → y.owner ≡ InComponent k
      → function_of p y ≡ Some (FunctionType ps r) → Takes p ts o (ComponentMethod m) x (FunctionType ps r ∷ x)
  t_apply : {op : Prefix} {t : CoreType} {x : List CoreType} → PrefixTakes op t → Takes p ts o (Apply op t) (t ∷ x) (t ∷ x)
  t_operate : {at : ℕ} {op : Operator} {t u r : CoreType} {x : List CoreType} → OpTakes p op t u r
      → Takes p ts o (Operate at op t u) (u ∷ t ∷ x) (r ∷ x)
  t_cast : {at : ℕ} {t u : CoreType} {x : List CoreType} → Casts p t u → Takes p ts o (CastTo at t u) (t ∷ x) (u ∷ x)
  t_is_below : {c d : ℕ} {x : List CoreType} → Related p c d → Takes p ts o (IsBelow d) (ClassType c ∷ x) (BoolType ∷ x)
  t_field : {at f d e : ℕ} {x : List CoreType} (y : Field) → slice_get p.fields f ≡ Some y → y.owner ≡ InClass e → is_below p d e ≡ true
      → Takes p ts o (FieldOf at f) (ClassType d ∷ x) (y.type_ ∷ x)
  t_item : {at t : ℕ} {e : CoreType} {x : List CoreType} → slice_get p.types t ≡ Some e
      → Takes p ts o (Item at t) (IntType ∷ ArrayType t ∷ x) (e ∷ x)
  t_length : {at t : ℕ} {x : List CoreType} → Takes p ts o (Length at t) (ArrayType t ∷ x) (IntType ∷ x)
  t_method_of : {at d s ps r : ℕ} {x : List CoreType} (m : ℕ) (y : Method) → dispatch p d s ≡ Some m → slice_get p.methods m ≡ Some y
      → function_of p y ≡ Some (FunctionType ps r) → Takes p ts o (MethodOf at d s) (ClassType d ∷ x) (FunctionType ps r ∷ x)
  t_call_method : {at d s : ℕ} {x : List CoreType} (m : ℕ) (y : Method) (us : List CoreType) → dispatch p d s ≡ Some m
      → slice_get p.methods m ≡ Some y → Subs p us (onto y.params [])
      → Takes p ts o (CallMethod at d s (length us)) (us ++ ClassType d ∷ x) (y.result ∷ x)
  t_call_value : {at f ps r : ℕ} {t : CoreType} {x : List CoreType} (params us : List CoreType) → slice_get p.types f ≡ Some (FunctionType ps r)
      → IsRow p params ps → slice_get p.types r ≡ Some t → Subs p us (onto params [])
      → Takes p ts o (CallValue at (length us) f) (us ++ FunctionType ps r ∷ x) (t ∷ x)
  t_call_component : {m k : ℕ} {x : List CoreType} (y : Method) (us : List CoreType) → slice_get p.methods m ≡ Some y → y.owner ≡ InComponent k
      → Subs p us (onto y.params []) → Takes p ts o (CallComponent m (length us)) (us ++ x) (y.result ∷ x)
  t_new_object : {at c : ℕ} {x : List CoreType} (k : Class) (us : List CoreType) → slice_get p.classes c ≡ Some k → Subs p us (onto k.params [])
      → Takes p ts o (NewObject at c (length us)) (us ++ x) (ClassType c ∷ x)
  t_new_array : {at t : ℕ} {e : CoreType} {x : List CoreType} → slice_get p.types t ≡ Some e
      → Takes p ts o (NewArray at t) (IntType ∷ x) (ArrayType t ∷ x)
  t_set_local : {k : ℕ} {t u : CoreType} {x : List CoreType} → slice_get ts k ≡ Some t → Sub p u t → Takes p ts o (SetLocal k t) (u ∷ x) x
  t_set_component_field : {f k : ℕ} {u : CoreType} {x : List CoreType} (y : Field) → slice_get p.fields f ≡ Some y → y.owner ≡ InComponent k
      → Sub p u y.type_ → Takes p ts o (SetComponentField f) (u ∷ x) x
  t_set_register : {a : ℕ} {x : List CoreType} → Takes p ts o (SetRegister a) (RawType 8 ∷ x) x
  t_set_field : {at f d e : ℕ} {u : CoreType} {x : List CoreType} (y : Field) → slice_get p.fields f ≡ Some y → y.owner ≡ InClass e
      → is_below p d e ≡ true → Sub p u y.type_ → Takes p ts o (SetField at f) (u ∷ ClassType d ∷ x) x
  t_set_item : {at t : ℕ} {e u : CoreType} {x : List CoreType} → slice_get p.types t ≡ Some e → Sub p u e
      → Takes p ts o (SetItem at t) (u ∷ IntType ∷ ArrayType t ∷ x) x
  t_forget : {t : CoreType} {x : List CoreType} → Takes p ts o Forget (t ∷ x) x
  t_super : {c d : ℕ} {x : List CoreType} (k : Class) (us : List CoreType) → slice_get p.classes c ≡ Some k → Subs p us (onto k.params [])
      → o ≡ InClass d → is_below p d c ≡ true → Takes p ts o (Super c (length us)) (us ++ x) x

-- A truth value waits in front.
abbrev pub Holds : List CoreType → List CoreType → Type 0
Holds x y = x ≡ BoolType ∷ y

-- A value that fits the result waits in front.
abbrev pub Returned : Tables → (result : CoreType) → List CoreType → Type 0
Returned p r x = (u : CoreType) × (y : List CoreType) × (x ≡ u ∷ y) × Sub p u r

-- What is known of the steps of a body. Between statements nothing waits.
abbrev pub known : Tables → (locals : List CoreType) → Owner → (result : CoreType) → Shapes Step (List CoreType)
known p ts o r = record { Takes = Takes p ts o; Truth = Holds; Result = Returned p r; between = [] }

-- The types of the parameters and locals of a body, by their numbers.
abbrev pub locals_of : Signature → Body → List CoreType
locals_of g b = onto (onto g.params []) b.others

-- The code of a body is typed, and breaks and continues only loops.
abbrev pub TypedBody : Tables → Signature → Body → Type 0
TypedBody p g b = Fits (known p (locals_of g b) g.owner g.result) false b.code [] []

-- ---- programs

-- The method that an object has in place of another: it has the same function type and is of the object's class or one above it.
abbrev pub Overrides : Tables → (c s : ℕ) → Method → Type 0
Overrides p c s y =
    (n e : ℕ) × (z : Method) × (dispatch p c s ≡ Some n) × (slice_get p.methods n ≡ Some z) × (z.function ≡ y.function)
    × (z.owner ≡ InClass e) × (is_below p c e ≡ true)

-- The function type of a method is made of the types of its parameters and of its result.
abbrev pub HasFunction : Tables → Method → Type 0
HasFunction p m =
    (ps r : ℕ) × (function_of p m ≡ Some (FunctionType ps r)) × IsRow p m.params ps × (slice_get p.types r ≡ Some m.result)

-- What the tables of a well typed program keep.
pub record WellFormed (p : Tables) : Type 0 where
  pub itself : (c : ℕ) (k : Class) → slice_get p.classes c ≡ Some k → is_below p c c ≡ true
  pub trans : (c d e : ℕ) → is_below p c d ≡ true → is_below p d e ≡ true → is_below p c e ≡ true
  pub one_top : (c d : ℕ) → is_below p c d ≡ true → top p c ≡ top p d
  -- a field stands at its slot in all objects that have it, and nowhere else
  pub slots : (c i f : ℕ) (k : Class) → slice_get p.classes c ≡ Some k → (slice_get k.fields i ≡ Some f) ↔ (slot_of p c f ≡ Some i)
  pub global_slots : (i f : ℕ) → (slice_get p.globals i ≡ Some f) ↔ (global_slot p f ≡ Some i)
  pub overrides : (c d s m : ℕ) (y : Method) → is_below p c d ≡ true → dispatch p d s ≡ Some m → slice_get p.methods m ≡ Some y → Overrides p c s y
  pub functions : (m : ℕ) (y : Method) → slice_get p.methods m ≡ Some y → HasFunction p y
  -- equal types have one number
  pub one_number : (i j : ℕ) (t : CoreType) → slice_get p.types i ≡ Some t → slice_get p.types j ≡ Some t → i ≡ j
  pub char_type : slice_get p.types p.char_type ≡ Some CharType

-- An entry is a method of a component without parameters.
pub record IsEntry (p : Program) (m : ℕ) : Type 0 where
  pub method : Method
  pub component : ℕ
  pub is : slice_get p.tables.methods m ≡ Some method
  pub owner : method.owner ≡ InComponent component
  pub params : method.params ≡ []

-- All handlers are entries.
abbrev pub AreEntries : Program → List Handler → Type 0
AreEntries p [] = Unit {0}
AreEntries p (h ∷ hs) = IsEntry p h.method × AreEntries p hs

-- A program is well typed: its tables are well formed, what has a signature has a body, and this body is typed.
pub record WellTyped (p : Program) : Type 0 where
  pub tables : WellFormed p.tables
  pub bodies : (t : Target) (g : Signature) → signature_of p.tables t ≡ Some g → (b : Body) × (body_of p t ≡ Some b) × TypedBody p.tables g b
  pub main : IsEntry p p.main
  pub handlers : AreEntries p p.handlers
