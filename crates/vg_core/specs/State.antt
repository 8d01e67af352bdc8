-- What an evaluation has in hand, and whether a value is of a type.
use Rattle.std.specs.Prelude.{ℕ, ◌==◌, ◌&&◌, Bool, true, false, List, [], ◌∷◌, take, drop, map, Option, Some, None, slice_get}
use Rattle.vg_core.specs.declared.types.CoreType.{CoreType}
use Rattle.vg_core.specs.declared.types.CoreType.TheVariants.{IntType, BoolType, CharType, RawType, ClassType, ArrayType, FunctionType}
use Rattle.vg_core.specs.declared.value.CoreValue.{CoreValue}
use Rattle.vg_core.specs.declared.value.CoreValue.TheVariants.{Int, Bool as Truth, Char, Raw, Null, Obj, Arr, Bound}
use Rattle.vg_core.specs.declared.heap.Cell.{Cell}
use Rattle.vg_core.specs.declared.heap.Cell.TheVariants.{Object, Array}
use Rattle.vg_core.specs.declared.heap.Heap.{Heap}
use Rattle.vg_core.specs.declared.program.Method.{Method}
use Rattle.vg_core.specs.declared.program.Tables.{Tables}
use Rattle.vg_core.specs.Tables.{is_below, function_of}
use Rattle.vg_core.specs.Heap.{default}
use Rattle.vg_core.specs.Program.{Body}

-- The state: the values that wait, the newest first; the parameters and locals of the body by their numbers; its receiver; the heap.
pub record State : Type 0 where
  pub values : List CoreValue
  pub locals : List CoreValue
  pub self : CoreValue
  pub heap : Heap

-- ---- types of values

-- Null is of a type.
abbrev pub takes_null : CoreType → Bool
takes_null IntType = false
takes_null BoolType = false
takes_null CharType = false
takes_null (RawType k) = false
takes_null _ = true

-- An object of class d or below it.
abbrev pub is_object : Tables → (d : ℕ) → Option Cell → Bool
is_object p d (Some (Object c vs)) = is_below p c d
is_object p d _ = false

-- An array of elements of the type of this number.
abbrev pub is_array : (t : ℕ) → Option Cell → Bool
is_array t (Some (Array u vs)) = u == t
is_array t _ = false

-- A function type of these parameters and this result.
abbrev pub is_function : (ps r : ℕ) → Option CoreType → Bool
is_function ps r (Some (FunctionType qs q)) = (qs == ps) && (q == r)
is_function ps r _ = false

-- A method of this function type.
abbrev pub is_delegate : Tables → (ps r : ℕ) → Option Method → Bool
is_delegate p ps r (Some m) = is_function ps r (function_of p m)
is_delegate p ps r None = false

-- A value is of a type, with what lies in the cells.
abbrev pub is_of : Tables → List Cell → CoreType → CoreValue → Bool
is_of p cells IntType (Int n) = true
is_of p cells BoolType (Truth b) = true
is_of p cells CharType (Char c) = true
is_of p cells (RawType k) (Raw j x) = j == k
is_of p cells (ClassType d) (Obj k) = is_object p d (slice_get cells k)
is_of p cells (ArrayType t) (Arr k) = is_array t (slice_get cells k)
is_of p cells (FunctionType ps r) (Bound receiver m) = is_delegate p ps r (slice_get p.methods m)
is_of p cells t Null = takes_null t
is_of p cells _ _ = false

-- Values are of types, one for one.
abbrev pub are_of : Tables → List Cell → List CoreType → List CoreValue → Bool
are_of p cells [] [] = true
are_of p cells (t ∷ ts) (v ∷ vs) = is_of p cells t v && are_of p cells ts vs
are_of p cells _ _ = false

-- ---- bodies

-- A list, the other way round, in front of another.
abbrev pub onto : {A : Type 0} → List A → List A → List A
onto [] acc = acc
onto (x ∷ xs) acc = onto xs (x ∷ acc)

-- The state of a body: the newest values of its caller are its arguments, and its other locals have their defaults.
abbrev pub entered : Body → ℕ → CoreValue → State → State
entered b count self s = record { values = []; locals = onto (take count s.values) (map default b.others); self = self; heap = s.heap }

-- The state of the caller behind the call: the call's value stands in place of the arguments.
abbrev pub left : ℕ → State → CoreValue → State → State
left count s v body = record { values = v ∷ drop count s.values; locals = s.locals; self = s.self; heap = body.heap }
