-- The types of values in a heap whose cells are of known kinds.
use Rattle.std.specs.Prelude.{◌≡◌, ℕ, true, List, [], ◌∷◌, length, Option, Some, None, slice_get}
use Rattle.vg_core.specs.declared.types.CoreType.{CoreType}
use Rattle.vg_core.specs.declared.types.CoreType.TheVariants.{IntType, BoolType, CharType, RawType, ClassType, ArrayType, FunctionType}
use Rattle.vg_core.specs.declared.value.CoreValue.{CoreValue}
use Rattle.vg_core.specs.declared.value.CoreValue.TheVariants.{Int, Bool as Truth, Char, Raw, Null, Obj, Arr, Bound}
use Rattle.vg_core.specs.declared.heap.Cell.{Cell}
use Rattle.vg_core.specs.declared.heap.Cell.TheVariants.{Object, Array}
use Rattle.vg_core.specs.declared.program.Owner.{Owner}
use Rattle.vg_core.specs.declared.program.Owner.TheVariants.{InClass, InComponent}
use Rattle.vg_core.specs.declared.program.Field.{Field}
use Rattle.vg_core.specs.declared.program.Method.{Method}
use Rattle.vg_core.specs.declared.program.Class.{Class}
use Rattle.vg_core.specs.declared.program.Tables.{Tables}
use Rattle.vg_core.specs.Tables.{is_below, function_of}
use Rattle.vg_core.specs.Heap.{Kind, ObjectOf, ArrayOf}

-- Cells are only added: each that was there is of the kind that it was.
abbrev pub Extends : (before now : List Kind) → Type 0
Extends κ κ' = (k : ℕ) (a : Kind) → slice_get κ k ≡ Some a → slice_get κ' k ≡ Some a

-- A cell holds an object of class d or below it.
abbrev pub IsObject : Tables → List Kind → (k d : ℕ) → Type 0
IsObject p κ k d = (c : ℕ) × (slice_get κ k ≡ Some (ObjectOf c)) × (is_below p c d ≡ true)

-- A cell holds an array of elements of the type of this number.
abbrev pub IsArray : List Kind → (k t : ℕ) → Type 0
IsArray κ k t = (size : ℕ) × (slice_get κ k ≡ Some (ArrayOf t size))

-- The receiver of a delegate fits the owner of its method.
abbrev pub ReceiverOf : Tables → List Kind → Option ℕ → Owner → Type 0
ReceiverOf p κ None (InComponent k) = Unit {0}
ReceiverOf p κ (Some r) (InClass d) = IsObject p κ r d
ReceiverOf p κ _ _ = ⊥

-- A method of this function type, whose owner the receiver fits.
abbrev pub IsDelegate : Tables → List Kind → Option ℕ → (m ps r : ℕ) → Type 0
IsDelegate p κ receiver m ps r =
    (x : Method) × (slice_get p.methods m ≡ Some x) × (function_of p x ≡ Some (FunctionType ps r)) × ReceiverOf p κ receiver x.owner

-- A value is of a type.
abbrev pub HasType : Tables → List Kind → CoreValue → CoreType → Type 0
HasType p κ (Int n) IntType = Unit {0}
HasType p κ (Truth b) BoolType = Unit {0}
HasType p κ (Char c) CharType = Unit {0}
HasType p κ (Raw j x) (RawType k) = j ≡ k
HasType p κ Null IntType = ⊥
HasType p κ Null BoolType = ⊥
HasType p κ Null CharType = ⊥
HasType p κ Null (RawType k) = ⊥
HasType p κ Null t = Unit {0}
HasType p κ (Obj k) (ClassType d) = IsObject p κ k d
HasType p κ (Arr k) (ArrayType t) = IsArray κ k t
HasType p κ (Bound receiver m) (FunctionType ps r) = IsDelegate p κ receiver m ps r
HasType p κ _ _ = ⊥

-- Values are of types, one for one.
abbrev pub HasTypes : Tables → List Kind → List CoreValue → List CoreType → Type 0
HasTypes p κ [] [] = Unit {0}
HasTypes p κ (v ∷ vs) (t ∷ ts) = HasType p κ v t × HasTypes p κ vs ts
HasTypes p κ _ _ = ⊥

-- A value is of the type of a field.
abbrev pub HasFieldType : Tables → List Kind → CoreValue → (f : ℕ) → Type 0
HasFieldType p κ v f = (x : Field) × (slice_get p.fields f ≡ Some x) × HasType p κ v x.type_

-- Values are of the types of fields, one for one.
abbrev pub HasFields : Tables → List Kind → List ℕ → List CoreValue → Type 0
HasFields p κ [] [] = Unit {0}
HasFields p κ (f ∷ fs) (v ∷ vs) = HasFieldType p κ v f × HasFields p κ fs vs
HasFields p κ _ _ = ⊥

-- All values are of one type.
abbrev pub AllHave : Tables → List Kind → CoreType → List CoreValue → Type 0
AllHave p κ t [] = Unit {0}
AllHave p κ t (v ∷ vs) = HasType p κ v t × AllHave p κ t vs

-- A cell is of a kind: the values of an object are those of its class's fields.
abbrev pub IsKind : Tables → List Kind → Cell → Kind → Type 0
IsKind p κ (Object c vs) (ObjectOf d) = (c ≡ d) × (x : Class) × (slice_get p.classes c ≡ Some x) × HasFields p κ x.fields vs
IsKind p κ (Array t vs) (ArrayOf u size) =
    (t ≡ u) × (length vs ≡ size) × (e : CoreType) × (slice_get p.types t ≡ Some e) × AllHave p κ e vs
IsKind p κ _ _ = ⊥

-- Cells are of kinds, one for one, where values may refer to cells of the kinds κ.
abbrev pub AreKinds : Tables → (κ : List Kind) → List Cell → List Kind → Type 0
AreKinds p κ [] [] = Unit {0}
AreKinds p κ (c ∷ cs) (k ∷ ks) = IsKind p κ c k × AreKinds p κ cs ks
AreKinds p κ _ _ = ⊥

-- The first cells hold the literals.
abbrev pub HoldsLiterals : Tables → List Kind → Type 0
HoldsLiterals p κ = (k : ℕ) (bytes : List ℕ) → slice_get p.literals k ≡ Some bytes → slice_get κ k ≡ Some (ArrayOf p.char_type (length bytes))

-- The receiver of a body is an object of its class or below it; a component needs none.
abbrev pub SelfOf : Tables → List Kind → CoreValue → Owner → Type 0
SelfOf p κ v (InClass c) = (k : ℕ) × (v ≡ Obj k) × IsObject p κ k c
SelfOf p κ v (InComponent k) = Unit {0}
