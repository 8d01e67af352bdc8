-- Which steps a method may have that is packed.
use Rattle.std.specs.Prelude.{◌≡◌, ℕ, ◌<◌, ◌≤◌, true, List, [], ◌∷◌, Option, Some, None, slice_get}
use Rattle.vg_meaning.specs.Shapes.{Shapes}
use Rattle.vg_codes.specs.Dispatch.{dispatched}
use Rattle.vg_core.specs.declared.types.CoreType.{CoreType}
use Rattle.vg_core.specs.declared.types.CoreType.TheVariants.{RawType}
use Rattle.vg_core.specs.declared.program.Method.{Method}
use Rattle.vg_core.specs.declared.program.Owner.{Owner}
use Rattle.vg_core.specs.declared.program.Tables.{Tables}
use Rattle.vg_core.specs.declared.step.Step.{Step}
use Rattle.vg_core.specs.declared.step.Step.TheVariants.{Put, Literal, ComponentField, ComponentMethod, CastTo, Field, MethodOf, CallMethod, CallValue}
use Rattle.vg_core.specs.declared.step.Step.TheVariants.{CallComponent, NewObject, NewArray, SetComponentField, SetField, SetItem, Super}
use Rattle.vg_core.specs.Heap.{ObjectOf, ArrayOf}
use Rattle.vg_core.specs.Tables.{is_below, dispatch, slot_of}
use Rattle.vg_core.specs.Typing.{Takes, Holds, Returned}
use Rattle.vg_firm.specs.declared.step.Home.TheVariants.{Ram}
use Rattle.vg_firm.specs.Program.{Program as FirmProgram}
use Rattle.vg_firm.specs.Session.{is_among}
use Rattle.vg_coded.specs.Kept.{IsBindable, IsKept}
use Rattle.vg_packing.specs.Layout.{Column, Layout}

-- An object that is kept, of this class.
abbrev pub IsObject : Layout → (j c : ℕ) → Type 0
IsObject l j c = (slice_get l.kinds j ≡ Some (ObjectOf c)) × (0 < l.numbering.number j)

-- An array that is kept, of so many elements of the type of this number.
abbrev pub IsArray : Layout → (j t n : ℕ) → Type 0
IsArray l j t n = (slice_get l.kinds j ≡ Some (ArrayOf t n)) × (0 < l.numbering.number j)

-- A field that is read has a column, if any kept object has it.
abbrev pub IsRead : Tables → Layout → (f : ℕ) → Type 0
IsRead p l f = (j c i : ℕ) → IsObject l j c → slot_of p c f ≡ Some i → (col : Column) × (l.column f ≡ Some col)

-- A column that is written stands in RAM.
abbrev pub IsWritten : Option Column → Type 0
IsWritten (Some c) = c.home ≡ Ram
IsWritten None = Unit {0}

-- Kept objects of class c or below it have for a selector a method of which P holds, and the dispatch has its procedure.
abbrev pub IsDispatched : Tables → Layout → FirmProgram → (P : (m procedure : ℕ) → Type 0) → (c s : ℕ) → Type 0
IsDispatched p l f P c s =
    (j d m : ℕ) → IsObject l j d → is_below p d c ≡ true → dispatch p d s ≡ Some m
    → (q : ℕ) × (l.numbering.procedure m ≡ Some q) × (dispatched f.dispatches (l.dispatch c s) (l.numbering.number j) ≡ Some q) × P m q

-- A bit string of at most 32 bits.
abbrev pub IsSmall : CoreType → Type 0
IsSmall (RawType k) = k ≤ 32
IsSmall _ = Unit {0}

abbrev pub AreSmall : List CoreType → Type 0
AreSmall [] = Unit {0}
AreSmall (t ∷ ts) = IsSmall t × AreSmall ts

-- A step of a method whose procedure may call these procedures: what it reads is kept, what it writes stands in RAM, what it calls has a
-- procedure that may be called, and it makes nothing.
abbrev pub Allowed : Tables → Layout → FirmProgram → (calls : List ℕ) → Step → Type 0
Allowed p l f calls (Put v) = IsKept l.numbering v
Allowed p l f calls (Literal a) = 0 < l.numbering.number a
Allowed p l f calls (ComponentField x) = (c : Column) × (l.column x ≡ Some c)
Allowed p l f calls (SetComponentField x) = IsWritten (l.column x)
Allowed p l f calls (Field at x) = IsRead p l x
Allowed p l f calls (SetField at x) = IsWritten (l.column x)
Allowed p l f calls (SetItem at t) = (l.items t).home ≡ Ram
Allowed p l f calls (CastTo at t u) = IsSmall u
Allowed p l f calls (ComponentMethod m) = IsBindable l.numbering m
Allowed p l f calls (MethodOf at c s) = IsDispatched p l f (λ m q. l.numbering.bindable m ≡ true) c s
Allowed p l f calls (CallMethod at c s count) = IsDispatched p l f (λ m q. (is_among calls q ≡ true) × (l.receives m ≡ true)) c s
Allowed p l f calls (CallComponent m count) = (q : ℕ) × (l.numbering.procedure m ≡ Some q) × (is_among calls q ≡ true)
Allowed p l f calls (CallValue at count t) =
    (m q : ℕ) (y : Method) → l.numbering.procedure m ≡ Some q → l.numbering.bindable m ≡ true → slice_get p.methods m ≡ Some y → y.function ≡ t
    → is_among calls q ≡ true
Allowed p l f calls (NewObject at c count) = ⊥
Allowed p l f calls (NewArray at t) = ⊥
Allowed p l f calls (Super c count) = ⊥
Allowed p l f calls _ = Unit {0}

-- The steps of a body are typed and allowed.
abbrev pub allowing : Tables → Layout → FirmProgram → (calls : List ℕ) → (locals : List CoreType) → Owner → (result : CoreType) → Shapes Step (List CoreType)
allowing p l f calls ts o r =
    record { Takes = λ st x y. Takes p ts o st x y × Allowed p l f calls st; Truth = Holds; Result = Returned p r; between = [] }
