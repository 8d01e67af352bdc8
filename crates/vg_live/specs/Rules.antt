-- What is live in a program, once its constructors left a heap: eleven rules, and the least set that is closed under them.
use Rattle.std.specs.Prelude.{◌≡◌, ℕ, ◌<◌, true, length, Option, Some, None, slice_get}
use Rattle.vg_core.specs.declared.member.Member.{Member}
use Rattle.vg_core.specs.declared.member.Member.TheVariants.{Method, Field, Cell}
use Rattle.vg_core.specs.declared.value.CoreValue.{CoreValue}
use Rattle.vg_core.specs.declared.value.CoreValue.TheVariants.{Obj, Arr, Bound}
use Rattle.vg_core.specs.declared.step.Step.{Step}
use Rattle.vg_core.specs.declared.step.Step.TheVariants.{Literal, ComponentField, Field as FieldOf}
use Rattle.vg_core.specs.declared.heap.Heap.{Heap}
use Rattle.vg_core.specs.declared.program.Handler.{Handler}
use Rattle.vg_core.specs.Tables.{is_below, dispatch}
use Rattle.vg_core.specs.Program.{Program}
use Rattle.vg_core.specs.Heap.{Place, OfComponent, OfObject, OfArray, class_in, value_at}
use Rattle.vg_live.specs.Uses.{steps_of, component_method, Asked, asked}

-- The object or array that a value refers to, by its cell.
abbrev pub cell_in : CoreValue → Option ℕ
cell_in (Obj k) = Some k
cell_in (Arr k) = Some k
cell_in _ = None

-- What a delegate keeps: its method, and the receiver where it has one.
pub data Keeps : CoreValue → Member → Type 0 where
  method : {r : Option ℕ} {m : ℕ} → Keeps (Bound r m) (Method m)
  receiver : {k m : ℕ} → Keeps (Bound (Some k) m) (Cell k)

-- What holds a place: the field, and of an array the array.
abbrev pub holder : Place → Option Member
holder (OfComponent f) = Some (Field f)
holder (OfObject k f) = Some (Field f)
holder (OfArray k i) = Some (Cell k)

-- The object whose field a place is.
abbrev pub owner : Place → Option Member
owner (OfObject k f) = Some (Cell k)
owner _ = None

-- A member is live by the rule of this number where the first and the second member, if any are named, are live.
pub data Rule (p : Program) (h : Heap) : Member → (rule : ℕ) → (from also : Option Member) → Type 0 where
  -- 1. The method of the entry `main`.
  main : Rule p h (Method p.main) 1 None None
  -- 2. The method of a numbered entry.
  entry : (i : ℕ) {e : Handler} → slice_get p.handlers i ≡ Some e → Rule p h (Method e.method) 2 None None
  -- 3. The method of a component that a live method calls or names as a value.
  of_component : (i : ℕ) (s : Step) {m n : ℕ} → slice_get (steps_of p m) i ≡ Some s → component_method s ≡ Some n
      → Rule p h (Method n) 3 (Some (Method m)) None
  -- 4. Where a live method calls or names a method on a static class: the one that a live object of this class or below it finds.
  of_object : (i : ℕ) (s : Step) (x : Asked) (c : ℕ) {m k n : ℕ} → slice_get (steps_of p m) i ≡ Some s → asked s ≡ Some x
      → class_in (slice_get h.cells k) ≡ Some c → is_below p.tables c x.class ≡ true → dispatch p.tables c x.selector ≡ Some n
      → Rule p h (Method n) 4 (Some (Method m)) (Some (Cell k))
  -- 5. A field of a component that a live method reads.
  component_field : (i : ℕ) {m f : ℕ} → slice_get (steps_of p m) i ≡ Some (ComponentField f) → Rule p h (Field f) 5 (Some (Method m)) None
  -- 6. A field of a class that a live method reads.
  class_field : (i at : ℕ) {m f : ℕ} → slice_get (steps_of p m) i ≡ Some (FieldOf at f) → Rule p h (Field f) 6 (Some (Method m)) None
  -- 7. The object or array that a live field of a component holds.
  in_component : (v : CoreValue) {f k : ℕ} → value_at p.tables h (OfComponent f) ≡ Some v → cell_in v ≡ Some k
      → Rule p h (Cell k) 7 (Some (Field f)) None
  -- 8. The method and the receiver of the delegate in a live field of a component, a live field of a live object, or a live array.
  in_delegate : (x : Place) (v : CoreValue) {y : Member} → value_at p.tables h x ≡ Some v → Keeps v y → Rule p h y 8 (holder x) (owner x)
  -- 9. The object or array that a live field of a live object holds.
  in_object : (v : CoreValue) {f o k : ℕ} → value_at p.tables h (OfObject o f) ≡ Some v → cell_in v ≡ Some k
      → Rule p h (Cell k) 9 (Some (Field f)) (Some (Cell o))
  -- 10. The object or array that an element of a live array holds.
  in_array : (i : ℕ) (v : CoreValue) {a k : ℕ} → value_at p.tables h (OfArray a i) ≡ Some v → cell_in v ≡ Some k
      → Rule p h (Cell k) 10 (Some (Cell a)) None
  -- 11. The array of a string literal in a live method; literals have the first cells, in order of the text.
  literal : (i : ℕ) {m k : ℕ} → slice_get (steps_of p m) i ≡ Some (Literal k) → Rule p h (Cell k) 11 (Some (Method m)) None

-- A member is one of the program, or a cell of the heap.
abbrev pub IsThere : Program → Heap → Member → Type 0
IsThere p h (Method m) = m < length p.tables.methods
IsThere p h (Field f) = f < length p.tables.fields
IsThere p h (Cell k) = k < length h.cells

-- What is live: a member that is there, by a rule whose premises are live. Where none is named, none has to be.
pub data Live (p : Program) (h : Heap) : Option Member → Type 0 where
  none : Live p h None
  by : {y : Member} {n : ℕ} {from also : Option Member} → Rule p h y n from also → IsThere p h y → Live p h from → Live p h also
      → Live p h (Some y)

-- ---- the least set

-- A member, where one is named, is in a set.
abbrev pub InSet : (Member → Type 0) → Option Member → Type 0
InSet S None = Unit {0}
InSet S (Some y) = S y

-- A set of members that the rules close: it has each member that is there by a rule whose premises it has.
abbrev pub Closed : Program → Heap → (Member → Type 0) → Type 0
Closed p h S =
    (y : Member) (n : ℕ) (from also : Option Member) → Rule p h y n from also → IsThere p h y → InSet S from → InSet S also → S y
