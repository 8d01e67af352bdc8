-- What is live in a program, once its constructors left a heap: eleven rules, and the least set that is closed under them.
use Rattle.std.specs.Prelude.{◌≡◌, ℕ, true, Option, Some, None, slice_get}
use Rattle.vg_source.specs.Names.{Name}
use Rattle.vg_source.specs.Values.{Value, Obj, Arr, Bound, Heap}
use Rattle.vg_source.specs.Steps.{Step, Literal, ComponentField, Handler, Source}
use Rattle.vg_source.specs.Steps.{Field as FieldOf, Method as TheMethod}
use Rattle.vg_source.specs.State.{is_below, owner_of, class_at}
use Rattle.vg_live_source.specs.Members.{Member, Method, Field, Cell, Place, OfComponent, OfObject, OfArray, value_at}
use Rattle.vg_live_source.specs.Uses.{steps_of, component_method, Asked, asked}

-- The object or array that a value refers to, by its cell.
abbrev pub cell_in : Value → Option ℕ
cell_in (Obj k) = Some k
cell_in (Arr k) = Some k
cell_in _ = None

-- What a delegate keeps: its method, and the receiver where it has one.
pub data Keeps : Value → Member → Type 0 where
  method : {r : Option ℕ} {c m : Name} → Keeps (Bound r c m) (Method c m)
  receiver : {k : ℕ} {c m : Name} → Keeps (Bound (Some k) c m) (Cell k)

-- What holds a place: the field, and of an array the array.
abbrev pub holder : Place → Option Member
holder (OfComponent c f) = Some (Field c f)
holder (OfObject k c f) = Some (Field c f)
holder (OfArray k i) = Some (Cell k)

-- The object whose field a place is.
abbrev pub owner : Place → Option Member
owner (OfObject k c f) = Some (Cell k)
owner _ = None

-- A member is live by the rule of this number where the first and the second member, if any are named, are live.
pub data Rule (p : Source) (h : Heap) : Member → (rule : ℕ) → (from also : Option Member) → Type 0 where
  -- 1. The method of the entry `main`.
  main : {c m : Name} → p.main ≡ TheMethod c m → Rule p h (Method c m) 1 None None
  -- 2. The method of a numbered entry.
  entry : (i : ℕ) {e : Handler} {c m : Name} → slice_get p.handlers i ≡ Some e → e.target ≡ TheMethod c m → Rule p h (Method c m) 2 None None
  -- 3. The method of a component that a live method calls or names as a value.
  of_component : (i : ℕ) (s : Step) {c m : Name} {y : Member} → slice_get (steps_of p c m) i ≡ Some s → component_method s ≡ Some y
      → Rule p h y 3 (Some (Method c m)) None
  -- 4. Where a live method calls or names a method on a static class: the one that a live object of this class or below it finds.
  of_object : (i : ℕ) (s : Step) (x : Asked) (d : Name) {c m o : Name} {k : ℕ} → slice_get (steps_of p c m) i ≡ Some s → asked s ≡ Some x
      → class_at h k ≡ Some d → is_below p d x.class ≡ true → owner_of p d x.name ≡ Some o
      → Rule p h (Method o x.name) 4 (Some (Method c m)) (Some (Cell k))
  -- 5. A field of a component that a live method reads.
  component_field : (i : ℕ) {c m d f : Name} → slice_get (steps_of p c m) i ≡ Some (ComponentField d f)
      → Rule p h (Field d f) 5 (Some (Method c m)) None
  -- 6. A field of a class that a live method reads.
  class_field : (i at : ℕ) {c m d f : Name} → slice_get (steps_of p c m) i ≡ Some (FieldOf at d f)
      → Rule p h (Field d f) 6 (Some (Method c m)) None
  -- 7. The object or array that a live field of a component holds.
  in_component : (v : Value) {c f : Name} {k : ℕ} → value_at h (OfComponent c f) ≡ Some v → cell_in v ≡ Some k
      → Rule p h (Cell k) 7 (Some (Field c f)) None
  -- 8. The method and the receiver of the delegate in a live field of a component, a live field of a live object, or a live array.
  in_delegate : (x : Place) (v : Value) {y : Member} → value_at h x ≡ Some v → Keeps v y → Rule p h y 8 (holder x) (owner x)
  -- 9. The object or array that a live field of a live object holds.
  in_object : (v : Value) {c f : Name} {o k : ℕ} → value_at h (OfObject o c f) ≡ Some v → cell_in v ≡ Some k
      → Rule p h (Cell k) 9 (Some (Field c f)) (Some (Cell o))
  -- 10. The object or array that an element of a live array holds.
  in_array : (i : ℕ) (v : Value) {a k : ℕ} → value_at h (OfArray a i) ≡ Some v → cell_in v ≡ Some k
      → Rule p h (Cell k) 10 (Some (Cell a)) None
  -- 11. The array of a string literal in a live method; literals have the first cells, in order of the text.
  literal : (i : ℕ) {c m : Name} {k : ℕ} → slice_get (steps_of p c m) i ≡ Some (Literal k) → Rule p h (Cell k) 11 (Some (Method c m)) None

-- What is live: a member by a rule whose premises are live. Where none is named, none has to be.
pub data Live (p : Source) (h : Heap) : Option Member → Type 0 where
  none : Live p h None
  by : {y : Member} {n : ℕ} {from also : Option Member} → Rule p h y n from also → Live p h from → Live p h also → Live p h (Some y)

-- ---- the least set

-- A member, where one is named, is in a set.
abbrev pub InSet : (Member → Type 0) → Option Member → Type 0
InSet S None = Unit {0}
InSet S (Some y) = S y

-- A set of members that the rules close: it has each member by a rule whose premises it has.
abbrev pub Closed : Source → Heap → (Member → Type 0) → Type 0
Closed p h S = (y : Member) (n : ℕ) (from also : Option Member) → Rule p h y n from also → InSet S from → InSet S also → S y
