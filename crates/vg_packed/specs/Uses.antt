-- What live methods and live places have to do with methods: which a delegate may be of, and which may be called.
use Rattle.std.specs.Prelude.{◌≡◌, ℕ, true, Option, Some, None, slice_get}
use Rattle.vg_core.specs.declared.heap.Heap.{Heap}
use Rattle.vg_core.specs.declared.member.Member.TheVariants.{Method, Cell}
use Rattle.vg_core.specs.declared.program.Method.{Method as TheMethod}
use Rattle.vg_core.specs.declared.step.Step.{Step}
use Rattle.vg_core.specs.declared.step.Step.TheVariants.{ComponentMethod, MethodOf, CallMethod, CallComponent, CallValue, SetComponentField, SetField, SetItem}
use Rattle.vg_core.specs.declared.value.CoreValue.TheVariants.{Bound}
use Rattle.vg_core.specs.Heap.{Place, class_in, value_at}
use Rattle.vg_core.specs.Program.{Program}
use Rattle.vg_core.specs.Tables.{is_below, dispatch}
use Rattle.vg_live.specs.Uses.{steps_of}
use Rattle.vg_live.specs.Rules.{Live, holder, owner}

-- A step stands in the body of a live method.
pub record Has (p : Program) (h : Heap) (m : ℕ) (s : Step) : Type 0 where
  pub live : Live p h (Some (Method m))
  pub place : ℕ
  pub stands : slice_get (steps_of p m) place ≡ Some s

-- A live object of class c or below it finds the method n for a selector.
pub record Finds (p : Program) (h : Heap) (c selector n : ℕ) : Type 0 where
  pub cell : ℕ
  pub class : ℕ
  pub live : Live p h (Some (Cell cell))
  pub is : class_in (slice_get h.cells cell) ≡ Some class
  pub below : is_below p.tables class c ≡ true
  pub finds : dispatch p.tables class selector ≡ Some n

-- Delegates of a method may be there in a run: a live method names it as a value, of a component or on live objects, or a live place holds
-- one.
pub data HasDelegates (p : Program) (h : Heap) : ℕ → Type 0 where
  of_component : (m : ℕ) {n : ℕ} → Has p h m (ComponentMethod n) → HasDelegates p h n
  of_object : (m at c s : ℕ) {n : ℕ} → Has p h m (MethodOf at c s) → Finds p h c s n → HasDelegates p h n
  held : (x : Place) (receiver : Option ℕ) {n : ℕ} → Live p h (holder x) → Live p h (owner x) → value_at p.tables h x ≡ Some (Bound receiver n)
      → HasDelegates p h n

-- A live method may call a method: of a component, on a live object, or by a delegate of this function type.
pub data Calls (p : Program) (h : Heap) (m : ℕ) : ℕ → Type 0 where
  of_component : (count : ℕ) {n : ℕ} → Has p h m (CallComponent n count) → Calls p h m n
  of_object : (at c s count : ℕ) {n : ℕ} → Has p h m (CallMethod at c s count) → Finds p h c s n → Calls p h m n
  by_delegate : (at count : ℕ) (y : TheMethod) {n : ℕ} → Has p h m (CallValue at count y.function) → slice_get p.tables.methods n ≡ Some y
      → HasDelegates p h n → Calls p h m n

-- The field that a step assigns.
abbrev pub assigned_field : Step → Option ℕ
assigned_field (SetComponentField f) = Some f
assigned_field (SetField at f) = Some f
assigned_field _ = None

-- The type of the elements of the arrays to which a step assigns, by its number.
abbrev pub assigned_items : Step → Option ℕ
assigned_items (SetItem at t) = Some t
assigned_items _ = None
