-- Which methods a live method of a text may call, once its constructors left a heap.
use Rattle.std.specs.Prelude.{◌≡◌, ◌⊎◌, ℕ, true, Option, Some, slice_get}
use Rattle.vg_syntax.specs.Tree.{Node}
use Rattle.vg_source.specs.Names.{Name}
use Rattle.vg_source.specs.Types.{StaticType}
use Rattle.vg_source.specs.Values.{Bound, Heap}
use Rattle.vg_source.specs.Steps.{Step, ComponentMethod, MethodOf, CallMethod, CallComponent, CallValue, Source}
use Rattle.vg_source.specs.Steps.{Method as TheMethod}
use Rattle.vg_source.specs.State.{is_below, owner_of, class_at, handler_of}
use Rattle.vg_source.specs.Program.{source_of}
use Rattle.vg_live_source.specs.Members.{Method, Cell, Place, value_at}
use Rattle.vg_live_source.specs.Rules.{Live, holder, owner}
use Rattle.vg_live_source.specs.Uses.{steps_of}
use Rattle.vg_calls_source.specs.Methods.{MethodName, HasTypes}

module _ (p : Source) (h : Heap) where
  -- A method is live.
  abbrev pub IsLive : MethodName → Type 0
  IsLive m = Live p h (Some (Method m.owner m.name))

  -- A step stands in the body of a live method.
  pub record Has (m : MethodName) (s : Step) : Type 0 where
    pub live : IsLive m
    pub place : ℕ
    pub stands : slice_get (steps_of p m.owner m.name) place ≡ Some s

  -- A live object of class c or below it finds this method for a name.
  pub record Finds (c name : Name) (m : MethodName) : Type 0 where
    pub cell : ℕ
    pub class : Name
    pub live : Live p h (Some (Cell cell))
    pub is : class_at h cell ≡ Some class
    pub below : is_below p class c ≡ true
    pub finds : owner_of p class name ≡ Some m.owner
    pub named : m.name ≡ name

  -- There may be delegates of a method: a live method names it as a value, of a component or on a static class, or a live place holds one.
  pub data HasDelegates : MethodName → Type 0 where
    of_component : (m n : MethodName) → Has m (ComponentMethod n.owner n.name) → HasDelegates n
    of_object : (m n : MethodName) (at : ℕ) (c name : Name) → Has m (MethodOf at c name) → Finds c name n → HasDelegates n
    held : (n : MethodName) (x : Place) (receiver : Option ℕ) → Live p h (holder x) → Live p h (owner x)
        → value_at h x ≡ Some (Bound receiver n.owner n.name) → HasDelegates n

-- A live method may call another: of a component, on a static class, or by a delegate with the types of its parameters and of its result.
pub data Calls (text : Node) (h : Heap) (m : MethodName) : MethodName → Type 0 where
  of_component : (n : MethodName) (count : ℕ) → Has (source_of text) h m (CallComponent n.owner n.name count) → Calls text h m n
  of_object : (n : MethodName) (at : ℕ) (c name : Name) (count : ℕ) → Has (source_of text) h m (CallMethod at c name count)
      → Finds (source_of text) h c name n → Calls text h m n
  by_delegate : (n : MethodName) (at count : ℕ) (ps r : StaticType) → Has (source_of text) h m (CallValue at count ps r)
      → HasDelegates (source_of text) h n → HasTypes text n ps r → Calls text h m n

-- The method of the entry `main`, or of the entry of an interrupt.
abbrev pub IsEntry : Node → MethodName → Type 0
IsEntry text m =
    ((source_of text).main ≡ TheMethod m.owner m.name) ⊎ ((vector : ℕ) × (handler_of (source_of text).handlers vector ≡ Some (TheMethod m.owner m.name)))
