-- What a name or a Member suffix reaches: what it stands for, and what the tables have of it.
use Rattle.std.specs.Prelude.{◌≡◌, ℕ, true, List, slice_get, Option, Some, None}
use Rattle.vg_meaning.specs.Code.{Code, Nothing as NoCode, Do}
use Rattle.vg_source.specs.Types.{RawType as RawOf, IntType as IntOf}
use Rattle.vg_source.specs.Steps as source
use Rattle.vg_source.specs.Resolved.{Scope, Resolved, NoHead, IsValue, single, nothing, place_at}
use Rattle.vg_core.specs.declared.types.CoreType.{CoreType}
use Rattle.vg_core.specs.declared.types.CoreType.TheVariants.{RawType, IntType, ClassType, ArrayType}
use Rattle.vg_core.specs.declared.step.Step.{Step}
use Rattle.vg_core.specs.declared.step.Step.TheVariants as step
use Rattle.vg_core.specs.declared.program.Field.{Field as SpecField}
use Rattle.vg_core.specs.declared.program.Owner.TheVariants.{InClass, InComponent}
use Rattle.vg_core.specs.HeldProgram.{code_of}
use Rattle.vg_core.specs.Tables.{is_below}
use Rattle.vg_types_tables.specs.declared.declared.Declared.{Declared}
use Rattle.vg_types_tables.specs.declared.locals.Locals.{Locals}
use Rattle.vg_types_tables.specs.declared.judged.Head.{Head}
use Rattle.vg_types_tables.specs.declared.judged.Head.TheVariants as head
use Rattle.vg_types_tables.specs.declared.judged.Storing.{Storing}
use Rattle.vg_types_tables.specs.Views.{type_view, head_view, step_view, scope_view}
use Rattle.vg_types_tables.specs.Declares.{IsKnown}
use Rattle.vg_types_tables.specs.Promises.{IsOwnMethod, IsItsMethod}
use Rattle.vg_types_leaves.specs.declared.reached.Reached.{Reached}
use Rattle.vg_types_leaves.specs.declared.reached.Reached.TheVariants.{Local, Field, Global, Register, Length, OwnMethod, ItsMethod}

-- What waits for it.
abbrev pub front : Reached → Head
front (Field c f t) = head.Value (ClassType c)
front (Length n) = head.Value (ArrayType n)
front (OwnMethod c m) = head.Value (ClassType c)
front _ = head.Nothing

-- What it leaves, at the node of this number.
abbrev pub reached_head : (at : ℕ) → Reached → Head
reached_head at (Local k t) = head.Value t
reached_head at (Field c f t) = head.Value t
reached_head at (Global f t) = head.Value t
reached_head at (Register a) = head.Value (RawType 8)
reached_head at (Length n) = head.Value IntType
reached_head at (OwnMethod c m) = head.OwnMethod at c m
reached_head at (ItsMethod m) = head.ItsMethod m

-- How its value is read.
abbrev pub reached_code : (at : ℕ) → Reached → Code Step
reached_code at (Local k t) = Do (step.Local k)
reached_code at (Field c f t) = Do (step.Field at f)
reached_code at (Global f t) = Do (step.ComponentField f)
reached_code at (Register a) = Do (step.Register a)
reached_code at (Length n) = Do (step.Length at n)
reached_code at (OwnMethod c m) = NoCode
reached_code at (ItsMethod m) = NoCode

-- A place that is set by one step, and its type.
abbrev pub SetBy : Step → CoreType → Option Storing → Type 0
SetBy s t (Some j) = (code_of j.aims ≡ NoCode) × (j.store ≡ s) × (j.type_ ≡ t)
SetBy s t None = ⊥

-- No place.
abbrev pub NoPlace : Option Storing → Type 0
NoPlace (Some j) = ⊥
NoPlace None = Unit {0}

-- How it is set, where it can be.
abbrev pub Places : (at : ℕ) → Reached → Option Storing → Type 0
Places at (Local k t) = SetBy (step.SetLocal k t) t
Places at (Field c f t) = SetBy (step.SetField at f) t
Places at (Global f t) = SetBy (step.SetComponentField f) t
Places at (Register a) = SetBy (step.SetRegister a) (RawType 8)
Places at _ = NoPlace

module _ (texts : List (List ℕ)) (d : Declared) where
  -- What it stands for, at the node of this number.
  abbrev pub reached_at : (at : ℕ) → Scope → Reached → Resolved
  reached_at at ls (Local k t) = place_at NoCode (source.SetLocal k) (single (source.Local k) (IsValue (type_view texts d t)) ls)
  reached_at at ls (Field c f t) =
      place_at NoCode (step_view texts d (step.SetField at f)) (single (step_view texts d (step.Field at f)) (IsValue (type_view texts d t)) ls)
  reached_at at ls (Global f t) =
      place_at NoCode (step_view texts d (step.SetComponentField f)) (single (step_view texts d (step.ComponentField f)) (IsValue (type_view texts d t)) ls)
  reached_at at ls (Register a) = place_at NoCode (source.SetRegister a) (single (source.Register a) (IsValue (RawOf 8)) ls)
  reached_at at ls (Length n) = single (step_view texts d (step.Length at n)) (IsValue IntOf) ls
  reached_at at ls (OwnMethod c m) = nothing (head_view texts d (head.OwnMethod at c m)) ls
  reached_at at ls (ItsMethod m) = nothing (head_view texts d (head.ItsMethod m)) ls

  -- A field whose type this is.
  abbrev pub IsFieldOf : (f : ℕ) → CoreType → (SpecField → Type 0) → Type 0
  IsFieldOf f t P = (y : SpecField) × (slice_get d.tables.fields f ≡ Some y) × (y.type_ ≡ t) × IsKnown d.tables t × P y

  -- What the tables and the locals have of it.
  abbrev pub IsReached : Locals → Reached → Type 0
  IsReached ls (Local k t) = (slice_get ls.declared k ≡ Some t) × IsKnown d.tables t
  IsReached ls (Field c f t) = IsFieldOf f t (λ y. (e : ℕ) × (y.owner ≡ InClass e) × (is_below d.tables c e ≡ true))
  IsReached ls (Global f t) = IsFieldOf f t (λ y. (k : ℕ) × (y.owner ≡ InComponent k))
  IsReached ls (Register a) = Unit {0}
  IsReached ls (Length n) = Unit {0}
  IsReached ls (OwnMethod c m) = IsOwnMethod texts d c m
  IsReached ls (ItsMethod m) = IsItsMethod d m

  -- A node stands for what is reached, or leaves nothing.
  abbrev pub Reaches : (at : ℕ) → Locals → Resolved → Option Reached → Type 0
  Reaches at ls m (Some r) = (m ≡ reached_at at (scope_view texts d ls) r) × IsReached ls r
  Reaches at ls m None = m ≡ nothing NoHead (scope_view texts d ls)
