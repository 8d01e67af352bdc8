-- What the functions over bodies promise, beside the first breach.
use Rattle.std.specs.Prelude.{◌≡◌, ℕ, List, [], ◌∷◌, slice_get, Option, Some, None}
use Rattle.std.specs.List.{AllByRecursion}
use Rattle.vg_meaning.specs.Code.{Code}
use Rattle.vg_meaning.specs.Shapes.{Fits}
use Rattle.vg_syntax.specs.Tree.{Node}
use Rattle.vg_tree.specs.declared.node.Node as held_node
use Rattle.vg_source.specs.Resolved.{Context, Fresh, NoHead, IsValue, Resolved, settled, resolved}
use Rattle.vg_core.specs.declared.types.CoreType.{CoreType}
use Rattle.vg_core.specs.declared.types.CoreType.TheVariants.{ClassType}
use Rattle.vg_core.specs.declared.program.Owner.{Owner}
use Rattle.vg_core.specs.declared.program.Owner.TheVariants.{InClass, InComponent}
use Rattle.vg_core.specs.declared.program.Method.{Method}
use Rattle.vg_core.specs.declared.step.Step.{Step}
use Rattle.vg_core.specs.declared.program.Tables.{Tables}
use Rattle.vg_core.specs.HeldProgram.{code_of}
use Rattle.vg_core.specs.Tables as tables
use Rattle.vg_core.specs.Typing.{Takes, Sub, known}
use Rattle.vg_types_tables.specs.declared.declared.Declared.{Declared}
use Rattle.vg_types_tables.specs.declared.locals.InScope.{InScope}
use Rattle.vg_types_tables.specs.declared.locals.Locals.{Locals}
use Rattle.vg_types_tables.specs.declared.body.BodyKind.{BodyKind}
use Rattle.vg_types_tables.specs.declared.judged.Head.{Head}
use Rattle.vg_types_tables.specs.declared.judged.Head.TheVariants.{Nothing, Value, Component, OwnMethod, ItsMethod}
use Rattle.vg_types_tables.specs.declared.judged.Judged.{Judged}
use Rattle.vg_types_tables.specs.declared.judged.Standing.{Standing}
use Rattle.vg_types_tables.specs.declared.judged.Storing.{Storing}
use Rattle.vg_types_tables.specs.declared.judged.Aimed.{Aimed}
use Rattle.vg_types_tables.specs.declared.judged.Done.{Done}
use Rattle.vg_types_tables.specs.Views.{declarations_at, naming, type_view, owner_view, scope_view, head_view, step_view, code_view}
use Rattle.vg_types_tables.specs.Declares.{IsClass, IsComponent, IsKnown}

-- ---- what is asked of what is handed in

-- A name in scope has its type under its number, and the type is known.
abbrev pub IsDeclared : Tables → Locals → InScope → Type 0
IsDeclared p ls l = (slice_get ls.declared l.number ≡ Some l.type_) × IsKnown p l.type_

-- All names in scope.
abbrev pub AreDeclared : Tables → Locals → Type 0
AreDeclared p ls = AllByRecursion (IsDeclared p ls) ls.in_scope

-- An owner is in the tables.
abbrev pub IsOwner : Tables → Option Owner → Type 0
IsOwner p (Some (InClass c)) = IsClass p c
IsOwner p (Some (InComponent k)) = IsComponent p k
IsOwner p None = Unit {0}

-- A body stands in what is declared.
pub record IsBody (p : Tables) (k : BodyKind) : Type 0 where
  pub owner : IsOwner p k.owner
  pub result : IsKnown p k.result

-- The method that objects of class c have for its selector, which has its name.
abbrev pub IsOwnMethod : (texts : List (List ℕ)) → Declared → (c m : ℕ) → Type 0
IsOwnMethod texts d c m =
    IsClass d.tables c × (y : Method) × (slice_get d.tables.methods m ≡ Some y) × (tables.dispatch d.tables c y.selector ≡ Some m)
    × ((naming texts d).selector y.selector ≡ ((naming texts d).method m).name)

-- A method of a component.
abbrev pub IsItsMethod : Declared → (m : ℕ) → Type 0
IsItsMethod d m = (y : Method) × (k : ℕ) × (slice_get d.tables.methods m ≡ Some y) × (y.owner ≡ InComponent k)

-- What is left for a suffix is in the tables.
abbrev pub IsHead : (texts : List (List ℕ)) → Declared → Head → Type 0
IsHead texts d (Value t) = IsKnown d.tables t
IsHead texts d (Component k) = IsComponent d.tables k
IsHead texts d (OwnMethod at c m) = IsOwnMethod texts d c m
IsHead texts d (ItsMethod m) = IsItsMethod d m
IsHead texts d _ = Unit {0}

-- ---- what code stands for

module _ (texts : List (List ℕ)) (root : held_node.Node) (d : Declared) (k : BodyKind) where
  -- What a node stands for, behind this context.
  abbrev pub meant : Locals → Node → Context → Resolved
  meant ls e b = resolved (declarations_at texts root) (owner_view texts d k.owner) e b (scope_view texts d ls)

  -- What a whole expression stands for.
  abbrev pub whole : Locals → Node → Resolved
  whole ls e = settled (meant ls e Fresh)

  -- A whole expression leaves a value of this type, by this code, and the scope as it was.
  pub record Stands (ls : Locals) (e : Node) (j : Judged) : Type 0 where
    pub head : (whole ls e).head ≡ IsValue (type_view texts d j.type_)
    pub does : code_view texts d j.code ≡ (whole ls e).does
    pub scope : (whole ls e).scope ≡ scope_view texts d ls
    pub known : IsKnown d.tables j.type_

  -- A primary, a suffix or a row of them, behind this context.
  pub record Leaves (ls : Locals) (e : Node) (b : Context) (j : Standing) : Type 0 where
    pub head : (meant ls e b).head ≡ head_view texts d j.head
    pub does : code_view texts d j.code ≡ (meant ls e b).does
    pub scope : (meant ls e b).scope ≡ scope_view texts d ls
    pub known : IsHead texts d j.head

  -- The place that a node is, behind this context.
  pub record IsPlace (ls : Locals) (e : Node) (b : Context) (j : Storing) : Type 0 where
    pub head : (meant ls e b).head ≡ IsValue (type_view texts d j.type_)
    pub aims : code_view texts d j.aims ≡ (meant ls e b).aims
    pub store : (meant ls e b).store ≡ Some (step_view texts d j.store)
    pub known : IsKnown d.tables j.type_

  -- A node is this place, or is no place.
  abbrev pub Aims : Locals → Node → Context → Aimed → Type 0
  Aims ls e b j = on_place j.place
    where
      on_place : Option Storing → Type 0
      on_place (Some s) = IsPlace ls e b s
      on_place None = (meant ls e b).store ≡ None

  -- A statement or a row of them, from the locals before it to those behind it.
  pub record Does (old : Locals) (e : Node) (new : Locals) (j : Done) : Type 0 where
    pub head : (meant old e Fresh).head ≡ NoHead
    pub does : code_view texts d j.code ≡ (meant old e Fresh).does
    pub scope : (meant old e Fresh).scope ≡ scope_view texts d new

-- ---- what code is typed for

-- The owner for which code is typed: that whose members are seen; where none are seen, any.
abbrev pub Sees : Option Owner → Owner → Type 0
Sees (Some o) p = o ≡ p
Sees None p = Unit {0}

-- The types that wait, where this is left in front of those that wait.
abbrev pub waiting : Head → List CoreType → List CoreType
waiting (Value t) x = t ∷ x
waiting (OwnMethod at c m) x = ClassType c ∷ x
waiting _ x = x

module _ (p : Tables) (k : BodyKind) (ls : Locals) where
  -- Code leads from this head to that.
  abbrev pub Leads : Head → Code Step → Head → Type 0
  Leads h c h' = (o : Owner) (x : List CoreType) → Sees k.owner o
      → Fits (known p ls.declared o k.result) k.in_loop c (waiting h x) (waiting h' x)

  -- Code puts a value of this type in front of those that wait.
  abbrev pub Puts : Code Step → CoreType → Type 0
  Puts c t = Leads Nothing c (Value t)

  -- Behind this head, code and then a value that fits, and the store takes the value and all that waits for it.
  abbrev pub Stores : Head → Storing → Type 0
  Stores h s = (o : Owner) (x : List CoreType) → Sees k.owner o
      → (y : List CoreType) × Fits (known p ls.declared o k.result) k.in_loop (code_of s.aims) (waiting h x) y
      × ((u : CoreType) → Sub p u s.type_ → Takes p ls.declared o s.store (u ∷ y) x)

  -- The code of a statement: nothing waits before it and behind it.
  abbrev pub Runs : Code Step → Type 0
  Runs c = (o : Owner) → Sees k.owner o → Fits (known p ls.declared o k.result) k.in_loop c [] []
