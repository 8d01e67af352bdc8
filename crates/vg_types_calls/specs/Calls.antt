-- What is called or made behind arguments.
use Rattle.std.specs.Prelude.{◌≡◌, ℕ, List, [], ◌∷◌, ◌++◌, length, slice_get, Option, Some, None}
use Rattle.vg_syntax.specs.Tree.{Node}
use Rattle.vg_tree.specs.declared.node.Node as held_node
use Rattle.vg_source.specs.Names.{Name}
use Rattle.vg_source.specs.Types as source_type
use Rattle.vg_source.specs.Steps as source
use Rattle.vg_source.specs.Resolved.{Resolved, Scope, IsValue, call_suffix, then_step}
use Rattle.vg_rules.specs.Bodies.{Body, arguments_fit, call_keeps, making_keeps}
use Rattle.vg_core.specs.declared.types.CoreType.{CoreType}
use Rattle.vg_core.specs.declared.types.CoreType.TheVariants.{FunctionType}
use Rattle.vg_core.specs.declared.program.Class.{Class}
use Rattle.vg_core.specs.declared.program.Method.{Method}
use Rattle.vg_core.specs.declared.program.Owner.{Owner}
use Rattle.vg_core.specs.declared.program.Tables.{Tables}
use Rattle.vg_core.specs.State.{onto}
use Rattle.vg_core.specs.Tables.{IsRow}
use Rattle.vg_core.specs.Typing.{Takes, Subs}
use Rattle.vg_types_views.specs.ByText.{found}
use Rattle.vg_types_tables.specs.declared.declared.Declared.{Declared}
use Rattle.vg_types_tables.specs.declared.judged.Head.{Head}
use Rattle.vg_types_tables.specs.declared.judged.Head.TheVariants.{Nothing, Value, OwnMethod, ItsMethod}
use Rattle.vg_types_tables.specs.Views.{declarations_at, type_view, row_view, head_view, step_view}
use Rattle.vg_types_tables.specs.Declares.{IsKnown}
use Rattle.vg_types_tables.specs.Promises.{waiting}
use Rattle.vg_types_calls.specs.declared.call.Called.{Called}

-- The parameters of a method.
abbrev pub AreParamsOfMethod : Declared → (m : ℕ) → List CoreType → Type 0
AreParamsOfMethod d m ts = (y : Method) × (slice_get d.tables.methods m ≡ Some y) × (ts ≡ y.params)

-- The parameters of a delegate of this type; what is no delegate has any.
abbrev pub AreParamsOfValue : Declared → CoreType → List CoreType → Type 0
AreParamsOfValue d (FunctionType ps r) ts = IsRow d.tables ts ps
AreParamsOfValue d _ ts = Unit {0}

-- The parameters of what is called; what cannot be called has any.
abbrev pub AreParamsOf : Declared → Head → List CoreType → Type 0
AreParamsOf d (OwnMethod at c m) ts = AreParamsOfMethod d m ts
AreParamsOf d (ItsMethod m) ts = AreParamsOfMethod d m ts
AreParamsOf d (Value t) ts = AreParamsOfValue d t ts
AreParamsOf d _ ts = Unit {0}

-- The parameters of the construction of a class; what is no class has any.
abbrev pub AreMakingParams : Declared → Option ℕ → List CoreType → Type 0
AreMakingParams d (Some c) ts = (k : Class) × (slice_get d.tables.classes c ≡ Some k) × (ts ≡ k.params)
AreMakingParams d None ts = Unit {0}

-- The step takes values that fit the parameters, the last in front, and what waits below them, and leaves a value of the type.
pub record TakesArguments (p : Tables) (h : Head) (params : List CoreType) (count : ℕ) (c : Called) : Type 0 where
  pub takes : (locals : List CoreType) (o : Owner) (x us : List CoreType) → length us ≡ count → Subs p us (onto params [])
      → Takes p locals o c.step (us ++ waiting h x) (c.type_ ∷ x)
  pub known : IsKnown p c.type_

-- A call of what is left: the step behind the arguments, where they fit the parameters.
pub record IsCall (texts : List (List ℕ)) (d : Declared) (h : Head) (count at : ℕ) (c : Called) : Type 0 where
  pub takes : (params : List CoreType) → AreParamsOf d h params → TakesArguments d.tables h params count c
  pub keeps : (params : List CoreType) → AreParamsOf d h params → (ds : Node) (k : Body) (args : Node) (ls : Scope)
      → call_keeps ds k args (head_view texts d h) ls ≡ arguments_fit ds k args (row_view texts d params) ls
  pub means : (m : Resolved)
      → call_suffix at count m (head_view texts d h) ≡ then_step m (step_view texts d c.step) (IsValue (type_view texts d c.type_))

-- A new object of the class of this name: the step behind the arguments, where they fit the parameters.
pub record IsMaking (texts : List (List ℕ)) (root : held_node.Node) (d : Declared) (x : Name) (count at : ℕ) (c : Called) : Type 0 where
  pub takes : (params : List CoreType) → AreMakingParams d (found x d.classes) params → TakesArguments d.tables Nothing params count c
  pub keeps : (params : List CoreType) → AreMakingParams d (found x d.classes) params → (k : Body) (args : Node) (ls : Scope)
      → making_keeps (declarations_at texts root) k x args ls ≡ arguments_fit (declarations_at texts root) k args (row_view texts d params) ls
  pub means : (m : Resolved) → then_step m (source.NewObject at x count) (IsValue (source_type.ClassType x))
      ≡ then_step m (step_view texts d c.step) (IsValue (type_view texts d c.type_))
