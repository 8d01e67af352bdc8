-- What the data of the checker stand for.
use Rattle.std.specs.Prelude.{ℕ, List, [], ◌∷◌, map, reverse, slice_get, Option, Some, None}
use Rattle.vg_meaning.specs.Code.{Code}
use Rattle.vg_syntax.specs.Tree.{Node}
use Rattle.vg_syntax.specs.Numbering.{numbered}
use Rattle.vg_tree.specs.declared.node.Node as held_node
use Rattle.vg_tree.specs.Held.{text_at, node_at}
use Rattle.vg_source.specs.Types.{StaticType, NoType, MoreTypes}
use Rattle.vg_source.specs.Declared.{Member, AField, AMethod}
use Rattle.vg_source.specs.Steps as source
use Rattle.vg_source.specs.Resolved as resolved
use Rattle.vg_source.specs.Resolved.{Scope, Typed}
use Rattle.vg_rules.specs.Bodies.{Body}
use Rattle.vg_core.specs.declared.types.CoreType.{CoreType}
use Rattle.vg_core.specs.declared.program.Owner.{Owner}
use Rattle.vg_core.specs.declared.program.Owner.TheVariants.{InClass, InComponent}
use Rattle.vg_core.specs.declared.program.Field.{Field}
use Rattle.vg_core.specs.declared.program.Method.{Method}
use Rattle.vg_core.specs.declared.step.Step.{Step}
use Rattle.vg_core.specs.declared.code.Code as held_code
use Rattle.vg_core.specs.HeldProgram.{code_of}
use Rattle.vg_core.specs.Naming.{Naming, naming_of, named_type, named_step, named_code}
use Rattle.vg_types_tables.specs.declared.declared.Declared.{Declared}
use Rattle.vg_types_tables.specs.declared.declared.MemberNumber.{MemberNumber}
use Rattle.vg_types_tables.specs.declared.declared.MemberNumber.TheVariants.{Field as FieldNumber, Method as MethodNumber}
use Rattle.vg_types_tables.specs.declared.locals.InScope.{InScope}
use Rattle.vg_types_tables.specs.declared.locals.Locals.{Locals}
use Rattle.vg_types_tables.specs.declared.body.BodyKind.{BodyKind}
use Rattle.vg_types_tables.specs.declared.judged.Head.{Head}
use Rattle.vg_types_tables.specs.declared.judged.Head.TheVariants.{Nothing, Value, Component, Device, OwnMethod, ItsMethod}

-- The declarations of a text, from their held row: the first has the number 1.
abbrev pub declarations_at : List (List ℕ) → held_node.Node → Node
declarations_at texts root = numbered 1 (node_at texts root)

module _ (texts : List (List ℕ)) (d : Declared) where
  -- The names of the numbers in the tables.
  abbrev pub naming : Naming
  naming = naming_of texts d.tables

  -- A type.
  abbrev pub type_view : CoreType → StaticType
  type_view t = named_type naming d.tables t

  -- Types as a row.
  abbrev pub row_view : List CoreType → StaticType
  row_view [] = NoType
  row_view (t ∷ ts) = MoreTypes (type_view t) (row_view ts)

  -- The types of the parameters of a method, and that of its result.
  abbrev pub params_view : Option Method → StaticType
  params_view (Some m) = row_view m.params
  params_view None = NoType

  abbrev pub result_view : Option Method → StaticType
  result_view (Some m) = type_view m.result
  result_view None = NoType

  -- A field, with its owner.
  abbrev pub field_view : ℕ → Option Field → Option Member
  field_view f (Some y) = Some (AField (naming.field f).owner (type_view y.type_))
  field_view f None = None

  -- A member.
  abbrev pub member_view : MemberNumber → Option Member
  member_view (FieldNumber f) = field_view f (slice_get d.tables.fields f)
  member_view (MethodNumber m) = Some (AMethod (params_view (slice_get d.tables.methods m)) (result_view (slice_get d.tables.methods m)))

  -- ---- bodies

  -- Whose members are seen.
  abbrev pub owner_view : Option Owner → resolved.Owner
  owner_view (Some (InClass c)) = resolved.InClass (naming.class c)
  owner_view (Some (InComponent k)) = resolved.InComponent (naming.component k)
  owner_view None = resolved.NoOwner

  abbrev pub body_view : BodyKind → Body
  body_view k = record { owner = owner_view k.owner; result = type_view k.result; in_loop = k.in_loop }

  -- A parameter or local in scope.
  abbrev pub typed_view : InScope → Typed
  typed_view l = record { name = text_at texts l.name; type = type_view l.type_; number = l.number }

  -- The scope, the newest first.
  abbrev pub scope_view : Locals → Scope
  scope_view ls = record { names = reverse (map typed_view ls.in_scope); declared = reverse (map type_view ls.declared) }

  -- What is left for a suffix.
  abbrev pub head_view : Head → resolved.Head
  head_view Nothing = resolved.NoHead
  head_view (Value t) = resolved.IsValue (type_view t)
  head_view (Component k) = resolved.IsComponent (naming.component k)
  head_view (Device x) = resolved.IsDevice (text_at texts x)
  head_view (OwnMethod at c m) =
      resolved.OwnMethod at (naming.class c) (naming.method m).name (params_view (slice_get d.tables.methods m)) (result_view (slice_get d.tables.methods m))
  head_view (ItsMethod m) =
      resolved.ItsMethod (naming.method m).owner (naming.method m).name (params_view (slice_get d.tables.methods m))
      (result_view (slice_get d.tables.methods m))

  -- ---- code

  abbrev pub step_view : Step → source.Step
  step_view s = named_step naming d.tables s

  abbrev pub code_view : held_code.Code → Code source.Step
  code_view c = named_code naming d.tables (code_of c)
