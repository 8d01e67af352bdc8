-- What a name stands for.
use Rattle.std.specs.Prelude.{◌≡◌, ℕ, Bool, true, false, List, Option, Some, None}
use Rattle.vg_meaning.specs.Code.{Do}
use Rattle.vg_tree.specs.declared.node.Node as held_node
use Rattle.vg_source.specs.Names.{Name}
use Rattle.vg_source.specs.Steps as source
use Rattle.vg_source.specs.Resolved.{Resolved, in_front, resolved_name, top_name}
use Rattle.vg_rules.specs.Bodies.{name_keeps}
use Rattle.vg_core.specs.declared.types.CoreType.TheVariants.{ClassType}
use Rattle.vg_core.specs.declared.program.Owner.TheVariants.{InClass}
use Rattle.vg_types_tables.specs.declared.declared.Declared.{Declared}
use Rattle.vg_types_tables.specs.declared.locals.Locals.{Locals}
use Rattle.vg_types_tables.specs.declared.body.BodyKind.{BodyKind}
use Rattle.vg_types_tables.specs.declared.judged.Head.TheVariants.{Nothing, Value}
use Rattle.vg_types_tables.specs.Views.{declarations_at, owner_view, scope_view}
use Rattle.vg_types_leaves.specs.declared.reached.Reached.{Reached}
use Rattle.vg_types_leaves.specs.declared.name.Named.{Named}
use Rattle.vg_types_leaves.specs.Reached.{front, reached_at, IsReached}

-- A member of `this`, where it is one.
abbrev pub with_this : Bool → Resolved → Resolved
with_this true m = in_front (Do source.This) m
with_this false m = m

-- What waits for what is reached is `this`, or it waits for nothing.
abbrev pub FrontFor : BodyKind → Bool → Reached → Type 0
FrontFor k true r = (c : ℕ) × (front r ≡ Value (ClassType c)) × (k.owner ≡ Some (InClass c))
FrontFor k false r = front r ≡ Nothing

abbrev pub IsFront : BodyKind → Named → Type 0
IsFront k n = FrontFor k n.of_this n.reached

module _ (texts : List (List ℕ)) (root : held_node.Node) (d : Declared) (k : BodyKind) (ls : Locals) where
  -- A name stands for what is reached; or it breaks rule 14, but for components and devices.
  abbrev pub IsNamed : (at : ℕ) → Name → Option Named → Type 0
  IsNamed at x (Some n) =
      (name_keeps (declarations_at texts root) (owner_view texts d k.owner) x (scope_view texts d ls) ≡ true)
      × (resolved_name (declarations_at texts root) (owner_view texts d k.owner) at x (scope_view texts d ls)
      ≡ with_this n.of_this (reached_at texts d at (scope_view texts d ls) n.reached))
      × IsReached texts d ls n.reached × IsFront k n
  IsNamed at x None =
      (name_keeps (declarations_at texts root) (owner_view texts d k.owner) x (scope_view texts d ls) ≡ false)
      × (resolved_name (declarations_at texts root) (owner_view texts d k.owner) at x (scope_view texts d ls)
      ≡ top_name (declarations_at texts root) x (scope_view texts d ls))
