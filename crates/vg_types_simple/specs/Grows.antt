-- What a statement promises beside what it does.
use Rattle.std.specs.Prelude.{◌≡◌, ℕ, List, ◌++◌, Option}
use Rattle.vg_syntax.specs.Tree.{Node}
use Rattle.vg_tree.specs.declared.node.Node as held_node
use Rattle.vg_source.specs.Resolved.{Fresh}
use Rattle.vg_rules.specs.Breach.{Breach}
use Rattle.vg_rules.specs.Bodies.{breach}
use Rattle.vg_core.specs.declared.types.CoreType.{CoreType}
use Rattle.vg_core.specs.declared.program.Tables.{Tables}
use Rattle.vg_types_tables.specs.declared.declared.Declared.{Declared}
use Rattle.vg_types_tables.specs.declared.locals.InScope.{InScope}
use Rattle.vg_types_tables.specs.declared.locals.Locals.{Locals}
use Rattle.vg_types_tables.specs.declared.body.BodyKind.{BodyKind}
use Rattle.vg_types_tables.specs.Views.{declarations_at, body_view, scope_view}
use Rattle.vg_types_tables.specs.Promises.{AreDeclared}

-- The first breach in a statement or a row of them.
abbrev pub first_breach : (texts : List (List ℕ)) → held_node.Node → Declared → BodyKind → Locals → Node → Option Breach
first_breach texts root d k ls e = breach (declarations_at texts root) (body_view texts d k) e Fresh (scope_view texts d ls)

-- Locals are only added, and their types are known.
pub record Grows (p : Tables) (old new : Locals) : Type 0 where
  pub more_names : List InScope
  pub more_types : List CoreType
  pub names : new.in_scope ≡ old.in_scope ++ more_names
  pub types : new.declared ≡ old.declared ++ more_types
  pub known : AreDeclared p new
