-- Constructors, and what is made with them.
use Rattle.std.specs.Prelude.{◌≡◌, ℕ, List, ◌++◌, length, Option, Some}
use Rattle.vg_syntax.specs.Tree.{Param, Node}
use Rattle.vg_tree.specs.declared.node.Node as held_node
use Rattle.vg_source.specs.Types.{NoType}
use Rattle.vg_source.specs.Resolved.{Fresh, resolved}
use Rattle.vg_source.specs.Program.{scope_of}
use Rattle.vg_rules.specs.Breach.{Breach, ◌or◌}
use Rattle.vg_rules.specs.Bodies.{breach}
use Rattle.vg_rules.specs.Legal.{body_of}
use Rattle.vg_core.specs.declared.types.CoreType.{CoreType}
use Rattle.vg_core.specs.declared.program.Owner.{Owner}
use Rattle.vg_core.specs.declared.program.Tables.{Tables}
use Rattle.vg_core.specs.HeldProgram.{code_of}
use Rattle.vg_types_tables.specs.declared.declared.Declared.{Declared}
use Rattle.vg_types_tables.specs.Views.{declarations_at, owner_view, code_view}
use Rattle.vg_types_statements.specs.Arms.{RunsIn}
use Rattle.vg_types_bodies.specs.declared.making.Constructed.{Constructed}
use Rattle.vg_types_bodies.specs.Bodies.{IsBodyOf}
use Rattle.vg_types_bodies.specs.Initial.{above_name, super_breach, super_code, SuperRuns}
use Rattle.vg_types_bodies.specs.Fields.{making_kind}

module _ (texts : List (List ℕ)) (root : held_node.Node) (d : Declared) (o : Owner) (above : Option ℕ) (ps : List Param) (args block : Node) where
  -- The first breach in a constructor of this number: the arguments of `super`, and then its block.
  abbrev pub constructor_breach : (id : ℕ) → Option Breach
  constructor_breach id = super_breach (declarations_at texts root) (above_name texts d above) args (scope_of ps) id
      or breach (declarations_at texts root) (body_of (owner_view texts d (Some o)) NoType) block Fresh (scope_of ps)

  -- The call of the construction of the class above, and the block as a body.
  pub record IsConstructed (c : Constructed) : Type 0 where
    pub before : code_view texts d c.before ≡ super_code (declarations_at texts root) (above_name texts d above) args (scope_of ps)
    pub body : IsBodyOf texts d (length ps) (resolved (declarations_at texts root) (owner_view texts d (Some o)) block Fresh (scope_of ps)) c.body

-- The parts of a constructor run behind parameters of these types.
pub record ConstructedRuns (p : Tables) (o : Owner) (above : Option ℕ) (ts : List CoreType) (c : Constructed) : Type 0 where
  pub before : SuperRuns p above ts c.before
  pub body : RunsIn p (making_kind o) (ts ++ c.body.others) (code_of c.body.code)
