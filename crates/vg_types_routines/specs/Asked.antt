-- Mirrors: how the code asks what is written in members. No clause of a public function cites them.
use Rattle.std.specs.Prelude.{Bool, true, false, Option, None}
use Rattle.vg_syntax.specs.Tree.{Node, ClassDecl, ComponentDecl, FieldDecl, MethodDecl, ConstructorDecl}
use Rattle.vg_source.specs.Names.{Name}
use Rattle.vg_source.specs.Types.{NoType}
use Rattle.vg_source.specs.Declared.{written_type}
use Rattle.vg_source.specs.Resolved.{Owner, InClass, InComponent, Fresh}
use Rattle.vg_source.specs.Program.{scope_of}
use Rattle.vg_rules.specs.Breach.{Breach, ◌or◌}
use Rattle.vg_rules.specs.Bodies.{breach}
use Rattle.vg_rules.specs.Legal.{body_of, bodies_breach}
use Rattle.vg_types_bodies.specs.Initial.{initial_breach, super_breach}

-- a node is a member
abbrev pub is_member : Node → Bool
is_member (FieldDecl at x t e) = true
is_member (MethodDecl at x ps t body) = true
is_member (ConstructorDecl at ps calls args body) = true
is_member _ = false

-- the first breach in one member
abbrev pub member_breach : Node → Owner → (above : Option Name) → Node → Option Breach
member_breach ds o above (FieldDecl at x t e) = initial_breach ds (written_type t) e at.id
member_breach ds o above (MethodDecl at x ps t body) = breach ds (body_of o (written_type t)) body Fresh (scope_of ps)
member_breach ds o above (ConstructorDecl at ps calls args body) =
    super_breach ds above args (scope_of ps) at.id or breach ds (body_of o NoType) body Fresh (scope_of ps)
member_breach ds o above _ = None

-- the first breach in one declaration
abbrev pub one_breach : Node → Node → Option Breach
one_breach ds (ClassDecl at c above members) = bodies_breach ds (InClass c) above members
one_breach ds (ComponentDecl at c members) = bodies_breach ds (InComponent c) None members
one_breach ds _ = None
