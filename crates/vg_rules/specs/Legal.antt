-- Which trees are legal: a whole text and its first breach.
use Rattle.std.specs.Prelude.{◌≡◌, ◌==◌, Bool, true, false, List, [], Option, Some, None}
use Rattle.vg_syntax.specs.Tree.{Param, Node, Then, Text, ClassDecl, ComponentDecl, FieldDecl, MethodDecl, ConstructorDecl}
use Rattle.vg_source.specs.Names.{Name}
use Rattle.vg_source.specs.Types.{StaticType, NoType}
use Rattle.vg_source.specs.Declared.{written_type}
use Rattle.vg_source.specs.Resolved.{Owner, InClass, InComponent, NoOwner, no_names, Fresh}
use Rattle.vg_source.specs.Program.{scope_of}
use Rattle.vg_rules.specs.Breach.{Breach, asks, ◌or◌}
use Rattle.vg_rules.specs.Names.{names_breach, programs, classes_breach}
use Rattle.vg_rules.specs.Signatures.{signatures_breach}
use Rattle.vg_rules.specs.Inherited.{params_of_class, inherited_breach}
use Rattle.vg_rules.specs.Entries.{entries_breach}
use Rattle.vg_rules.specs.Bodies.{Body, breach, initialiser_keeps, arguments_fit}

-- A body of this owner and result, around which there is no loop.
abbrev pub body_of : Owner → (result : StaticType) → Body
body_of o result = record { owner = o; result = result; in_loop = false }

-- Field initialisers and the arguments of `super` see no members of their own.
abbrev pub outside : Body
outside = body_of NoOwner NoType

-- Rule 10 for a constructor that is written: the arguments of `super` fit the constructor of the class above. Where `super` is not
-- called there are none.
abbrev pub super_keeps : Node → (above : Option Name) → Node → List Param → Bool
super_keeps ds None args ps = true
super_keeps ds (Some above) args ps = arguments_fit ds outside args (params_of_class ds above) (scope_of ps)

-- The first breach in the bodies and initialisers of members, with their owner and the class above.
abbrev pub bodies_breach : Node → Owner → (above : Option Name) → Node → Option Breach
bodies_breach ds o above (Then (FieldDecl at x t e) rest) =
    breach ds outside e Fresh no_names or asks (initialiser_keeps ds outside (written_type t) e no_names) 21 at
    or bodies_breach ds o above rest
bodies_breach ds o above (Then (MethodDecl at x ps t body) rest) =
    breach ds (body_of o (written_type t)) body Fresh (scope_of ps) or bodies_breach ds o above rest
bodies_breach ds o above (Then (ConstructorDecl at ps calls args body) rest) =
    breach ds outside args Fresh (scope_of ps) or asks (super_keeps ds above args ps) 10 at
    or breach ds (body_of o NoType) body Fresh (scope_of ps) or bodies_breach ds o above rest
bodies_breach ds o above _ = None

-- The first breach in what is written in the members of all declarations.
abbrev pub written_breach : Node → Node → Option Breach
written_breach ds (Then (ClassDecl at c above members) rest) = bodies_breach ds (InClass c) above members or written_breach ds rest
written_breach ds (Then (ComponentDecl at c members) rest) = bodies_breach ds (InComponent c) None members or written_breach ds rest
written_breach ds (Then d rest) = written_breach ds rest
written_breach ds _ = None

-- The first breach of a text. Each line is asked only where those before it are kept: the names of declarations; the program; the classes
-- above one another; what each declaration says for itself; what classes inherit; the entries; and last what is written in bodies.
abbrev pub breach_of : Node → Option Breach
breach_of (Text at ds) =
    names_breach [] ds
    or asks (programs ds == 1) 2 at
    or classes_breach ds ds
    or signatures_breach ds ds
    or inherited_breach ds ds
    or entries_breach ds ds
    or written_breach ds ds
breach_of _ = None

-- A text is legal where no node breaks a rule.
abbrev pub Legal : Node → Type 0
Legal text = breach_of text ≡ None
