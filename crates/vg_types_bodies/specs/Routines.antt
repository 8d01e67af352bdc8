-- Bodies as the routines of the source program.
use Rattle.std.specs.Prelude.{◌≡◌, ℕ, List, [], true, length, Option, Some, None}
use Rattle.vg_meaning.specs.Code.{Then}
use Rattle.vg_syntax.specs.Tree.{TypeTree, Param, Node}
use Rattle.vg_tree.specs.declared.node.Node as held_node
use Rattle.vg_source.specs.Declared.{written_type}
use Rattle.vg_source.specs.Values as source_value
use Rattle.vg_source.specs.Steps as source
use Rattle.vg_source.specs.Resolved.{Fresh, resolved}
use Rattle.vg_source.specs.Program.{Constructor, scope_of, routine_of, initialisers, own_initialiser, its_initialiser, construction, initialisation}
use Rattle.vg_core.specs.declared.types.CoreType.{CoreType}
use Rattle.vg_core.specs.declared.types.CoreType.TheVariants.{NoType}
use Rattle.vg_core.specs.declared.program.Body.{Body}
use Rattle.vg_core.specs.declared.program.Method.{Method}
use Rattle.vg_core.specs.declared.program.Owner.{Owner}
use Rattle.vg_core.specs.declared.program.Owner.TheVariants.{InClass, InComponent}
use Rattle.vg_core.specs.declared.program.Target.TheVariants.{Run, Construct, Start}
use Rattle.vg_core.specs.declared.program.Tables.{Tables}
use Rattle.vg_core.specs.declared.code.Code as held
use Rattle.vg_core.specs.HeldProgram.{code_of, code_row, body_at}
use Rattle.vg_core.specs.Program.{Signature}
use Rattle.vg_core.specs.Tables as tables
use Rattle.vg_core.specs.Naming.{named_code, named_routine}
use Rattle.vg_core.specs.Typing.{TypedBody}
use Rattle.vg_types_tables.specs.declared.declared.Declared.{Declared}
use Rattle.vg_types_tables.specs.Views.{declarations_at, naming, type_view, owner_view}
use Rattle.vg_types_statements.specs.Arms.{RunsIn}
use Rattle.vg_types_bodies.specs.declared.making.Constructed.{Constructed}
use Rattle.vg_types_bodies.specs.Bodies.{IsBodyOf, signature_at}
use Rattle.vg_types_bodies.specs.Initial.{above_name}
use Rattle.vg_types_bodies.specs.Fields.{making_kind}
use Rattle.vg_types_bodies.specs.Makings.{IsConstructed, ConstructedRuns}

-- The signature of what is made for this owner, behind parameters of these types.
abbrev pub making_signature : Owner → List CoreType → Signature
making_signature o ts = record { owner = o; params = ts; result = NoType }

-- The body is the call of the construction of the class above, the initialisers, and the block.
pub record IsMade (c : Constructed) (inits : List held.Code) (b : Body) : Type 0 where
  pub others : b.others ≡ c.body.others
  pub code : code_of b.code ≡ Then (code_of c.before) (Then (code_row inits) (code_of c.body.code))

-- The body is the initialisers, and the block.
pub record IsStarted (c : Constructed) (inits : List held.Code) (b : Body) : Type 0 where
  pub others : b.others ≡ c.body.others
  pub code : code_of b.code ≡ Then (code_row inits) (code_of c.body.code)

-- The class is below the one above it.
abbrev pub IsBelow : Tables → (c : ℕ) → Option ℕ → Type 0
IsBelow p c (Some e) = tables.is_below p c e ≡ true
IsBelow p c None = Unit {0}

module _ (texts : List (List ℕ)) (root : held_node.Node) (d : Declared) where
  -- A method's body is the routine of its declaration, with its number.
  abbrev pub MethodIs : Type 0
  MethodIs = (m : ℕ) (y : Method) (ps : List Param) (t : TypeTree) (body : Node) (b : Body) → length y.params ≡ length ps
      → type_view texts d y.result ≡ written_type t
      → IsBodyOf texts d (length y.params) (resolved (declarations_at texts root) (owner_view texts d (Some y.owner)) body Fresh (scope_of ps)) b
      → named_routine (naming texts d) d.tables (Run m) (signature_at y) (body_at b)
      ≡ record (routine_of (source.Method ((naming texts d).method m).owner ((naming texts d).method m).name) (length ps) (source_value.default
      (written_type t))
      (resolved (declarations_at texts root) (owner_view texts d (Some y.owner)) body Fresh (scope_of ps))) { number = m }

  -- What is made is the construction of its class.
  abbrev pub MakingIs : Type 0
  MakingIs = (c : ℕ) (above : Option ℕ) (members : Node) (k : Constructor) (ts : List CoreType) (made : Constructed) (inits : List held.Code) (b : Body)
      → IsConstructed texts root d (InClass c) above k.params k.arguments k.body made → length ts ≡ length k.params
      → named_code (naming texts d) d.tables (code_row inits)
      ≡ initialisers (own_initialiser (declarations_at texts root) ((naming texts d).class c)) members
      → IsMade made inits b
      → named_routine (naming texts d) d.tables (Construct c) (making_signature (InClass c) ts) (body_at b)
      ≡ construction (declarations_at texts root) ((naming texts d).class c) (above_name texts d above) members k

  -- What starts a component is its initialisation.
  abbrev pub StartIs : Type 0
  StartIs = (c : ℕ) (above : Option ℕ) (members : Node) (k : Constructor) (made : Constructed) (inits : List held.Code) (b : Body) → k.params ≡ []
      → IsConstructed texts root d (InComponent c) above k.params k.arguments k.body made
      → named_code (naming texts d) d.tables (code_row inits)
      ≡ initialisers (its_initialiser (declarations_at texts root) ((naming texts d).component c)) members
      → IsStarted made inits b
      → named_routine (naming texts d) d.tables (Start c) (making_signature (InComponent c) []) (body_at b)
      ≡ initialisation (declarations_at texts root) ((naming texts d).component c) members k

-- What is made is typed.
abbrev pub MakingTyped : Type 0
MakingTyped = (p : Tables) (c : ℕ) (above : Option ℕ) (ts : List CoreType) (made : Constructed) (inits : List held.Code) (b : Body) → IsBelow p c above
    → ConstructedRuns p (InClass c) above ts made → ((us : List CoreType) → RunsIn p (making_kind (InClass c)) us (code_row inits)) → IsMade made inits b
    → TypedBody p (making_signature (InClass c) ts) (body_at b)

-- What starts a component is typed.
abbrev pub StartTyped : Type 0
StartTyped = (p : Tables) (c : ℕ) (above : Option ℕ) (made : Constructed) (inits : List held.Code) (b : Body)
    → ConstructedRuns p (InComponent c) above [] made → ((us : List CoreType) → RunsIn p (making_kind (InComponent c)) us (code_row inits))
    → IsStarted made inits b → TypedBody p (making_signature (InComponent c) []) (body_at b)
