-- Mirrors: what a member adds to what is built of the members before it. No clause of a public function cites them.
use Rattle.std.specs.Prelude.{◌≡◌, ℕ, List, [], ◌∷◌, ◌++◌, Option, Some, None}
use Rattle.std.specs.List.{AllByRecursion}
use Rattle.vg_meaning.specs.Code.{Code, Nothing}
use Rattle.vg_syntax.specs.Tree.{TypeTree, Param, Node, Nothing as NoNode, FieldDecl, MethodDecl, ConstructorDecl}
use Rattle.vg_tree.specs.declared.node.Node as held_node
use Rattle.vg_source.specs.Declared.{row_of}
use Rattle.vg_source.specs.Steps.{Step as SourceStep}
use Rattle.vg_source.specs.Resolved as resolved
use Rattle.vg_source.specs.Program.{Constructor, constructor_in, initialisers, own_initialiser, its_initialiser}
use Rattle.vg_core.specs.declared.types.CoreType.{CoreType}
use Rattle.vg_core.specs.declared.program.Body.{Body}
use Rattle.vg_core.specs.declared.program.Owner.{Owner}
use Rattle.vg_core.specs.declared.program.Owner.TheVariants.{InClass, InComponent}
use Rattle.vg_core.specs.declared.code.Code as held
use Rattle.vg_core.specs.HeldProgram.{code_of, code_row}
use Rattle.vg_core.specs.Naming.{named_code}
use Rattle.vg_types_tables.specs.declared.declared.Declared.{Declared}
use Rattle.vg_types_tables.specs.Views.{declarations_at, naming, owner_view, row_view, code_view}
use Rattle.vg_types_tables.specs.Declares.{IsKnown}
use Rattle.vg_types_statements.specs.Arms.{RunsIn}
use Rattle.vg_types_bodies.specs.declared.making.Constructed.{Constructed}
use Rattle.vg_types_bodies.specs.Fields.{making_kind}
use Rattle.vg_types_bodies.specs.Makings.{IsConstructed, ConstructedRuns}
use Rattle.vg_types_routines.specs.declared.walked.Walked.{Walked}
use Rattle.vg_types_routines.specs.Bodies.{IsMethodBody, MethodBodies}

-- the initialiser of a member of this owner
abbrev pub initialiser_of : Node → resolved.Owner → Node → Code SourceStep
initialiser_of ds (resolved.InClass c) m = own_initialiser ds c m
initialiser_of ds (resolved.InComponent c) m = its_initialiser ds c m
initialiser_of ds resolved.NoOwner m = Nothing

-- a component's constructor has no parameters
abbrev pub Takes : Owner → List Param → Type 0
Takes (InClass c) ps = Unit {0}
Takes (InComponent k) ps = ps ≡ []

abbrev pub constructor_of : List Param → (arguments body : Node) → Constructor
constructor_of ps args block = record { params = ps; arguments = args; body = block }

-- the constructor where none is written
abbrev pub no_constructor : Constructor
no_constructor = record { params = []; arguments = NoNode; body = NoNode }

module _ (texts : List (List ℕ)) (root : held_node.Node) (d : Declared) (o : Owner) where
  -- what is made of a constructor
  pub record IsMadeOf (above : Option ℕ) (k : Constructor) (c : Constructed) : Type 0 where
    pub takes : Takes o k.params
    pub params : List CoreType
    pub known : AllByRecursion (IsKnown d.tables) params
    pub written : row_view texts d params ≡ row_of k.params
    pub is : IsConstructed texts root d o above k.params k.arguments k.body c
    pub runs : ConstructedRuns d.tables o above params c

  -- the code of an initialiser
  pub record IsInitialiser (m : Node) (c : held.Code) : Type 0 where
    pub is : code_view texts d c ≡ initialiser_of (declarations_at texts root) (owner_view texts d (Some o)) m
    pub runs : (ts : List CoreType) → RunsIn d.tables (making_kind o) ts (code_of c)

  -- a field adds its initialiser
  pub record AddsField (m : Node) (old new : Walked) : Type 0 where
    pub code : held.Code
    pub inits : new.inits.items ≡ old.inits.items ++ code ∷ []
    pub is : IsInitialiser m code
    pub methods : new.methods.items ≡ old.methods.items
    pub made : new.made ≡ old.made

  -- a method adds its body
  pub record AddsMethod (ps : List Param) (t : TypeTree) (block : Node) (old new : Walked) : Type 0 where
    pub code : held.Code
    pub inits : new.inits.items ≡ old.inits.items ++ code ∷ []
    pub nothing : code_of code ≡ Nothing
    pub body : Body
    pub methods : new.methods.items ≡ old.methods.items ++ body ∷ []
    pub is : IsMethodBody texts root d o ps t block body
    pub made : new.made ≡ old.made

  -- a constructor adds what is made of it
  pub record AddsMade (above : Option ℕ) (k : Constructor) (old new : Walked) : Type 0 where
    pub code : held.Code
    pub inits : new.inits.items ≡ old.inits.items ++ code ∷ []
    pub nothing : code_of code ≡ Nothing
    pub methods : new.methods.items ≡ old.methods.items
    pub first : old.made ≡ None
    pub constructed : Constructed
    pub made : new.made ≡ Some constructed
    pub is : IsMadeOf above k constructed

  abbrev pub Adds : (above : Option ℕ) → Node → (old new : Walked) → Type 0
  Adds above (FieldDecl at x t e) old new = AddsField (FieldDecl at x t e) old new
  Adds above (MethodDecl at x ps t block) old new = AddsMethod ps t block old new
  Adds above (ConstructorDecl at ps calls args block) old new = AddsMade above (constructor_of ps args block) old new
  Adds above _ old new = ⊥

  -- what was made is that of this constructor; where nothing was made, the constructor is still to come
  abbrev pub MadeOf : (above : Option ℕ) → Option Constructed → (all rest : Constructor) → Type 0
  MadeOf above (Some c) all rest = IsMadeOf above all c
  MadeOf above None all rest = all ≡ rest

  -- what is built of members, behind these methods
  pub record IsWalked (above : Option ℕ) (members : Node) (before : List Body) (w : Walked) : Type 0 where
    pub inits : named_code (naming texts d) d.tables (code_row w.inits.items)
        ≡ initialisers (initialiser_of (declarations_at texts root) (owner_view texts d (Some o))) members
    pub runs : (ts : List CoreType) → RunsIn d.tables (making_kind o) ts (code_row w.inits.items)
    pub added : List Body
    pub methods : w.methods.items ≡ before ++ added
    pub are : MethodBodies texts root d o members added
    pub made : MadeOf above w.made (constructor_in members) no_constructor
