-- The bodies of all that a text declares.
use Rattle.std.specs.Prelude.{◌≡◌, ℕ, List, [], ◌∷◌, ◌++◌, length, Option, Some}
use Rattle.std.specs.List.{AllByRecursion}
use Rattle.vg_syntax.specs.Tree.{TypeTree, Param, Node, Then, ClassDecl, ComponentDecl, MethodDecl}
use Rattle.vg_tree.specs.declared.node.Node as held_node
use Rattle.vg_source.specs.Names.{Name}
use Rattle.vg_source.specs.Declared.{written_type, row_of}
use Rattle.vg_source.specs.Resolved.{Fresh, resolved}
use Rattle.vg_source.specs.Program.{scope_of, constructor_in, construction, initialisation}
use Rattle.vg_core.specs.declared.types.CoreType.{CoreType}
use Rattle.vg_core.specs.declared.program.Body.{Body}
use Rattle.vg_core.specs.declared.program.Owner.{Owner}
use Rattle.vg_core.specs.declared.program.Owner.TheVariants.{InClass, InComponent}
use Rattle.vg_core.specs.declared.program.Target.TheVariants.{Construct, Start}
use Rattle.vg_core.specs.HeldProgram.{body_at}
use Rattle.vg_core.specs.Naming.{named_routine}
use Rattle.vg_core.specs.Typing.{TypedBody}
use Rattle.vg_types_tables.specs.declared.declared.Declared.{Declared}
use Rattle.vg_types_tables.specs.Views.{declarations_at, naming, owner_view, type_view, row_view}
use Rattle.vg_types_tables.specs.Declares.{IsClass, IsComponent, IsKnown}
pub use Rattle.vg_types_bodies.specs.Bodies.{IsBodyOf, signature_at}
pub use Rattle.vg_types_bodies.specs.Initial.{above_name}
pub use Rattle.vg_types_bodies.specs.Routines.{making_signature}

module _ (texts : List (List ℕ)) (root : held_node.Node) (d : Declared) where
  -- The body of a method with these parameters and this result: it is that of the routine of its block, and it is typed.
  pub record IsMethodBody (o : Owner) (ps : List Param) (t : TypeTree) (block : Node) (b : Body) : Type 0 where
    pub params : List CoreType
    pub known : AllByRecursion (IsKnown d.tables) params
    pub written : row_view texts d params ≡ row_of ps
    pub result : CoreType
    pub known_result : IsKnown d.tables result
    pub written_result : type_view texts d result ≡ written_type t
    pub is : IsBodyOf texts d (length params) (resolved (declarations_at texts root) (owner_view texts d (Some o)) block Fresh (scope_of ps)) b
    pub typed : TypedBody d.tables (record { owner = o; params = params; result = result }) (body_at b)

  -- The bodies of the methods among members, in order of the text.
  abbrev pub MethodBodies : Owner → Node → List Body → Type 0
  MethodBodies o (Then (MethodDecl at x ps t block) rest) (b ∷ bs) = IsMethodBody o ps t block b × MethodBodies o rest bs
  MethodBodies o (Then (MethodDecl at x ps t block) rest) [] = ⊥
  MethodBodies o (Then m rest) bs = MethodBodies o rest bs
  MethodBodies o _ bs = bs ≡ []

  -- The body of the construction of a class with these members: it is that of its routine, and it is typed.
  pub record IsMakingBody (c : ℕ) (above : Option ℕ) (members : Node) (b : Body) : Type 0 where
    pub params : List CoreType
    pub known : AllByRecursion (IsKnown d.tables) params
    pub written : row_view texts d params ≡ row_of (constructor_in members).params
    pub is : named_routine (naming texts d) d.tables (Construct c) (making_signature (InClass c) params) (body_at b)
        ≡ construction (declarations_at texts root) ((naming texts d).class c) (above_name texts d above) members (constructor_in members)
    pub typed : TypedBody d.tables (making_signature (InClass c) params) (body_at b)

  -- The same for the initialisation of a component.
  pub record IsStartBody (k : ℕ) (members : Node) (b : Body) : Type 0 where
    pub is : named_routine (naming texts d) d.tables (Start k) (making_signature (InComponent k) []) (body_at b)
        ≡ initialisation (declarations_at texts root) ((naming texts d).component k) members (constructor_in members)
    pub typed : TypedBody d.tables (making_signature (InComponent k) []) (body_at b)

  -- The bodies of a class of this name.
  pub record ClassBodies (x : Name) (above : Option Name) (members : Node) (methods : List Body) (making : Body) : Type 0 where
    pub class : ℕ
    pub there : IsClass d.tables class
    pub name : (naming texts d).class class ≡ x
    pub class_above : Option ℕ
    pub above_is : above_name texts d class_above ≡ above
    pub methods_are : MethodBodies (InClass class) members methods
    pub making_is : IsMakingBody class class_above members making

  -- The bodies of a component of this name.
  pub record ComponentBodies (x : Name) (members : Node) (methods : List Body) (start : Body) : Type 0 where
    pub component : ℕ
    pub there : IsComponent d.tables component
    pub name : (naming texts d).component component ≡ x
    pub methods_are : MethodBodies (InComponent component) members methods
    pub start_is : IsStartBody component members start

  -- The bodies of the methods of all declarations, of the constructions of the classes, and of the initialisations of the components, each
  -- in order of the text.
  abbrev pub AllBodies : Node → (methods makings starts : List Body) → Type 0
  AllBodies (Then (ClassDecl at x above members) rest) ms ks ss =
      (own : List Body) × (others : List Body) × (b : Body) × (makings : List Body) × (ms ≡ own ++ others) × (ks ≡ b ∷ makings)
      × ClassBodies x above members own b × AllBodies rest others makings ss
  AllBodies (Then (ComponentDecl at x members) rest) ms ks ss =
      (own : List Body) × (others : List Body) × (b : Body) × (starts : List Body) × (ms ≡ own ++ others) × (ss ≡ b ∷ starts)
      × ComponentBodies x members own b × AllBodies rest others ks starts
  AllBodies (Then d rest) ms ks ss = AllBodies rest ms ks ss
  AllBodies _ ms ks ss = (ms ≡ []) × (ks ≡ []) × (ss ≡ [])
