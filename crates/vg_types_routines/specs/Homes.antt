-- Mirrors: what one class, component or declaration adds to the bodies before it. No clause of a public function cites them.
use Rattle.std.specs.Prelude.{◌≡◌, ℕ, List, [], ◌∷◌, ◌++◌, Option}
use Rattle.vg_syntax.specs.Tree.{Node, ClassDecl, ComponentDecl}
use Rattle.vg_tree.specs.declared.node.Node as held_node
use Rattle.vg_source.specs.Names.{Name}
use Rattle.vg_core.specs.declared.program.Body.{Body}
use Rattle.vg_core.specs.declared.program.Owner.TheVariants.{InClass, InComponent}
use Rattle.vg_types_tables.specs.declared.declared.Declared.{Declared}
use Rattle.vg_types_routines.specs.declared.homes.Home.{Home}
use Rattle.vg_types_routines.specs.declared.pass.Bodies.{Bodies}
use Rattle.vg_types_routines.specs.Bodies.{MethodBodies, IsMakingBody, IsStartBody, ClassBodies, ComponentBodies}

module _ (texts : List (List ℕ)) (root : held_node.Node) (d : Declared) where
  -- the bodies of a class, behind those of the methods before
  pub record IsClassHome (class : ℕ) (above : Option ℕ) (members : Node) (before : List Body) (h : Home) : Type 0 where
    pub own : List Body
    pub methods : h.methods.items ≡ before ++ own
    pub are : MethodBodies texts root d (InClass class) members own
    pub making : IsMakingBody texts root d class above members h.body

  -- the bodies of a component
  pub record IsComponentHome (component : ℕ) (members : Node) (before : List Body) (h : Home) : Type 0 where
    pub own : List Body
    pub methods : h.methods.items ≡ before ++ own
    pub are : MethodBodies texts root d (InComponent component) members own
    pub start : IsStartBody texts root d component members h.body

  -- a class adds its bodies
  pub record AddsClass (x : Name) (above : Option Name) (members : Node) (old new : Bodies) : Type 0 where
    pub own : List Body
    pub methods : new.methods.items ≡ old.methods.items ++ own
    pub making : Body
    pub makings : new.makings.items ≡ old.makings.items ++ making ∷ []
    pub starts : new.starts.items ≡ old.starts.items
    pub are : ClassBodies texts root d x above members own making

  -- a component adds its bodies
  pub record AddsComponent (x : Name) (members : Node) (old new : Bodies) : Type 0 where
    pub own : List Body
    pub methods : new.methods.items ≡ old.methods.items ++ own
    pub start : Body
    pub starts : new.starts.items ≡ old.starts.items ++ start ∷ []
    pub makings : new.makings.items ≡ old.makings.items
    pub are : ComponentBodies texts root d x members own start

  -- another declaration adds none
  pub record AddsNone (old new : Bodies) : Type 0 where
    pub methods : new.methods.items ≡ old.methods.items
    pub makings : new.makings.items ≡ old.makings.items
    pub starts : new.starts.items ≡ old.starts.items

  abbrev pub Gains : Node → (old new : Bodies) → Type 0
  Gains (ClassDecl at x above members) old new = AddsClass x above members old new
  Gains (ComponentDecl at x members) old new = AddsComponent x members old new
  Gains _ old new = AddsNone old new
