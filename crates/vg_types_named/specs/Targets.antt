-- All that can be called, in order of the text.
use Rattle.std.specs.Prelude.{◌≡◌, ℕ, zero, suc, ◌+◌, List, [], ◌∷◌, ◌++◌, slice_get, Some}
use Rattle.vg_syntax.specs.Tree.{TypeTree, Param, Node, Then, ClassDecl, ComponentDecl, MethodDecl}
use Rattle.vg_source.specs.Names.{Name}
use Rattle.vg_source.specs.Declared.{written_type, row_of}
use Rattle.vg_source.specs.Program.{constructor_in}
use Rattle.vg_core.specs.declared.program.Owner.{Owner}
use Rattle.vg_core.specs.declared.program.Owner.TheVariants.{InClass, InComponent}
use Rattle.vg_core.specs.declared.program.Method.{Method}
use Rattle.vg_core.specs.declared.program.Class.{Class}
use Rattle.vg_core.specs.declared.program.Target.{Target}
use Rattle.vg_core.specs.declared.program.Target.TheVariants.{Run, Construct, Start}
use Rattle.vg_types_tables.specs.declared.declared.Declared.{Declared}
use Rattle.vg_types_tables.specs.Views.{naming, type_view, row_view}

-- How many methods stand among members.
abbrev pub count_methods : Node → ℕ
count_methods (Then (MethodDecl at n ps t body) rest) = suc (count_methods rest)
count_methods (Then m rest) = count_methods rest
count_methods _ = zero

-- The methods among members, the first of which has this number.
abbrev pub method_targets : ℕ → Node → List Target
method_targets m (Then (MethodDecl at n ps t body) rest) = Run m ∷ method_targets (suc m) rest
method_targets m (Then _ rest) = method_targets m rest
method_targets m _ = []

-- What can be called of declarations behind so many classes, components and methods: each class and each component, and then its methods.
abbrev pub targets_from : (c k m : ℕ) → Node → List Target
targets_from c k m (Then (ClassDecl at x above ms) rest) = Construct c ∷ (method_targets m ms ++ targets_from (suc c) k (m + count_methods ms) rest)
targets_from c k m (Then (ComponentDecl at x ms) rest) = Start k ∷ (method_targets m ms ++ targets_from c (suc k) (m + count_methods ms) rest)
targets_from c k m (Then _ rest) = targets_from c k m rest
targets_from c k m _ = []

-- ---- signatures

module _ (texts : List (List ℕ)) (d : Declared) where
  -- The method of this number is the one that this owner declares under this name.
  pub record IsWritten (o : Owner) (owner name : Name) (ps : List Param) (t : TypeTree) (m : ℕ) : Type 0 where
    pub method : Method
    pub there : slice_get d.tables.methods m ≡ Some method
    pub owner_is : method.owner ≡ o
    pub owner_named : ((naming texts d).method m).owner ≡ owner
    pub named : ((naming texts d).method m).name ≡ name
    pub params : row_view texts d method.params ≡ row_of ps
    pub result : type_view texts d method.result ≡ written_type t

  -- The methods among members of this owner, the first of which has this number.
  abbrev pub AreWritten : Owner → (owner : Name) → ℕ → Node → Type 0
  AreWritten o x m (Then (MethodDecl at n ps t body) rest) = IsWritten o x n ps t m × AreWritten o x (suc m) rest
  AreWritten o x m (Then _ rest) = AreWritten o x m rest
  AreWritten o x m _ = Unit {0}

  -- The class of this number has this name, and its construction takes what its constructor takes.
  pub record IsMade (x : Name) (members : Node) (c : ℕ) : Type 0 where
    pub class : Class
    pub there : slice_get d.tables.classes c ≡ Some class
    pub named : (naming texts d).class c ≡ x
    pub params : row_view texts d class.params ≡ row_of (constructor_in members).params

  -- The component of this number has this name.
  pub record IsStarted (x : Name) (k : ℕ) : Type 0 where
    pub name : ℕ
    pub there : slice_get d.tables.components k ≡ Some name
    pub named : (naming texts d).component k ≡ x

  -- All that declarations have to call has the signature that is written, behind so many classes, components and methods.
  abbrev pub AreSigned : (c k m : ℕ) → Node → Type 0
  AreSigned c k m (Then (ClassDecl at x above ms) rest) =
      IsMade x ms c × AreWritten (InClass c) x m ms × AreSigned (suc c) k (m + count_methods ms) rest
  AreSigned c k m (Then (ComponentDecl at x ms) rest) =
      IsStarted x k × AreWritten (InComponent k) x m ms × AreSigned c (suc k) (m + count_methods ms) rest
  AreSigned c k m (Then _ rest) = AreSigned c k m rest
  AreSigned c k m _ = Unit {0}
