-- When a typed program is that of a tree.
use Rattle.std.specs.Prelude.{◌≡◌, true, ℕ, List, map, Some}
use Rattle.vg_syntax.specs.Tree.{Node}
use Rattle.vg_source.specs.Program.{declarations_of, source_of}
use Rattle.vg_method_sizes.specs.Sizes.{sizes}
use Rattle.vg_core.specs.Naming.{naming_of}
use Rattle.vg_core.specs.Naming as naming
use Rattle.vg_core.specs.declared.program.Target.{Target}
use Rattle.vg_core.specs.Program.{Body, Program, Signature, signature_of, body_of}
use Rattle.vg_core.specs.Typing.{WellTyped}
use Rattle.vg_renamed.specs.NamesTell.{NamesTell}
use Rattle.vg_written.specs.Written.{IsWritten}
use Rattle.vg_types_declared.specs.Apart.{have_members}

-- With names in place of its numbers it is the source program of the tree; it is well typed; its names tell its numbers apart; and each method, by its
-- number, keeps how many nodes its body has in the tree. So a method has the parameters, the locals and the loops of the tree: the routine of its number
-- in the source program has so many parameters, a value for each other local, and its code. Its tables keep the fields that the tree declares, with their
-- types, and the classes above classes. It has no bodies but those of what can be called, and in the classes and components of the tree members alone stand.
pub record IsProgramOf (texts : List (List ℕ)) (tree : Node) (p : Program) : Type 0 where
  pub named : source_of tree ≡ naming.named (naming_of texts p.tables) p
  pub typed : WellTyped p
  pub told : NamesTell (naming_of texts p.tables) p
  pub nodes : map (λ m. m.nodes) p.tables.methods ≡ map (λ s. s.nodes) (sizes tree)
  pub written : IsWritten texts tree p.tables
  pub called : (t : Target) (b : Body) → body_of p t ≡ Some b → (g : Signature) × (signature_of p.tables t ≡ Some g)
  pub members : have_members (declarations_of tree) ≡ true
