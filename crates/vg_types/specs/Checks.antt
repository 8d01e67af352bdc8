-- What is answered to a tree: its typed program, or why there is none.
use Rattle.std.specs.Prelude.{◌≡◌, ℕ, List, Result, Ok, Err, Some, None}
use Rattle.vg_base.specs.declared.refusal.Refusal.{Refusal}
use Rattle.vg_base.specs.declared.refusal.Refusal.TheVariants as refusal
use Rattle.vg_syntax.specs.Tree.{Node}
use Rattle.vg_rules.specs.Refusal.{Refused, refusal_of}
use Rattle.vg_rules.specs.Refusal as rules
use Rattle.vg_core.specs.declared.program.Program.{Program as HeldProgram}
use Rattle.vg_core.specs.HeldProgram.{program_at}
use Rattle.vg_core.specs.Program.{Program}
use Rattle.vg_named_locals.specs.Locals.{HaveLocals}
use Rattle.vg_types.specs.declared.checked.TypeFault.{TypeFault}
use Rattle.vg_types.specs.declared.checked.TypeFault.TheVariants.{TooMany, Broken}
pub use Rattle.vg_types_named.specs.Programs.{IsProgramOf}

-- The refusal that a fault stands for.
abbrev pub refused_view : TypeFault → Refused
refused_view (TooMany many) = rules.TooMany many.what many.limit many.node.0
refused_view (Broken b) = rules.Broken b.rule b.node.0

-- The program is that of the tree, and the parameters and locals of its methods have the types that the tree declares.
pub record IsTypedOf (texts : List (List ℕ)) (tree : Node) (p : Program) : Type 0 where
  pub program : IsProgramOf texts tree p
  pub locals : HaveLocals texts tree p

-- There is a typed program exactly where the tree is refused for nothing; else the fault is what it is refused for.
abbrev pub Checks : List (List ℕ) → Node → Result HeldProgram (Refusal TypeFault) → Type 0
Checks texts tree (Ok p) = (refusal_of tree ≡ None) × IsTypedOf texts tree (program_at p)
Checks texts tree (Err (refusal.Fault why)) = refusal_of tree ≡ Some (refused_view why)
Checks texts tree (Err refusal.NoMemory) = Unit {0}
