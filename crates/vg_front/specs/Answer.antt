-- What is answered to the bytes of a source text.
use Rattle.std.specs.Prelude.{ℕ, ◌≡◌, List, Result, Ok, Err}
use Rattle.vg_base.specs.declared.refusal.Refusal.{Refusal}
use Rattle.vg_base.specs.declared.refusal.Refusal.TheVariants as refusal
use Rattle.vg_tree_walks.specs.Whole.{tree_at}
use Rattle.vg_core.specs.HeldProgram.{program_at}
use Rattle.vg_core.specs.Session as core
use Rattle.vg_sound.specs.Good.{HasTypedHeap}
use Rattle.vg_named_locals.specs.Locals.{HaveLocals}
use Rattle.vg_types.specs.Checks.{IsProgramOf}
use Rattle.vg_faults.specs.declared.fault.Fault.{Fault}
use Rattle.vg_front.specs.declared.starting.Start.{Start}
use Rattle.vg_faults.specs.Judged.{IsLegal}
use Rattle.vg_faults.specs.Faults.{HasFault}

-- the bytes are a legal text with this tree, whose typed program is initialised with this clock to this heap; the parameters and locals of the program's
-- methods have the types of the tree
pub record IsStartOf (bytes : List ℕ) (clock : ℕ) (s : Start) : Type 0 where
  pub legal : IsLegal bytes (tree_at s.names s.tree)
  pub program : IsProgramOf s.names (tree_at s.names s.tree) (program_at s.program)
  pub locals : HaveLocals s.names (tree_at s.names s.tree) (program_at s.program)
  pub typed : HasTypedHeap s.program.tables s.heap
  pub starts : core.started (program_at s.program) clock ≡ core.Started s.heap

-- the tree, the program and the heap of the bytes, or the fault that they have
abbrev pub Starts : List ℕ → (clock : ℕ) → Result Start (Refusal Fault) → Type 0
Starts bytes clock (Ok s) = IsStartOf bytes clock s
Starts bytes clock (Err (refusal.Fault why)) = HasFault why bytes clock
Starts bytes clock (Err refusal.NoMemory) = Unit {0}
