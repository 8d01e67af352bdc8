-- What is answered to the bytes of a source text.
use Rattle.std.specs.Prelude.{ℕ, List, Result, Ok, Err}
use Rattle.vg_base.specs.declared.refusal.Refusal.{Refusal}
use Rattle.vg_base.specs.declared.refusal.Refusal.TheVariants as refusal
use Rattle.vg_source.specs.Values.{Heap}
use Rattle.vg_tree_walks.specs.Whole.{tree_at}
use Rattle.vg_core.specs.Naming.{naming_of, named_heap}
use Rattle.vg_core.specs.HeldProgram.{program_at}
use Rattle.vg_live.specs.Sets.{IsLiveSet}
use Rattle.vg_faults.specs.declared.fault.Fault.{Fault}
use Rattle.vg_faults.specs.Living.{IsFirm, HasLiveFault}
pub use Rattle.vg_front.specs.declared.starting.Start.{Start}
use Rattle.vg_front.specs.Answer.{IsStartOf}
use Rattle.vg_alive.specs.declared.finding.Alive.{Alive}

-- the heap of what starts, with names in place of numbers
abbrev pub named_start_heap : Start → Heap
named_start_heap s = named_heap (naming_of s.names s.program.tables) s.program.tables s.heap

-- the bytes are a legal text that starts so with this clock, no live method makes anything, and this is what is live
pub record IsAliveOf (bytes : List ℕ) (clock : ℕ) (a : Alive) : Type 0 where
  pub start : IsStartOf bytes clock a.start
  pub set : IsLiveSet (program_at a.start.program) a.start.heap a.live
  pub firm : IsFirm bytes clock (tree_at a.start.names a.start.tree) (named_start_heap a.start)

-- what starts and what of it is live, or the fault that the bytes have
abbrev pub Lives : List ℕ → (clock : ℕ) → Result Alive (Refusal Fault) → Type 0
Lives bytes clock (Ok a) = IsAliveOf bytes clock a
Lives bytes clock (Err (refusal.Fault why)) = HasLiveFault why bytes clock
Lives bytes clock (Err refusal.NoMemory) = Unit {0}
