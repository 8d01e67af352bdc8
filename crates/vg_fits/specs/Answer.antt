-- What is answered to the bytes of a source text.
use Rattle.std.specs.Prelude.{ℕ, List, Result, Ok, Err}
use Rattle.vg_base.specs.declared.refusal.Refusal.{Refusal}
use Rattle.vg_base.specs.declared.refusal.Refusal.TheVariants as refusal
use Rattle.vg_tree_walks.specs.Whole.{tree_at}
use Rattle.vg_core.specs.HeldProgram.{program_at}
use Rattle.vg_number.specs.Numbering.{kept_in, kinds_of, IsNumbering}
use Rattle.vg_placement.specs.declared.column.Column.{Column}
use Rattle.vg_placement.specs.Columns.{all_columns}
use Rattle.vg_placement.specs.Needs.{needs}
use Rattle.vg_place.specs.Placing.{ArePlaced}
use Rattle.vg_faults.specs.declared.fault.Fault.{Fault}
use Rattle.vg_faults.specs.Fitting.{IsFitting, HasFitFault}
use Rattle.vg_alive.specs.declared.finding.Alive.{Alive}
use Rattle.vg_alive.specs.Answer.{IsAliveOf}
pub use Rattle.vg_alive.specs.Answer.{named_start_heap, Start}
use Rattle.vg_fits.specs.declared.fitting.Fitted.{Fitted}

-- the columns of what is live, not yet placed
abbrev pub columns_of : Alive → List Column
columns_of a =
    all_columns a.start.program.tables (needs (program_at a.start.program) (kinds_of a.start.heap) a.live) (kinds_of a.start.heap)

-- the bytes are a legal text that starts so with this clock, no live method makes anything, this is what is live, and all of it fits; these are the numbers of
-- its cells and the intervals of its classes, and its columns at their addresses
pub record IsFittedOf (bytes : List ℕ) (clock : ℕ) (f : Fitted) : Type 0 where
  pub alive : IsAliveOf bytes clock f.alive
  pub numbering : IsNumbering f.alive.start.program.tables (kinds_of f.alive.start.heap) (kept_in f.alive.live) f.placed.numbers
  pub placed : ArePlaced (columns_of f.alive) f.placed.columns
  pub fitting : IsFitting bytes clock (tree_at f.alive.start.names f.alive.start.tree) (named_start_heap f.alive.start)

-- what fits, or the fault that the bytes have
abbrev pub Fits : List ℕ → (clock : ℕ) → Result Fitted (Refusal Fault) → Type 0
Fits bytes clock (Ok f) = IsFittedOf bytes clock f
Fits bytes clock (Err (refusal.Fault why)) = HasFitFault why bytes clock
Fits bytes clock (Err refusal.NoMemory) = Unit {0}
