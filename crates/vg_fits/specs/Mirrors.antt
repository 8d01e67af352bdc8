-- Mirrors: predicates by cases that follow the code's own functions. No clause of an exported function cites one.
use Rattle.std.specs.Prelude.{ℕ, ◌≡◌, ◌≤◌, ◌<◌, List, length, Result, Ok, Err}
use Rattle.vg_base.specs.declared.refusal.Refusal.{Refusal}
use Rattle.vg_base.specs.declared.refusal.Refusal.TheVariants as refusal
use Rattle.vg_core.specs.Heap.{stored_values}
use Rattle.vg_firm.specs.declared.step.Home.TheVariants.{Ram, Flash}
use Rattle.vg_numbers.specs.Numbers.{AreChains}
use Rattle.vg_number.specs.Numbering.{kept_in, kinds_of, AreListed, IsNumbering}
use Rattle.vg_placement.specs.Columns.{home_bytes}
use Rattle.vg_place.specs.Placing.{AreOwned, ArePlaced}
use Rattle.vg_faults.specs.declared.fault.Fault.{Fault}
use Rattle.vg_faults.specs.declared.fault.Fault.TheVariants.{StaticFull, TableFull}
use Rattle.vg_alive.specs.Answer.{Start}
use Rattle.vg_alive.specs.declared.finding.Alive.{Alive}
use Rattle.vg_fits.specs.Answer.{columns_of}
use Rattle.vg_fits.specs.declared.fitting.Placed.{Placed}

-- what numbers and columns are made of is in the tables, and is not too much
pub record CanPlace (s : Start) : Type 0 where
  pub chains : AreChains s.program.tables
  pub owners : AreOwned s.program.tables
  pub listed : AreListed s.program.tables (kinds_of s.heap)
  pub classes : length s.program.tables.classes < 65536
  pub fields : length s.program.tables.fields < 4294967296
  pub values : stored_values s.heap ≤ 60000

-- the numbers and the columns of what is live, or the first sum that passes its limit
abbrev pub PlacedBy : Alive → Result Placed (Refusal Fault) → Type 0
PlacedBy a (Ok p) = IsNumbering a.start.program.tables (kinds_of a.start.heap) (kept_in a.live) p.numbers × ArePlaced (columns_of a) p.columns
PlacedBy a (Err (refusal.Fault (StaticFull need))) = (4096 < home_bytes Ram (columns_of a)) × (need ≡ home_bytes Ram (columns_of a))
PlacedBy a (Err (refusal.Fault (TableFull need))) =
    (home_bytes Ram (columns_of a) ≤ 4096) × (60000 < home_bytes Flash (columns_of a)) × (need ≡ home_bytes Flash (columns_of a))
PlacedBy a (Err (refusal.Fault _)) = ⊥
PlacedBy a (Err refusal.NoMemory) = Unit {0}
