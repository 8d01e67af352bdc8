-- Whether what is live of a text fits into RAM and its tables into flash.
use Rattle.std.specs.Prelude.{ℕ, ◌≤◌, ◌<◌, List}
use Rattle.vg_syntax.specs.Tree.{Node}
use Rattle.vg_source.specs.Values.{Heap}
use Rattle.vg_static_source.specs.Sums.{IsStatic, AreTables}
use Rattle.vg_faults.specs.declared.fault.Fault.{Fault}
use Rattle.vg_faults.specs.declared.fault.Fault.TheVariants.{StaticFull, TableFull}
use Rattle.vg_faults.specs.Living.{IsFirm, HasLiveFault}

-- The bytes are a legal text that is initialised to a heap with this clock and whose live methods make nothing, and the two need so many bytes of RAM, more than
-- there are.
pub record StaticFullIn (bytes : List ℕ) (clock : ℕ) (need : ℕ) : Type 0 where
  pub tree : Node
  pub heap : Heap
  pub firm : IsFirm bytes clock tree heap
  pub needs : IsStatic tree heap need
  pub full : 4096 < need

-- The same, but they need no more bytes of RAM than there are, and so many of tables, more than are given to tables.
pub record TableFullIn (bytes : List ℕ) (clock : ℕ) (need : ℕ) : Type 0 where
  pub tree : Node
  pub heap : Heap
  pub firm : IsFirm bytes clock tree heap
  pub static_bytes : ℕ
  pub has_static : IsStatic tree heap static_bytes
  pub fits : static_bytes ≤ 4096
  pub needs : AreTables tree heap need
  pub full : 60000 < need

-- The bytes are such a text with this tree and this heap, and what is live of the two fits into RAM, and their tables into what is given to them.
pub record IsFitting (bytes : List ℕ) (clock : ℕ) (tree : Node) (heap : Heap) : Type 0 where
  pub firm : IsFirm bytes clock tree heap
  pub static_bytes : ℕ
  pub has_static : IsStatic tree heap static_bytes
  pub fits : static_bytes ≤ 4096
  pub table_bytes : ℕ
  pub has_tables : AreTables tree heap table_bytes
  pub tables_fit : table_bytes ≤ 60000

-- so for some tree and heap
abbrev pub IsFittingIn : List ℕ → (clock : ℕ) → Type 0
IsFittingIn bytes clock = (tree : Node) × (heap : Heap) × IsFitting bytes clock tree heap

-- the bytes have this fault, where initialisation has this clock; what is not built is no fault of theirs
abbrev pub HasFitFault : Fault → List ℕ → (clock : ℕ) → Type 0
HasFitFault (StaticFull need) bytes clock = StaticFullIn bytes clock need
HasFitFault (TableFull need) bytes clock = TableFullIn bytes clock need
HasFitFault why bytes clock = HasLiveFault why bytes clock
