-- How the initialisation of a text goes: to a heap, or to a fault.
use Rattle.std.specs.Prelude.{ℕ, ◌≡◌, List, Option, Some, None}
use Rattle.vg_meaning.specs.Answer.{End, Stops, Touches, OutOfClock, OutOfDepth, OutOfRoom}
use Rattle.vg_syntax.specs.Tree.{Node}
use Rattle.vg_source.specs.Values.{Heap}
use Rattle.vg_source.specs.Program.{source_of}
use Rattle.vg_source.specs.Session.{Initialised, Started, Failed, started}
use Rattle.vg_faults.specs.declared.fault.Fault.{Fault}
use Rattle.vg_faults.specs.declared.fault.Fault.TheVariants.{InitTrap, InitSteps, InitDepth, InitTouches, InitTooBig}
use Rattle.vg_faults.specs.Judged.{IsLegal, place_in}

-- the ticks that initialisation may take where nothing else is asked for
abbrev pub init_steps : ℕ
init_steps = 1000000

-- what is answered for why the initialisation of a tree failed: the place in place of the node; no legal program fails in another way
abbrev pub failure_of : Node → End → Option Fault
failure_of tree (Stops code (Some node)) = Some (InitTrap code (place_in node tree))
failure_of tree OutOfClock = Some InitSteps
failure_of tree OutOfDepth = Some InitDepth
failure_of tree (Touches address) = Some (InitTouches address)
failure_of tree OutOfRoom = Some InitTooBig
failure_of tree _ = None

-- the answer for the initialisation of a tree; one that gives a heap has none
abbrev pub start_fault : Node → Initialised → Option Fault
start_fault tree (Started heap) = None
start_fault tree (Failed why) = failure_of tree why

-- the bytes are a legal text, whose initialisation with this clock fails so
abbrev pub FailsIn : List ℕ → (clock : ℕ) → Fault → Type 0
FailsIn bytes clock why = (tree : Node) × IsLegal bytes tree × (start_fault tree (started (source_of tree) clock) ≡ Some why)

-- the bytes are a legal text, which is initialised to a heap with this clock
abbrev pub StartsIn : List ℕ → (clock : ℕ) → Type 0
StartsIn bytes clock = (tree : Node) × IsLegal bytes tree × (heap : Heap) × (started (source_of tree) clock ≡ Started heap)
