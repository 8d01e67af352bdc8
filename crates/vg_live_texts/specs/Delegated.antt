-- The heap of the text with a delegate in an array.
use Rattle.std.specs.Prelude.{ℕ, List, [], ◌++◌, codes, Some, None}
use Rattle.vg_source.specs.Values.{Heap}
use Rattle.vg_source.specs.Program.{source_of}
use Rattle.vg_source.specs.Session.{Initialised, Started, Failed, started}
use Rattle.vg_live_source.specs.Members.{Member, Method, Field, Cell}
use Rattle.vg_live_source.specs.Chains.{reason_line}
use Rattle.vg_examples.specs.Delegate.{delegate}

-- The heap, where there is one.
abbrev pub heap_in : Initialised → Heap
heap_in (Started heap) = heap
heap_in (Failed why) = record { cells = []; globals = [] }

-- The heap that the constructors leave.
abbrev pub heap : Heap
heap = heap_in (started (source_of delegate) 1000)

-- Its members.
abbrev pub hit : Member
hit = Method (codes "Main") (codes "hit")

abbrev pub entry : Member
entry = Method (codes "Main") (codes "main")

abbrev pub acts : Member
acts = Field (codes "Main") (codes "acts")

-- The lines of the chain.
abbrev pub entry_line : List ℕ
entry_line = reason_line entry 1 None

abbrev pub acts_lines : List ℕ
acts_lines = reason_line acts 5 (Some entry) ++ entry_line

abbrev pub cell_lines : List ℕ
cell_lines = reason_line (Cell 0) 7 (Some acts) ++ acts_lines

abbrev pub hit_lines : List ℕ
hit_lines = reason_line hit 8 (Some (Cell 0)) ++ cell_lines
