-- The heap of the text in which a subclass has a method of its own.
use Rattle.std.specs.Prelude.{List, ℕ, ◌++◌, codes, Some, None}
use Rattle.vg_source.specs.Values.{Heap}
use Rattle.vg_source.specs.Program.{source_of}
use Rattle.vg_source.specs.Session.{started}
use Rattle.vg_examples.specs.Dispatch.{dispatch}
use Rattle.vg_live_source.specs.Members.{Member, Method, Field}
use Rattle.vg_live_source.specs.Chains.{reason_line}
use Rattle.vg_live_texts.specs.Delegated.{heap_in}

-- The heap that the constructors leave.
abbrev pub heap : Heap
heap = heap_in (started (source_of dispatch) 1000)

-- Its members.
abbrev pub own : Member
own = Method (codes "B") (codes "m")

abbrev pub entry : Member
entry = Method (codes "Main") (codes "main")

abbrev pub place : Member
place = Field (codes "Main") (codes "a")

-- The lines of the chain.
abbrev pub own_lines : List ℕ
own_lines = reason_line own 4 (Some entry) ++ reason_line entry 1 None
