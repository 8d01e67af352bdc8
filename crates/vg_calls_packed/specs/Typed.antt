-- The calls of a typed program, once its constructors left a heap: ways from the methods of its entries, and cycles. A call leads from a method to one that it may
-- call.
use Rattle.std.specs.Prelude.{ℕ, ◌≡◌, ◌⊎◌, List, Some}
use Rattle.vg_source.specs.Peak.{cost_of}
use Rattle.vg_core.specs.declared.heap.Heap.{Heap}
use Rattle.vg_core.specs.Program.{Program}
use Rattle.vg_core.specs.Session.{handler_of}
use Rattle.vg_calls_source.specs.Graphs as graph
use Rattle.vg_packed.specs.Uses.{Calls}

-- The method of the entry `main`, or of the entry of an interrupt.
abbrev pub IsEntry : Program → ℕ → Type 0
IsEntry p m = (m ≡ p.main) ⊎ ((vector : ℕ) × (handler_of p.handlers vector ≡ Some m))

-- Methods each of which may call the next one, and the last one the first, to which calls lead from the method of an entry.
abbrev pub IsCallCycle : Program → Heap → List ℕ → Type 0
IsCallCycle p h = graph.IsCycleIn (IsEntry p) (Calls p h)

-- There are no such methods.
abbrev pub HasNoCycle : Program → Heap → Type 0
HasNoCycle p h = graph.HasNoCycle (IsEntry p) (Calls p h)

-- By these costs the methods of a way cost at most so much together, and those of some way do.
abbrev pub IsPath : Program → Heap → (costs : List ℕ) → (bytes : ℕ) → Type 0
IsPath p h costs = graph.IsPath (IsEntry p) (Calls p h) (cost_of costs)
