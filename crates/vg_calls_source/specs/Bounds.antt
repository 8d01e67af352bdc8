-- What the calls of a text may cost that are active at one time, by the methods that call one another.
use Rattle.std.specs.Prelude.{ℕ, List, Option, Some, None}
use Rattle.vg_syntax.specs.Tree.{Node}
use Rattle.vg_source.specs.Values.{Heap}
use Rattle.vg_source.specs.Peak.{cost_of, costs}
use Rattle.vg_source.specs.Program.{source_of}
use Rattle.vg_live_source.specs.Making.{number_of}
use Rattle.vg_calls_source.specs.Graphs as graph
use Rattle.vg_calls_source.specs.Methods.{MethodName}
use Rattle.vg_calls_source.specs.Calls.{Calls, IsEntry}

abbrev pub cost_at : List ℕ → Option ℕ → ℕ
cost_at all (Some n) = cost_of all n
cost_at all None = 0

-- The cost of a method.
abbrev pub method_cost : Node → MethodName → ℕ
method_cost text m = cost_at (costs text) (number_of (source_of text) m.owner m.name)

-- Methods each of which may call the next one, and the last one the first, to which calls lead from the method of an entry.
abbrev pub IsCallCycle : Node → Heap → List MethodName → Type 0
IsCallCycle text h = graph.IsCycleIn (IsEntry text) (Calls text h)

-- There are no such methods.
abbrev pub HasNoCycle : Node → Heap → Type 0
HasNoCycle text h = graph.HasNoCycle (IsEntry text) (Calls text h)

-- The methods of some way of calls from the method of an entry cost at least so much together.
abbrev pub IsSpent : Node → Heap → (bytes : ℕ) → Type 0
IsSpent text h = graph.IsSpent (IsEntry text) (Calls text h) (method_cost text)

-- So much the methods of a way cost at most together, and those of some way do.
abbrev pub IsPath : Node → Heap → (bytes : ℕ) → Type 0
IsPath text h = graph.IsPath (IsEntry text) (Calls text h) (method_cost text)
