-- Ways along the calls that the procedures of a packed program name, from main or a handler on, what the calls of a way cost, and cycles.
use Rattle.std.specs.Prelude.{ℕ, ◌≡◌, ◌⊎◌, true, List, Option, Some, None, slice_get}
use Rattle.vg_source.specs.Peak.{cost_of}
use Rattle.vg_firm.specs.declared.procedure.Procedure.{Procedure}
use Rattle.vg_firm.specs.Session.{is_among}
use Rattle.vg_calls_source.specs.Graphs as graph
use Rattle.vg_packed.specs.Programs.{handler_in}
use Rattle.vg_packed.specs.declared.program.FirmProgram.{FirmProgram}

-- procedure p names q among those that it may call
abbrev pub CallsAs : Option Procedure → (q : ℕ) → Type 0
CallsAs (Some m) q = is_among m.calls q ≡ true
CallsAs None q = ⊥

abbrev pub Calls : List Procedure → (p q : ℕ) → Type 0
Calls all p q = CallsAs (slice_get all p) q

-- main, or the procedure of the handler of an interrupt
abbrev pub IsEntry : FirmProgram → ℕ → Type 0
IsEntry f q = (q ≡ f.main) ⊎ ((vector : ℕ) × (handler_in f.handlers vector ≡ Some q))

-- these procedures are a way from main or a handler to q
abbrev pub IsWayTo : FirmProgram → (q : ℕ) → List ℕ → Type 0
IsWayTo f = graph.IsWayTo (IsEntry f) (Calls f.procedures)

-- what a call of a procedure costs, by costs of methods
abbrev pub cost_in : (costs : List ℕ) → Option Procedure → ℕ
cost_in costs (Some m) = cost_of costs m.method
cost_in costs None = 0

abbrev pub cost_at : List Procedure → (costs : List ℕ) → (q : ℕ) → ℕ
cost_at all costs q = cost_in costs (slice_get all q)

-- what one call of each of these procedures costs together
abbrev pub way_cost : List Procedure → (costs : List ℕ) → List ℕ → ℕ
way_cost all costs = graph.sum_of (cost_at all costs)

-- There is a way whose calls cost so much.
abbrev pub IsSpent : FirmProgram → (costs : List ℕ) → (bytes : ℕ) → Type 0
IsSpent f costs bytes = (way : List ℕ) × (q : ℕ) × IsWayTo f q way × (way_cost f.procedures costs way ≡ bytes)

-- Procedures each of which may call the next one, and the last one the first, with a way to the first of them.
abbrev pub IsCycleIn : FirmProgram → List ℕ → Type 0
IsCycleIn f = graph.IsCycleIn (IsEntry f) (Calls f.procedures)

-- There are no such procedures.
abbrev pub HasNoCycle : FirmProgram → Type 0
HasNoCycle f = graph.HasNoCycle (IsEntry f) (Calls f.procedures)

-- the methods that procedures are, where they are there
abbrev pub method_in : Option Procedure → ℕ
method_in (Some m) = m.method
method_in None = 0

abbrev pub method_at : List Procedure → ℕ → ℕ
method_at all q = method_in (slice_get all q)
