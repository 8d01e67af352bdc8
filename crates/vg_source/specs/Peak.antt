-- What the active calls of a session cost at most, counted in the source's own calls.
use Rattle.std.specs.Prelude.{ℕ, zero, suc, ◌+◌, ◌*◌, max, List, [], ◌∷◌, ◌++◌, length, None}
use Rattle.vg_syntax.specs.Tree.{Node, Then, ClassDecl, ComponentDecl, MethodDecl}
use Rattle.vg_syntax.specs.Numbering.{count_nodes}
use Rattle.vg_meaning.specs.History.{Active, Calling, Making}
use Rattle.vg_source.specs.Nodes.{count_locals}
use Rattle.vg_meaning.specs.Seen.{Seen}
use Rattle.vg_source.specs.Values.{Heap}
use Rattle.vg_source.specs.Program.{declarations_of, source_of}
use Rattle.vg_source.specs.Session.{Session, session}

-- The cost of a method: 32, and 4 for each parameter, each local and each node of its body, the block itself among them.
abbrev pub declared_cost : Node → List ℕ
declared_cost (MethodDecl at n ps t body) = (32 + 4 * (length ps + count_locals body + count_nodes body)) ∷ []
declared_cost _ = []

-- The costs of the methods among members, in order of the text.
abbrev pub costs_of : Node → List ℕ
costs_of (Then m rest) = declared_cost m ++ costs_of rest
costs_of _ = []

-- The costs of the methods of a declaration.
abbrev pub member_costs : Node → List ℕ
member_costs (ClassDecl at c above members) = costs_of members
member_costs (ComponentDecl at c members) = costs_of members
member_costs _ = []

-- The costs of all methods, in order of the text.
abbrev pub costs_in : Node → List ℕ
costs_in (Then d rest) = member_costs d ++ costs_in rest
costs_in _ = []

-- The costs of all methods of a text.
abbrev pub costs : Node → List ℕ
costs text = costs_in (declarations_of text)

-- The cost of the method of this number.
abbrev pub cost_of : List ℕ → ℕ → ℕ
cost_of [] n = 0
cost_of (c ∷ cs) zero = c
cost_of (c ∷ cs) (suc n) = cost_of cs n

-- The cost of an active call: making costs nothing, as only methods are called in a run.
abbrev pub call_cost : List ℕ → Active → ℕ
call_cost cs (Calling method) = cost_of cs method
call_cost cs Making = 0

-- The cost of the calls that are active at one time.
abbrev pub total_cost : List ℕ → List Active → ℕ
total_cost cs [] = 0
total_cost cs (call ∷ calls) = call_cost cs call + total_cost cs calls

-- The largest of such costs.
abbrev pub most : List ℕ → List (List Active) → ℕ
most cs [] = 0
most cs (calls ∷ rest) = max (total_cost cs calls) (most cs rest)

-- The peak of a session: 4, and the largest cost of calls that were active behind a tick. A call is active from its tick on, which
-- comes before the look at the limit: so a call that is one too deep counts too.
abbrev pub peak : Node → Session → ℕ
peak text s = 4 + most (costs text) s.history.behind_ticks

-- What a session of a text shows.
abbrev pub seen : Node → Session → Seen
seen text s = record { trace = s.trace; ending = s.ending; peak = peak text s }

-- What the sessions of a text from its initialised heap show, without a limit on active calls.
abbrev pub sessions : Node → Heap → (reads interrupts : List ℕ) → (clock : ℕ) → Seen
sessions text heap reads interrupts clock = seen text (session (source_of text) heap None reads interrupts clock)
