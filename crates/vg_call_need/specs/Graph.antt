-- The call graph of a packed program: a node for each procedure.
use Rattle.std.specs.Prelude.{ℕ, nat_lt, List, [], ◌∷◌, ◌++◌, Option, Some, None, length, map, if◌then◌else◌}
use Rattle.vg_source.specs.Peak.{cost_of}
use Rattle.vg_firm.specs.declared.procedure.Procedure.{Procedure}
use Rattle.vg_packed.specs.Programs.{handler_in}
use Rattle.vg_packed.specs.declared.program.Entrance.{Entrance}
use Rattle.vg_packed.specs.declared.program.FirmProgram.{FirmProgram}
use Rattle.vg_bound.specs.declared.root.Root.{Root}
use Rattle.vg_bound.specs.Graph.{Graph, of_parts}

-- those of some procedures of which the place is below a count
abbrev pub kept : (count q : ℕ) → List ℕ
kept count q = if nat_lt q count then q ∷ [] else []

abbrev pub below : (count : ℕ) → List ℕ → List ℕ
below count [] = []
below count (q ∷ qs) = kept count q ++ below count qs

abbrev pub one_or_none : Option ℕ → List ℕ
one_or_none (Some q) = q ∷ []
one_or_none None = []

-- the procedures of the handlers of the interrupts of some entries
abbrev pub handlers_of : (all entries : List Entrance) → List ℕ
handlers_of all [] = []
handlers_of all (e ∷ es) = one_or_none (handler_in all e.vector) ++ handlers_of all es

-- main, and the procedures of handlers
abbrev pub entries_of : FirmProgram → List ℕ
entries_of f = f.main ∷ handlers_of f.handlers f.handlers

-- the frames of procedures, by those of methods
abbrev pub frames_of : (frames : List ℕ) → List Procedure → List ℕ
frames_of frames all = map (λ m. cost_of frames m.method) all

-- what each of some procedures names, of the first so many
abbrev pub named : (count : ℕ) → List Procedure → List (List ℕ)
named count ms = map (λ m. below count m.calls) ms

abbrev pub calls_of : List Procedure → List (List ℕ)
calls_of all = named (length all) all

abbrev pub root : (extra q : ℕ) → Root
root extra q = record { node = q; extra = extra }

-- a node for each procedure, an edge to each that it names, and main and the handlers as roots
abbrev pub graph_of : (extra : ℕ) → FirmProgram → (frames : List ℕ) → Graph
graph_of extra f frames =
    of_parts (frames_of frames f.procedures) (calls_of f.procedures) (map (root extra) (below (length f.procedures) (entries_of f)))
