-- How many nodes stand in the bodies of what is live of a text, once its constructors left a heap, and what that says of the words of its code.
use Rattle.std.specs.Prelude.{◌≡◌, ℕ, ◌+◌, ◌*◌, ◌/◌, Bool, List, ◌∷◌}
use Rattle.vg_syntax.specs.Tree.{Node}
use Rattle.vg_source.specs.Values.{Heap}
use Rattle.vg_source.specs.Program.{source_of}
use Rattle.vg_method_sizes.specs.Sizes.{Size, sizes}
use Rattle.vg_live_source.specs.Members.{Member, Method}
use Rattle.vg_static_source.specs.Sums.{Tells, if_live, table_sum}
use Rattle.vg_calls_source.specs.Methods.{MethodName, DeclaredMethod, methods_of}

-- A method as a member.
abbrev pub member_of : MethodName → Member
member_of m = Method m.owner m.name

-- The nodes in the bodies of those methods that are live, each with its size.
abbrev pub nodes_among : (live : Member → Bool) → List DeclaredMethod → List Size → ℕ
nodes_among live (d ∷ ds) (s ∷ ss) = if_live (live (member_of d.method)) s.nodes + nodes_among live ds ss
nodes_among live _ _ = 0

-- The nodes in the bodies of the live methods of a text.
abbrev pub live_nodes : Node → (live : Member → Bool) → ℕ
live_nodes text live = nodes_among live (methods_of text) (sizes text)

-- So many words of flash are enough for the code and the tables of a text and its heap: 4,000, 64 for each node in the body of a live method, and one for each
-- two bytes of tables.
abbrev pub IsCodeBound : Node → Heap → ℕ → Type 0
IsCodeBound text h words =
    (live : Member → Bool) × Tells (source_of text) h live × (words ≡ 4000 + 64 * live_nodes text live + (table_sum text h live + 1) / 2)
