-- How large the methods of a text are.
use Rattle.std.specs.Prelude.{ℕ, ◌+◌, ◌*◌, List, [], ◌∷◌, length, flat_map}
use Rattle.vg_syntax.specs.Tree.{Node, MethodDecl}
use Rattle.vg_syntax.specs.Numbering.{count_nodes}
use Rattle.vg_source.specs.Nodes.{count_locals}
use Rattle.vg_source.specs.Steps.{Routine, Target, Method}
use Rattle.vg_source.specs.Program.{declarations_of}
use Rattle.vg_rules.specs.Counts.{in_row, members_at}

-- How many parameters and locals a method has, and how many nodes its body has, the block itself among them.
pub record Size : Type 0 where
  pub params : ℕ
  pub locals : ℕ
  pub nodes : ℕ

-- The size of a method.
abbrev pub size_at : Node → List Size
size_at (MethodDecl at x ps t body) = record { params = length ps; locals = count_locals body; nodes = count_nodes body } ∷ []
size_at _ = []

-- The sizes of the methods of declarations, in order of the text: the number of a method is the place of its size.
abbrev pub sizes_in : Node → List Size
sizes_in ds = flat_map size_at (flat_map members_at (in_row ds))

-- The sizes of the methods of a text.
abbrev pub sizes : Node → List Size
sizes text = sizes_in (declarations_of text)

-- What an active call of a method of this size costs: 32, and 4 for each parameter, local and node.
abbrev pub cost : Size → ℕ
cost s = 32 + 4 * (s.params + s.locals + s.nodes)

-- The methods among all that runs.
abbrev pub if_method : Target → Routine → List Routine
if_method (Method c x) r = r ∷ []
if_method _ r = []

abbrev pub methods_among : List Routine → List Routine
methods_among rs = flat_map (λ r. if_method r.target r) rs
