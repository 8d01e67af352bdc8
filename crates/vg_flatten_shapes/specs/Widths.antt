-- How many bytes arguments and results have.
use Rattle.std.specs.Prelude.{ℕ, List, [], ◌∷◌, Option, Some, None}
use Rattle.vg_flatten_shapes.specs.declared.layout.Width.{Width}
use Rattle.vg_flatten_shapes.specs.declared.layout.Width.TheVariants.{One, Two, Three, Four}

abbrev pub bytes_of : Width → ℕ
bytes_of One = 1
bytes_of Two = 2
bytes_of Three = 3
bytes_of Four = 4

abbrev pub all_bytes : List Width → List ℕ
all_bytes [] = []
all_bytes (w ∷ ws) = bytes_of w ∷ all_bytes ws

-- No result has no byte.
abbrev pub result_bytes : Option Width → ℕ
result_bytes (Some w) = bytes_of w
result_bytes None = 0
