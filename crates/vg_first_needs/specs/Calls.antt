-- What the calls of a program of constants need.
use Rattle.std.specs.Prelude.{ℕ, ◌≡◌, ◌+◌}
use Rattle.vg_syntax.specs.Tree.{Node}
use Rattle.vg_source.specs.Values.{Heap}
use Rattle.vg_calls_source.specs.Bounds.{HasNoCycle, IsSpent}

-- no cycle of calls is reached in the text, and four bytes are at most four more than the methods of some way of calls cost
abbrev pub NeedsFour : Node → Heap → Type 0
NeedsFour tree heap = HasNoCycle tree heap × ((bytes : ℕ) × (4 ≡ 4 + bytes) × IsSpent tree heap bytes)
