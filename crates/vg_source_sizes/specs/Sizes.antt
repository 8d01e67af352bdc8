-- The size of a source program's code, as that of the code that is packed of it.
use Rattle.std.specs.Prelude.{◌≤◌, ℕ, Bool, true, false, List, [], ◌∷◌}
use Rattle.vg_meaning.specs.Code.{Code}
use Rattle.vg_code_sizes.specs.Sizes.{unpaired_size}
use Rattle.vg_source.specs.Steps.{Step, Put, Literal, This, Forget, Apply, Routine}
use Rattle.vg_method_sizes.specs.Sizes.{Size}

-- A constant, the receiver and a dropped value weigh nothing, and each other step weighs one.
abbrev pub weight : Step → ℕ
weight (Put v) = 0
weight (Literal k) = 0
weight This = 0
weight Forget = 0
weight _ = 1

-- Whether a step is an operator before an operand.
abbrev pub is_prefix : Step → Bool
is_prefix (Apply op) = true
is_prefix _ = false

-- The size of code, without pairs of operators before an operand.
abbrev pub code_size : Code Step → ℕ
code_size c = unpaired_size weight is_prefix false c

-- Each of these routines is at most as large as the method whose size stands at its place has nodes.
abbrev pub AreWithin : List Routine → List Size → Type 0
AreWithin [] [] = Unit {0}
AreWithin (r ∷ rs) (s ∷ ss) = (code_size r.body ≤ s.nodes) × AreWithin rs ss
AreWithin _ _ = ⊥
