-- The weight of a source program's code, as that of the code that is packed of it.
use Rattle.std.specs.Prelude.{◌≤◌, ℕ, ◌+◌, ◌*◌, List, [], ◌∷◌}
use Rattle.vg_meaning.specs.Code.{Code, Then, Do, If, Loop}
use Rattle.vg_source.specs.Steps.{Step, Put, Literal, This, Forget, CallMethod, CallValue, CallComponent, Routine}
use Rattle.vg_source_sizes.specs.Sizes.{code_size}
use Rattle.vg_method_sizes.specs.Sizes.{Size}

-- What a step costs beside its size: one where it has none, and one for each argument of a call.
abbrev pub extra : Step → ℕ
extra (Put v) = 1
extra (Literal k) = 1
extra This = 1
extra Forget = 1
extra (CallMethod at c m count) = count
extra (CallValue at count ps r) = count
extra (CallComponent c m count) = count
extra _ = 0

abbrev pub extras : Code Step → ℕ
extras (Then a b) = extras a + extras b
extras (Do p) = extra p
extras (If a b) = extras a + extras b
extras (Loop c body next) = extras c + (extras body + extras next)
extras _ = 0

-- The weight of code: 20 for what has a size, and 4 for what costs something beside it.
abbrev pub code_weight : Code Step → ℕ
code_weight c = 20 * code_size c + 4 * extras c

-- Each of these routines weighs at most 28 times as much as the method whose size stands at its place has nodes.
abbrev pub AreLight : List Routine → List Size → Type 0
AreLight [] [] = Unit {0}
AreLight (r ∷ rs) (s ∷ ss) = (code_weight r.body ≤ 28 * s.nodes) × AreLight rs ss
AreLight _ _ = ⊥
