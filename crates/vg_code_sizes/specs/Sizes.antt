-- The size of structured code, by the weights of its steps: a choice, a loop and a jump weigh one besides what they hold.
use Rattle.std.specs.Prelude.{ℕ, ◌+◌, Bool, true, false, not}
use Rattle.vg_meaning.specs.Code.{Code, Nothing, Then, Do, If, Loop}

-- The size of code.
abbrev pub size : {P : Type 0} → (weight : P → ℕ) → Code P → ℕ
size weight Nothing = 0
size weight (Then a b) = size weight a + size weight b
size weight (Do p) = weight p
size weight (If a b) = 1 + (size weight a + size weight b)
size weight (Loop c body next) = 1 + (size weight c + (size weight body + size weight next))
size weight _ = 1

-- Whether code is one operator before an operand and no more.
abbrev pub is_one : {P : Type 0} → (operator : P → Bool) → Code P → Bool
is_one operator (Do p) = operator p
is_one operator _ = false

-- An operator that waits weighs one.
abbrev pub waits : Bool → ℕ
waits true = 1
waits false = 0

-- Code of this size, behind an operator that may wait, and then the rest. An operator waits until it is known what follows, and two of
-- them, one behind the other, weigh nothing.
abbrev pub and_rest : (waiting this : Bool) → ℕ → (rest : Bool → ℕ) → ℕ
and_rest waiting true n rest = rest (not waiting)
and_rest waiting false n rest = waits waiting + n + rest false

-- The size of code in which each two operators before an operand, one behind the other, are dropped; an operator may wait in front.
abbrev pub unpaired_size : {P : Type 0} → (weight : P → ℕ) → (operator : P → Bool) → (waiting : Bool) → Code P → ℕ
unpaired_size weight operator o Nothing = waits o
unpaired_size weight operator o (Then a b) =
    and_rest o (is_one operator a) (unpaired_size weight operator false a) (λ this. unpaired_size weight operator this b)
unpaired_size weight operator o (Do p) = waits o + weight p
unpaired_size weight operator o (If a b) = waits o + (1 + (unpaired_size weight operator false a + unpaired_size weight operator false b))
unpaired_size weight operator o (Loop c body next) =
    waits o
    + (1 + (unpaired_size weight operator false c + (unpaired_size weight operator false body + unpaired_size weight operator false next)))
unpaired_size weight operator o _ = waits o + 1
