-- The weight of packed code: at least as much as there are instructions of linear code for it.
use Rattle.std.specs.Prelude.{ℕ, ◌+◌, ◌*◌}
use Rattle.vg_meaning.specs.Code.{Code, Nothing, Then, Do, If, Loop, Break, Continue, Return}
use Rattle.vg_firm.specs.declared.step.Step.{Step}
use Rattle.vg_firm.specs.declared.step.Step.TheVariants.{Number, This, Local, SetLocal, Forget, Bind, Call, CallFor, CallValue}

-- A step that makes no instruction weighs what a test costs that waits in front of it, and one that makes a single one weighs one more; each
-- other step weighs 20, and an argument two besides, since it is popped and passed.
abbrev pub step_weight : Step → ℕ
step_weight (Number v) = 4
step_weight This = 4
step_weight (Local i) = 4
step_weight Forget = 4
step_weight (SetLocal i) = 5
step_weight (Bind q) = 5
step_weight (Call q count) = 20 + 2 * count
step_weight (CallFor d count) = 20 + 2 * count
step_weight (CallValue count) = 20 + 2 * count
step_weight p = 20

abbrev pub flat_weight : Code Step → ℕ
flat_weight Nothing = 0
flat_weight (Then a b) = flat_weight a + flat_weight b
flat_weight (Do p) = step_weight p
flat_weight (If a b) = 12 + flat_weight a + flat_weight b
flat_weight (Loop c body next) = 3 + flat_weight c + flat_weight body + flat_weight next
flat_weight Break = 1
flat_weight Continue = 1
flat_weight Return = 5
