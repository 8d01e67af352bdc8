-- Blocks: structured code over the instructions of linear code. Each stands for structured code, and has its instructions from a place on.
use Rattle.std.specs.Prelude.{ℕ, ◌+◌, ◌==◌, List, [], ◌∷◌, ◌++◌, length, map, if◌then◌else◌}
use Rattle.vg_meaning.specs.Code.{Code, Nothing, Then, Do, If, Loop, Break as Breaking, Continue as Continuing, Return as Returning}
use Rattle.vg_lin.specs.declared.instr.Operand.{Operand}
use Rattle.vg_lin.specs.declared.instr.Plain.{Plain as PlainInstr}
use Rattle.vg_lin.specs.declared.instr.Plain.TheVariants.{Push, Stop}
use Rattle.vg_lin.specs.declared.instr.Passed.{Passed}
use Rattle.vg_lin.specs.declared.instr.Call.{Call as Calling}
use Rattle.vg_lin.specs.declared.instr.Instr.{Instr}
use Rattle.vg_lin.specs.declared.instr.Instr.TheVariants.{Plain, When, Unless, Jump, Call, Return, Idle}
use Rattle.vg_lin.specs.Structured.{Step, Here, Pick, Flip, Give, To, Rest}
use Rattle.vg_flatten_shapes.specs.declared.open.Truth.{Truth}
use Rattle.vg_flatten_shapes.specs.declared.open.Truth.TheVariants.{Holds, Fails}
use Rattle.vg_flatten_shapes.specs.declared.open.Open.{Open}
use Rattle.vg_flatten_shapes.specs.declared.open.Open.TheVariants.{Set, Break, Continue}

pub data Block : Type 0 where
  Skip : Block
  One : (p : PlainInstr) → Block
  CallTo : (pushed : List Passed) (c : Calling) → Block
  TakeInterrupt : Block
  GiveBack : (width : ℕ) (a : Operand) → Block
  BreakOut : Block
  GoOn : Block
  Both : (first rest : Block) → Block
  Choice : (t : Truth) (then' else' : Block) → Block
  Repeat : (before : Block) (t : Truth) (body next : Block) → Block

-- The run stops with an exception of this code where the truth value holds.
abbrev pub stop_where : (code : ℕ) → Truth → Block
stop_where code t = Choice t (One (Stop code)) Skip

-- ---- what a block means

-- A truth value: a test, or that it does not hold.
abbrev pub picked : Truth → Code Step
picked (Holds t) = Do (Pick t)
picked (Fails t) = Then (Do (Pick t)) (Do Flip)

-- Values are pushed one by one, so many bytes of each, and then something is done.
abbrev pub pushing : List Passed → Code Step → Code Step
pushing [] c = c
pushing (a ∷ more) c = Then (Do (Here (Push a.width a.value))) (pushing more c)

abbrev pub structured : Block → Code Step
structured Skip = Nothing
structured (One p) = Do (Here p)
structured (CallTo pushed c) = pushing pushed (Do (To c))
structured TakeInterrupt = Do Rest
structured (GiveBack width a) = Then (Do (Give width a)) Returning
structured BreakOut = Breaking
structured GoOn = Continuing
structured (Both a b) = Then (structured a) (structured b)
structured (Choice t a b) = Then (picked t) (If (structured a) (structured b))
structured (Repeat before t body next) = Loop (Then (structured before) (picked t)) (structured body) (structured next)

-- ---- the instructions of a block

-- The branch to a place where the truth value is false.
abbrev pub branch : Truth → (to : ℕ) → Instr
branch (Holds t) to = Unless t to
branch (Fails t) to = When t to

-- A jump out of a loop gets its place: behind the loop, or where its next turn is made.
abbrev pub closed : (behind again : ℕ) → Open → Open
closed behind again (Set i) = Set i
closed behind again Break = Set (Jump behind)
closed behind again Continue = Set (Jump again)

-- A choice from a place on: the branch, what is done where the value is true, a jump behind the rest, and the rest; where there is no
-- rest, the branch leads behind what is done.
abbrev pub choice_code : Truth → (at : ℕ) → (x y : List Open) → List Open
choice_code t at x y =
    if length y == 0 then Set (branch t (at + 1 + length x)) ∷ x
    else Set (branch t (at + 1 + length x + 1)) ∷ (x ++ (Set (Jump (at + 1 + length x + 1 + length y)) ∷ y))

-- A loop from a place on: what is done before its test, the branch behind it, the body, what is done behind that, and the jump back.
abbrev pub loop_code : Truth → (at : ℕ) → (x y z : List Open) → List Open
loop_code t at x y z =
    x ++ (Set (branch t (at + length x + 1 + length y + length z + 1)) ∷
    (map (closed (at + length x + 1 + length y + length z + 1) (at + length x + 1 + length y)) y ++ (z ++ (Set (Jump at) ∷ []))))

-- The pushes of a call, and the call behind them.
abbrev pub call_code : List Passed → Calling → List Open
call_code [] c = Set (Call c) ∷ []
call_code (a ∷ more) c = Set (Plain (Push a.width a.value)) ∷ call_code more c

abbrev pub open_code : Block → (at : ℕ) → List Open
open_code Skip at = []
open_code (One p) at = Set (Plain p) ∷ []
open_code (CallTo pushed c) at = call_code pushed c
open_code TakeInterrupt at = Set Idle ∷ []
open_code (GiveBack width a) at = Set (Return width a) ∷ []
open_code BreakOut at = Break ∷ []
open_code GoOn at = Continue ∷ []
open_code (Both a b) at = open_code a at ++ open_code b (at + length (open_code a at))
open_code (Choice t a b) at =
    choice_code t at (open_code a (at + 1)) (open_code b (at + 1 + length (open_code a (at + 1)) + 1))
open_code (Repeat before t body next) at =
    loop_code t at (open_code before at) (open_code body (at + length (open_code before at) + 1))
    (open_code next (at + length (open_code before at) + 1 + length (open_code body (at + length (open_code before at) + 1))))

-- An instruction whose jumps out of a loop go to these places.
abbrev pub set_in : (behind again : ℕ) → Open → Instr
set_in x y (Set i) = i
set_in x y Break = Jump x
set_in x y Continue = Jump y

-- At most so many instructions are in a block: a choice counts with the jump before its second way.
abbrev pub block_size : Block → ℕ
block_size Skip = 0
block_size (CallTo pushed c) = length pushed + 1
block_size (Both a b) = block_size a + block_size b
block_size (Choice t a b) = 2 + block_size a + block_size b
block_size (Repeat p t body next) = 2 + block_size p + block_size body + block_size next
block_size b = 1
