-- How many words of flash the code takes at most that instructions and blocks become, when their arithmetic is expanded.
use Rattle.std.specs.Prelude.{ℕ, ◌+◌, List, [], ◌∷◌, Option, Some, None}
use Rattle.vg_lin.specs.declared.instr.Test.{Test}
use Rattle.vg_lin.specs.declared.instr.Plain.TheVariants.{Push}
use Rattle.vg_lin.specs.declared.instr.Passed.{Passed}
use Rattle.vg_lin.specs.declared.instr.Instr.{Instr}
use Rattle.vg_lin.specs.declared.instr.Instr.TheVariants.{Plain, Call, Return, Idle}
use Rattle.vg_flatten_shapes.specs.declared.open.Truth.{Truth}
use Rattle.vg_flatten_shapes.specs.declared.open.Truth.TheVariants.{Holds, Fails}
use Rattle.vg_flatten_shapes.specs.declared.open.Open.{Open}
use Rattle.vg_flatten_shapes.specs.declared.open.Open.TheVariants.{Set, Break, Continue}
use Rattle.vg_flatten_shapes.specs.Blocks.{Block, Skip, One, CallTo, TakeInterrupt, GiveBack, BreakOut, GoOn, Both, Choice, Repeat}
use Rattle.vg_expand.specs.Code.{Base, expanded_at}
use Rattle.vg_instr_words.specs.Words.{test_words, instr_words}

-- ---- instructions; dispatches have so many cases

abbrev pub list_words : (cases : ℕ → ℕ) → List Instr → ℕ
list_words cases [] = 0
list_words cases (i ∷ is) = instr_words cases i + list_words cases is

-- Products take the most words where no local has one byte.
abbrev pub unknown : Base
unknown = record { first = 0; widths = [] }

-- The words of what stands for an instruction in expanded code.
abbrev pub grown_words : (cases : ℕ → ℕ) → Instr → ℕ
grown_words cases i = list_words cases (expanded_at unknown (λ to. 0) i)

abbrev pub grown_list : (cases : ℕ → ℕ) → List Instr → ℕ
grown_list cases [] = 0
grown_list cases (i ∷ is) = grown_words cases i + grown_list cases is

-- The same of instructions whose places may be open: each of them is a jump.
abbrev pub open_word : (cases : ℕ → ℕ) → Open → ℕ
open_word cases (Set i) = grown_words cases i
open_word cases Break = 2
open_word cases Continue = 2

abbrev pub open_words : (cases : ℕ → ℕ) → List Open → ℕ
open_words cases [] = 0
open_words cases (o ∷ os) = open_word cases o + open_words cases os

-- ---- blocks

abbrev pub test_in : Truth → Test
test_in (Holds t) = t
test_in (Fails t) = t

-- the branch at a truth value
abbrev pub branch_words : Truth → ℕ
branch_words t = test_words (test_in t) + 3

-- A second way of so many words has a jump before it, where there is one.
abbrev pub way_words : Block → (words : ℕ) → ℕ
way_words Skip n = 0
way_words b n = 2 + n

abbrev pub pushes_words : (cases : ℕ → ℕ) → List Passed → ℕ
pushes_words cases [] = 0
pushes_words cases (a ∷ more) = grown_words cases (Plain (Push a.width a.value)) + pushes_words cases more

abbrev pub block_words : (cases : ℕ → ℕ) → Block → ℕ
block_words cases Skip = 0
block_words cases (One p) = grown_words cases (Plain p)
block_words cases (CallTo pushed c) = pushes_words cases pushed + grown_words cases (Call c)
block_words cases TakeInterrupt = grown_words cases Idle
block_words cases (GiveBack width a) = grown_words cases (Return width a)
block_words cases BreakOut = 2
block_words cases GoOn = 2
block_words cases (Both a b) = block_words cases a + block_words cases b
block_words cases (Choice t a b) = branch_words t + block_words cases a + way_words b (block_words cases b)
block_words cases (Repeat before t body next) =
    block_words cases before + branch_words t + block_words cases body + block_words cases next + 2

-- What a truth value takes that waits as a test, where it becomes a number: the branch, the copies of 1 and 0, and the jump between them.
-- Where a branch takes it, that takes fewer.
abbrev pub waiting_words : Option Truth → ℕ
waiting_words None = 0
waiting_words (Some t) = branch_words t + 17
