-- What it means that a procedure of linear code is the routine of an operator.
use Rattle.std.specs.Prelude.{◌≡◌, ℕ, suc, ◌-◌, ◌<◌, ◌≤◌, ◌^◌, true, List, [], ◌∷◌, length, take, Option, Some, None, slice_get}
use Rattle.vg_meaning.specs.History.{History}
use Rattle.vg_meaning.specs.World.{World}
use Rattle.vg_lin.specs.declared.instr.Operator.{Operator}
use Rattle.vg_lin.specs.declared.instr.Operator.TheVariants.{Times, Divide, Remainder, ShiftLeft, ShiftRight}
use Rattle.vg_lin.specs.Values.{low, computed}
use Rattle.vg_lin.specs.Sound.{IsWidth}
use Rattle.vg_lin.specs.Onward.{all_lead_on}
use Rattle.vg_lin.specs.Program.{Procedure, Program}
use Rattle.vg_lin.specs.State.{LocalState, State}
use Rattle.vg_lin.specs.Meaning.{begun, resume, language, codes_in}
use Rattle.vg_lin.specs.Steps.{Frame}
use Rattle.vg_lin.specs.Follows.{Leads, conf}
use Rattle.vg_arith.specs.Simple.{are_simple}

-- The state of a procedure with these locals, where nothing waits.
abbrev pub with_locals : (ram : List ℕ) → List LocalState → State
with_locals ram ls = record { locals = ls; waiting = []; ram = ram }

-- In every program that has the procedure, a call with these arguments comes back with this result. Its frame, the columns and the
-- outside are as they were.
abbrev pub Gives : Procedure → (arguments : List ℕ) → (result : ℕ) → Type 0
Gives m xs v =
    (p : Program) (q : ℕ) → slice_get p.procedures q ≡ Some m
    → (f : Frame State) (fs : List (Frame State)) (ram : List ℕ) (w : World History)
    → (left : List LocalState) × Leads (language p) (codes_in p.procedures) 0
    (conf q 0 (f ∷ fs) (with_locals ram (begun m.widths xs)) w)
    (conf f.proc (suc f.pc) fs (resume f.awaits f.kept (with_locals ram left) v) w)

-- The arguments behind the two operands: which result of a division is wanted, or the bits that a shift to the right sees.
abbrev pub others : Operator → (width : ℕ) → List ℕ
others Divide w = 0 ∷ []
others Remainder w = 1 ∷ []
others ShiftRight w = (256 ^ w - 1) ∷ []
others op w = []

-- In how many bytes each argument is passed: the operands in four.
abbrev pub others_widths : Operator → List ℕ
others_widths Divide = 1 ∷ []
others_widths Remainder = 1 ∷ []
others_widths ShiftRight = 4 ∷ []
others_widths op = []

abbrev pub passed_widths : Operator → List ℕ
passed_widths op = 4 ∷ 4 ∷ others_widths op

-- An amount of a shift has four bytes.
abbrev pub IsAmount : Operator → ℕ → Type 0
IsAmount ShiftLeft y = y < 2 ^ 32
IsAmount ShiftRight y = y < 2 ^ 32
IsAmount op y = Unit {0}

-- The procedure is the routine of the operator: for all numbers, the low bytes of what it gives, so many as the width says, are what
-- the operator computes.
abbrev pub IsRoutineOf : Operator → Procedure → Type 0
IsRoutineOf op m =
    (w x y v : ℕ) → IsWidth w → IsAmount op y → computed op w x y ≡ Some v → (z : ℕ) × (low w z ≡ v) × Gives m (x ∷ y ∷ others op w) z

-- A routine is small and ends: it has at most six parameters and locals, and no jump back.
pub record IsShort (m : Procedure) : Type 0 where
  pub few : length m.widths ≤ 6
  pub onwards : all_lead_on 0 m.code ≡ true

-- The number of an operator's routine.
abbrev pub routine_of : Operator → Option ℕ
routine_of Times = Some 0
routine_of Divide = Some 1
routine_of Remainder = Some 1
routine_of ShiftLeft = Some 2
routine_of ShiftRight = Some 3
routine_of op = None

-- The procedure is the routine with this number, for each operator that has it. It calls no other one, and needs none.
pub record IsRoutine (which : ℕ) (m : Procedure) : Type 0 where
  pub gives : (op : Operator) → routine_of op ≡ Some which → IsRoutineOf op m
  pub takes : (op : Operator) (w : ℕ) → routine_of op ≡ Some which → m.params ≡ suc (suc (length (others op w)))
  pub passes : (op : Operator) → routine_of op ≡ Some which → take m.params m.widths ≡ passed_widths op
  pub result : m.result ≡ 4
  pub unnamed : m.method ≡ None
  pub short : IsShort m
  pub simple : are_simple m.code ≡ true
