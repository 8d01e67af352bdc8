-- The code by which a procedure leads to another place: jumps, branches, and calls.
use Rattle.std.specs.Prelude.{ℕ, ◌≡◌, ◌+◌, ◌<◌, ◌⊎◌, ◌==◌, Bool, true, false, not, ◌&&◌, nat_lt, List, [], ◌∷◌, ◌++◌, length}
use Rattle.avr_instr.specs.declared.instr.Instr.{Instr}
use Rattle.avr_instr.specs.declared.instr.Instr.TheVariants.{Jmp, Rjmp}
use Rattle.avr_isa.specs.Standing.{widths}
use Rattle.vg_lin.specs.declared.instr.Callee.{Callee}
use Rattle.vg_lin.specs.declared.instr.Callee.TheVariants.{Procedure as ByNumber, Code as ByCode}
use Rattle.vg_lin.specs.declared.instr.Passed.{Passed}
use Rattle.vg_lin.specs.declared.instr.Call.{Call as Calling}
use Rattle.vg_lin.specs.Meaning.{operands}
use Rattle.vg_templates.specs.Layouts.{Layout}
use Rattle.vg_templates.specs.Held.{brings}
use Rattle.vg_templates.specs.Pointers.{brings_z}
use Rattle.vg_templates.specs.Plain.{pushes_value}
use Rattle.vg_templates.specs.Branches.{near_branch}
use Rattle.vg_templates.specs.Calls.{Way, ByZ, by_registers}

-- how a jump gets to another place: by a signed distance of twelve bits, or to a word address
pub data Hop : Type 0 where
  Near : (distance : ℕ) → Hop
  Far : (to : ℕ) → Hop

abbrev pub jump_code : Hop → List Instr
jump_code (Near k) = Rjmp k ∷ []
jump_code (Far to) = Jmp to ∷ []

-- how a branch does: by a signed distance of seven bits, or past a jump that is not taken
pub data Turn : Type 0 where
  Direct : (distance : ℕ) → Turn
  Past : Hop → Turn

abbrev pub branch_code : (bit : ℕ) (wanted : Bool) → Turn → List Instr
branch_code bit wanted (Direct k) = near_branch bit wanted k
branch_code bit wanted (Past h) = near_branch bit (not wanted) (widths (jump_code h)) ++ jump_code h

-- the last arguments of a call, which linear code passes beside those that wait, are pushed behind these; and how many bytes they take
abbrev pub passes : Layout → List Passed → List Instr
passes l [] = []
passes l (a ∷ as') = pushes_value l a.width a.value ++ passes l as'

abbrev pub passed_bytes : List Passed → ℕ
passed_bytes [] = 0
passed_bytes (a ∷ as') = a.width + passed_bytes as'

-- or they come into registers, one behind the other from one on
abbrev pub carries : Layout → (first : ℕ) → List Passed → List Instr
carries l r [] = []
carries l r (a ∷ as') = brings l a.value r a.width ++ carries l (r + a.width) as'

abbrev pub passed_widths : List Passed → List ℕ
passed_widths [] = []
passed_widths (a ∷ as') = a.width ∷ passed_widths as'

-- A call goes by registers, where none of its arguments waits and the widths of what it passes let it.
abbrev pub goes_by_registers : Calling → Bool
goes_by_registers c = (c.pushed == 0) && by_registers (passed_widths (operands c.registers))

-- Where some of its arguments wait, it passes the last four beside them: so many do not go in registers.
abbrev pub IsDivided : Calling → Type 0
IsDivided c = (c.pushed ≡ 0) ⊎ (4 < c.pushed + length (operands c.registers))

-- its last arguments, and how many of their bytes are pushed
abbrev pub passes_by : (by_registers : Bool) → Layout → List Passed → List Instr
passes_by true l as' = carries l 18 as'
passes_by false l as' = passes l as'

abbrev pub pushed_by_call : (by_registers : Bool) → List Passed → ℕ
pushed_by_call true as' = 0
pushed_by_call false as' = passed_bytes as'

-- a code number comes into Z
abbrev pub aims : Layout → Callee → List Instr
aims l (ByNumber q) = []
aims l (ByCode a) = brings_z l a

abbrev pub way_of : Callee → Way → Way
way_of (ByNumber q) w = w
way_of (ByCode a) w = ByZ

abbrev pub is_none : List ℕ → Bool
is_none [] = true
is_none (w ∷ ws) = false

-- arguments are dropped at once where that is shorter, and can be done: nothing else waits, and Y is the frame pointer
abbrev pub drops_at_once : Layout → (left : List ℕ) (bytes : ℕ) → Bool
drops_at_once l left n = l.pointed && is_none left && nat_lt 2 n
